-- `written` meets its contract: both areas are as long as what is wiped.
use Rattle.lent.proofs.Lent.{wiped_whole}
use Rattle.listing.proofs.written.Goals as goal

pub returns-clause-marks_wiped : goal.returns-clause-marks_wiped
returns-clause-marks_wiped c = wiped_whole 20000 _ _ c.all_lines-end.array_long c.wipe.ensures.0

pub returns-clause-queue_wiped : goal.returns-clause-queue_wiped
returns-clause-queue_wiped c = wiped_whole 20000 _ _ c.all_lines-end.array_long2 c.wipe.ensures.1
