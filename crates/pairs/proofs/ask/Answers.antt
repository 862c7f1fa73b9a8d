-- `ask` meets its contract: both areas are as long as what is wiped.
use Rattle.lent.proofs.Lent.{wiped_whole}
use Rattle.pairs.proofs.ask.Goals as goal

pub returns-in-Some-clause-marks_wiped : goal.returns-in-Some-clause-marks_wiped
returns-in-Some-clause-marks_wiped c = wiped_whole 20000 _ _ c.crossing_of-crossing.array_long c.wipe.ensures.0

pub returns-in-Some-clause-queue_wiped : goal.returns-in-Some-clause-queue_wiped
returns-in-Some-clause-queue_wiped c = wiped_whole 20000 _ _ c.crossing_of-crossing.array_long2 c.wipe.ensures.1

pub returns-in-None-clause-marks_wiped : goal.returns-in-None-clause-marks_wiped
returns-in-None-clause-marks_wiped c = wiped_whole 20000 _ _ c.crossing_of-crossing.array_long c.wipe.ensures.0

pub returns-in-None-clause-queue_wiped : goal.returns-in-None-clause-queue_wiped
returns-in-None-clause-queue_wiped c = wiped_whole 20000 _ _ c.crossing_of-crossing.array_long2 c.wipe.ensures.1
