-- `verdict_of` meets its contract: where nothing is refused, the verdict is that of what was asked.
use Rattle.std.proofs.Common.{sym, ◌∙◌, length}
use Rattle.verdicts.proofs.Asked.{judged_so, wiped_so}
use Rattle.verdicts.proofs.verdict_of.Goals as goal

pub returns-clause-judged : goal.returns-clause-judged
returns-clause-judged c = judged_so c.args.claim (length c.args.marks.now) (length c.args.queue.now) _ _ _ c.in_ok-sheet.ensures c.in_ok-half_space.ensures.value (sym c.fit.ensures ∙ c.if-not-fit.false) _ c.settle.ensures.judges

pub returns-clause-marks_after : goal.returns-clause-marks_after
returns-clause-marks_after c = wiped_so c.args.claim (length c.args.marks.now) (length c.args.queue.now) _ _ _ c.in_ok-sheet.ensures c.in_ok-half_space.ensures.value (sym c.fit.ensures ∙ c.if-not-fit.false) _ _ c.settle.ensures.marks_wiped

pub returns-clause-queue_after : goal.returns-clause-queue_after
returns-clause-queue_after c = wiped_so c.args.claim (length c.args.marks.now) (length c.args.queue.now) _ _ _ c.in_ok-sheet.ensures c.in_ok-half_space.ensures.value (sym c.fit.ensures ∙ c.if-not-fit.false) _ _ c.settle.ensures.queue_wiped
