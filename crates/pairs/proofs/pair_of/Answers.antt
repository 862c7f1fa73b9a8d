-- `pair_of` meets its contract: where nothing is refused, the answer is that of what was asked.
use Rattle.std.proofs.Common.{refl, rules, length}
use Rattle.pairs.proofs.Asked.{asked_so}
use Rattle.pairs.proofs.pair_of.Goals as goal

pub returns-clause-pair : goal.returns-clause-pair
returns-clause-pair c =
    let a = c.args in
    rw (asked_so a.claim a.transition (length a.marks.now) (length a.queue.now) c.in_ok-sheet.ensures c.in_ok-half_space.ensures.value c.in_ok-arcs.ensures.value (search rules)) c.ask.ensures.says

pub returns-clause-marks_after : goal.returns-clause-marks_after
returns-clause-marks_after c =
    let a = c.args in
    rw (asked_so a.claim a.transition (length a.marks.now) (length a.queue.now) c.in_ok-sheet.ensures c.in_ok-half_space.ensures.value c.in_ok-arcs.ensures.value (search rules), c.ask.ensures.marks_wiped) refl

pub returns-clause-queue_after : goal.returns-clause-queue_after
returns-clause-queue_after c =
    let a = c.args in
    rw (asked_so a.claim a.transition (length a.marks.now) (length a.queue.now) c.in_ok-sheet.ensures c.in_ok-half_space.ensures.value c.in_ok-arcs.ensures.value (search rules), c.ask.ensures.queue_wiped) refl
