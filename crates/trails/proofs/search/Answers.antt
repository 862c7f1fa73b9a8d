-- `trails::search` meets its contract: the parts' contracts, put together by Answer.antt.
use Rattle.trails.proofs.Answer.{led, nothing}
use Rattle.trails.proofs.search.Goals as goal

pub returns-in_err-h-clause-led : goal.returns-in_err-h-clause-led
returns-in_err-h-clause-led g c =
    let r = c.reach.ensures.same in
    rw c.from_residual.ensures (nothing _ _ _ _ _ _ _ _ r.steps r.size c.requires.room c.in_err-h.ensures.reached)

pub returns-clause-led : goal.returns-clause-led
returns-clause-led g c =
    let r = c.reach.ensures.same in
    led _ _ _ _ _ _ _ _ r.steps r.size c.requires.room _ _ c.in_ok-h.ensures.reached c.trail.ensures
