use Rattle.std.proofs.Common.{arith, sym, ◌∙◌}
use Rattle.values.specs.Held.{arcs_in}
use Rattle.firing.proofs.Lowest.{found, passed, all_passed}
use Rattle.firing.proofs.Fires.{enough_of, over_here, room_here}
use Rattle.firing.proofs.over.Goals as goal

pub overflow_sub-left : goal.overflow_sub-left
overflow_sub-left c =
    omega (arith, c.from.ensures, enough_of c.args.tokens.now c.args.taken.now c.loop-p.p (omega arith) c.requires.enabled)

pub returns-then-from-left : goal.returns-then-from-left
returns-then-from-left c =
    let a = c.args in
    let p = c.loop-p.p in
    sym (c.loop-p.invariant ∙ found _ _ _ p (omega arith) (over_here (arcs_in a.taken.now a.put.now) a.tokens.now c.requires.taken c.requires.put p (omega (arith, c.from.ensures, c.from-in-loop-p.ensures))))

pub loop-p-preserved : goal.loop-p-preserved
loop-p-preserved c =
    let a = c.args in
    let p = c.loop-p.p in
    c.loop-p.invariant ∙ passed _ _ _ p (omega arith) (room_here (arcs_in a.taken.now a.put.now) a.tokens.now c.requires.taken c.requires.put p (omega (arith, c.from.ensures, c.from-in-loop-p.ensures)))

pub returns : goal.returns
returns c = sym (c.loop-p.invariant ∙ all_passed _ _ _ c.loop-p.p (omega arith))
