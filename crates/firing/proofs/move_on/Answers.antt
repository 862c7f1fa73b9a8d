use Rattle.std.proofs.Common.{arith, ap, ◌∙◌, ℕ, List, ◌+◌, ◌-◌, slice_index_or}
use lib.ListN.{set}
use Rattle.values.specs.Held.{arcs_in}
use Rattle.firing.proofs.Fires.{enough_of, room_of, held_here, fired_step, fired_all}
use Rattle.firing.proofs.move_on.Goals as goal

pub overflow_sub-held : goal.overflow_sub-held
overflow_sub-held c =
    let a = c.args in
    let l = c.loop-p in
    omega (arith, c.from.ensures, enough_of a.tokens.now a.taken.now l.p (omega arith) c.requires.enabled, held_here (arcs_in a.taken.now a.put.now) a.tokens.now c.requires.taken c.requires.put l.tokens l.p l.invariant (omega arith))

pub overflow_add-held : goal.overflow_add-held
overflow_add-held c =
    let a = c.args in
    let l = c.loop-p in
    omega (arith, c.from.ensures, c.from-in-loop-p.ensures, room_of (arcs_in a.taken.now a.put.now) a.tokens.now c.requires.taken c.requires.put l.p (omega arith) c.requires.room, held_here (arcs_in a.taken.now a.put.now) a.tokens.now c.requires.taken c.requires.put l.tokens l.p l.invariant (omega arith))

pub loop-p-preserved : goal.loop-p-preserved
loop-p-preserved c =
    let a = c.args in
    let l = c.loop-p in
    let v : ℕ = slice_index_or l.tokens l.p 0 - c.from.result + c.from-in-loop-p.result in
    ap (λ (row : List ℕ). set row l.p v) l.invariant ∙ fired_step (arcs_in a.taken.now a.put.now) a.tokens.now c.requires.taken c.requires.put l.p v (omega arith) (omega (arith, c.from.ensures, c.from-in-loop-p.ensures, held_here (arcs_in a.taken.now a.put.now) a.tokens.now c.requires.taken c.requires.put l.tokens l.p l.invariant (omega arith)))

pub returns : goal.returns
returns c =
    let a = c.args in
    c.loop-p.invariant ∙ fired_all (arcs_in a.taken.now a.put.now) a.tokens.now c.requires.taken c.requires.put c.loop-p.p (omega arith)
