-- `distinct::spread` meets its contract. The invariant: what was put back and what is still to be put back add up (`Rest` of PutBack.antt).
use Rattle.std.proofs.Common.{rules, arith, inl, inr}
use Rattle.distinct.proofs.PutBack.{rest_start, rest_step, rest_room, rest_end}
use Rattle.distinct.proofs.spread.Goals as goal

pub loop-place-init : goal.loop-place-init
loop-place-init c = rest_start c.args.places.now c.args.y.now c.args.x.now _ _ (search rules) (search rules) c.requires.places_len.0 c.requires.inside c.requires.places_len.1

pub overflow_add-x : goal.overflow_add-x
overflow_add-x c =
    let s = c.in-Some.ensures.steps in
    let a = c.args in
    record { fits = omega (arith, rest_room a.places.now a.y.now c.loop-place.x _ _ _ _ _ c.from.result _ s.0 s.1 c.from.ensures c.loop-place.invariant, c.requires.places_len.2) }

pub loop-place-preserved : goal.loop-place-preserved
loop-place-preserved c =
    let s = c.in-Some.ensures.steps in
    let a = c.args in
    rest_step a.places.now a.y.now c.loop-place.x _ _ _ _ _ c.from.result _ s.0 s.1 c.from.ensures c.loop-place.invariant

pub returns : goal.returns
returns c =
    let a = c.args in
    rest_end a.places.now a.y.now c.loop-place.x _ _ (elim c.in-None.ensures.steps [ inl e ↦ inl e.1.0 | inr e ↦ inr e.1.0 ]) c.loop-place.invariant
