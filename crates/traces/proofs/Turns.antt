-- The steps of a list, one at a time: a fine step leaves the rest to its marking, a refused one ends the list, and behind the last nothing is left.
use Rattle.std.specs.Prelude.{Err, Ok}
use mathlib.Core.Path.{◌≡◌, sym, ap, ◌∙◌}
use mathlib.Core.List.{List, ◌∷◌}
use Prim.Native.Nat.{ℕ, suc, ◌+◌, ◌≤◌, ◌<◌}
use native.Mathlib.Omega.{arith}
use lib.ListN.{length, get_or, drop, drop_of_length-le}
use lib.Seq.{drop-cons}
use Rattle.refusals.specs.declared.Refusal.{Refusal}
use Rattle.refusals.specs.Refusals.{Check}
use Rattle.format.specs.Read.{Read}
use Rattle.format.specs.Contents.{Contents}
use Rattle.walk.specs.Walk.{step_of}
use Rattle.walk.specs.declared.Marking.{Marking}
use Rattle.walk.specs.declared.Moved.{Moved}
use Rattle.traces.specs.Traces.{Traced}
use Rattle.traces.specs.Traces.{traced, numbered, unless, steps_from}

-- m is the marking before the call, and i steps were fine
module _ (y : Read Contents) (m : Marking) (list : List ℕ) (i : ℕ) (held : Marking) where
  abbrev left : Traced
  left = steps_from y m (i + 1) (drop i list) held

  abbrev after : Moved → Traced
  after s = unless s.answer (i + 1) m (steps_from y m (i + 1 + 1) (drop (i + 1) list) s.marking)

  one_more : i < length list → left ≡ after (step_of y (numbered (get_or list i 0)) held)
  unfolding steps_from
  one_more h =
      let next : suc i ≡ i + 1 = omega arith in
      ap (λ (ts : List ℕ). steps_from y m (i + 1) ts held) (drop-cons list i 0 h ∙ ap (λ (k : ℕ). get_or list i 0 ∷ drop k list) next)

  pub none_left : length list ≤ i → left ≡ traced 0 (Ok tt) held
  unfolding steps_from
  none_left h = ap (λ (ts : List ℕ). steps_from y m (i + 1) ts held) (drop_of_length-le list h)

  module _ (below : i < length list) where
    abbrev s : Moved
    s = step_of y (numbered (get_or list i 0)) held

    pub goes_on : (next : Marking) → s.answer ≡ Ok tt → next ≡ s.marking → left ≡ steps_from y m (i + 1 + 1) (drop (i + 1) list) next
    goes_on next e is =
        one_more below
        ∙ ap (λ (q : Check). unless q (i + 1) m (steps_from y m (i + 1 + 1) (drop (i + 1) list) s.marking)) e
        ∙ ap (steps_from y m (i + 1 + 1) (drop (i + 1) list)) (sym is)

    pub stops : {r : Refusal} → s.answer ≡ Err r → left ≡ traced (i + 1) (Err r) m
    stops e = one_more below ∙ ap (λ (q : Check). unless q (i + 1) m (steps_from y m (i + 1 + 1) (drop (i + 1) list) s.marking)) e
