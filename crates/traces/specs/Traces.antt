-- A list of transitions fired in one call: 02, req 01.
use Rattle.std.specs.Prelude.{List, [], ◌∷◌, ℕ, ◌+◌, leb, length, Err, Ok, Result}
use Rattle.terms.specs.Limits.{most_firings}
use Rattle.refusals.specs.declared.Refusal.TheVariants.{LongList}
use Rattle.terms.specs.declared.Transition.{Transition}
use Rattle.format.specs.Read.{Read, choose}
use Rattle.format.specs.Contents.{Contents}
use Rattle.refusals.specs.Refusals.{Check}
use Rattle.walk.specs.Walk.{step_of}
use Rattle.walk.specs.declared.Marking.{Marking}
use Rattle.traces.specs.declared.Halt.{Halt}

-- an answer at a position, and the marking that goes with it
pub record Traced : Type 0 where
  pub position : ℕ
  pub answer : Check
  pub marking : Marking

abbrev pub traced : ℕ → Check → Marking → Traced
traced position answer m = record { position = position; answer = answer; marking = m }

abbrev pub numbered : ℕ → Transition
numbered t = record { 0 = t }

-- A refused step ends the list: the answer has its position, and the marking is that before the call. Behind any other the rest decides.
abbrev pub unless : Check → ℕ → Marking → Traced → Traced
unless (Ok u) position m rest = rest
unless (Err r) position m rest = traced position (Err r) m

-- The steps from a position on, each from the marking that the step before it left; m is the marking before the call.
unfoldable pub steps_from : Read Contents → Marking → ℕ → List ℕ → Marking → Traced
steps_from y m position [] held = traced 0 (Ok tt) held
steps_from y m position (t ∷ ts) held = unless (step_of y (numbered t) held).answer position m (steps_from y m (position + 1) ts (step_of y (numbered t) held).marking)

-- Positions are counted from 1.
abbrev pub fired_list : Read Contents → List ℕ → Marking → Traced
fired_list y list m = steps_from y m 1 list m

-- the sheet's refusal, then 17, before any step is tried
abbrev pub list_of : Read Contents → List ℕ → Marking → Traced
list_of (Err r) list m = traced 0 (Err r) m
list_of (Ok x) list m = choose (leb (length list) most_firings) (fired_list (Ok x) list m) (traced 0 (Err (LongList (length list))) m)

-- where the list stopped, if it did
abbrev pub halted_at : ℕ → Check → Result (Unit {0}) Halt
halted_at position (Ok u) = Ok tt
halted_at position (Err r) = Err (record { position = position; refusal = r })

abbrev pub halted : Traced → Result (Unit {0}) Halt
halted a = halted_at a.position a.answer
