-- A list moves the marking as its single steps would: a fine one is a walk of fine steps, and a refused one has the position, the number and the detail of the first step that is refused.
use Rattle.std.specs.Prelude.{Err, Ok}
use mathlib.Core.Path.{◌≡◌, refl, ap, ◌∙◌}
use mathlib.Core.List.{List, [], ◌∷◌, ◌++◌, map}
use Prim.Native.Nat.{ℕ, ◌+◌}
use native.Mathlib.Omega.{arith}
use lib.ListN.{length}
use Rattle.refusals.specs.declared.Refusal.{Refusal}
use Rattle.terms.specs.declared.Transition.{Transition}
use Rattle.refusals.specs.Refusals.{Check}
use Rattle.format.specs.Read.{Read}
use Rattle.format.specs.Contents.{Contents}
use Rattle.walk.specs.Walk.{step_of, walked, AllFine}
use Rattle.walk.specs.declared.Marking.{Marking}
use Rattle.traces.specs.Traces.{Traced}
use Rattle.traces.specs.Traces.{traced, numbered, unless, steps_from, fired_list}

abbrev pub steps : List ℕ → List Transition
steps ts = map numbered ts

-- The step by t is the first that is refused: those before it are fine.
pub record Stopped (y : Read Contents) (ts : List ℕ) (held : Marking) (q : Refusal) (before : List ℕ) : Type 0 where
  pub t : ℕ
  pub behind : List ℕ
  pub parts : ts ≡ before ++ (t ∷ behind)
  pub fine_before : AllFine y (steps before) held
  pub is_refused : (step_of y (numbered t) (walked y (steps before) held)).answer ≡ Err q

pub data Ended (y : Read Contents) (ts : List ℕ) (held : Marking) : Type 0 where
  all_fine : AllFine y (steps ts) held → Ended y ts held
  stopped : (q : Refusal) (before : List ℕ) → Stopped y ts held q before → Ended y ts held

-- m is the marking before the call
module _ (y : Read Contents) (m : Marking) where
  abbrev behind_step : Check → ℕ → ℕ → List ℕ → Marking → Traced
  behind_step q t position ts held = unless q position m (steps_from y m (position + 1) ts (step_of y (numbered t) held).marking)

  pub fires_all : (ts : List ℕ) (position : ℕ) (held : Marking) → AllFine y (steps ts) held → steps_from y m position ts held ≡ traced 0 (Ok tt) (walked y (steps ts) held)
  unfolding steps_from walked AllFine
  fires_all [] position held a = refl
  fires_all (t ∷ ts) position held a = ap (λ (q : Check). behind_step q t position ts held) a.0 ∙ fires_all ts (position + 1) (step_of y (numbered t) held).marking a.1

  stops_at : (before : List ℕ) (t : ℕ) (behind : List ℕ) (q : Refusal) (position : ℕ) (held : Marking) → AllFine y (steps before) held → (step_of y (numbered t) (walked y (steps before) held)).answer ≡ Err q
      → steps_from y m position (before ++ (t ∷ behind)) held ≡ traced (position + length before) (Err q) m
  unfolding steps_from walked AllFine
  stops_at [] t behind q position held a e = ap (λ (q : Check). behind_step q t position behind held) e ∙ ap (λ (p : ℕ). traced p (Err q) m) (omega arith)
  stops_at (u ∷ before) t behind q position held a e =
      ap (λ (q : Check). behind_step q u position (before ++ (t ∷ behind)) held) a.0
      ∙ stops_at before t behind q (position + 1) (step_of y (numbered u) held).marking a.1 e
      ∙ ap (λ (p : ℕ). traced p (Err q) m) (omega arith)

  pub stops_there : (ts before : List ℕ) (q : Refusal) → Stopped y ts m q before → fired_list y ts m ≡ traced (length before + 1) (Err q) m
  stops_there ts before q s =
      ap (λ (ts : List ℕ). fired_list y ts m) s.parts
      ∙ stops_at before s.t s.behind q 1 m s.fine_before s.is_refused
      ∙ ap (λ (p : ℕ). traced p (Err q) m) (omega arith)

-- Every list is either fine in all its steps or stopped at one of them.
pub ended : (y : Read Contents) (ts : List ℕ) (held : Marking) → Ended y ts held
unfolding walked AllFine
ended y [] held = all_fine tt
ended y (t ∷ ts) held = by (step_of y (numbered t) held).answer refl (ended y ts (step_of y (numbered t) held).marking)
  where
    by : (q : Check) → (step_of y (numbered t) held).answer ≡ q → Ended y ts (step_of y (numbered t) held).marking → Ended y (t ∷ ts) held
    by (Err q) e rest = stopped q [] (record { t = t; behind = ts; parts = refl; fine_before = tt; is_refused = e })
    by (Ok u) e (all_fine a) = all_fine (e, a)
    by (Ok u) e (stopped q before s) =
        stopped q (t ∷ before) (record { t = s.t; behind = s.behind; parts = ap (λ (ts : List ℕ). t ∷ ts) s.parts; fine_before = (e, s.fine_before); is_refused = s.is_refused })
