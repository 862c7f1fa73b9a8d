-- The answers of a list call, each given just where 02 says so: the sheet's refusal, 17, the first step that is refused, and fine.
use Rattle.std.specs.Prelude.{Err, Ok}
use mathlib.Core.Path.{◌≡◌, refl, sym, ap, ◌∙◌}
use mathlib.Core.List.{List, []}
use mathlib.Core.Logic.{◌↔◌, ◌⊎◌, inl, inr, ⊎_elim}
use Prim.Native.Nat.{ℕ, ◌+◌, ◌≤◌, ◌<◌}
use native.Mathlib.Omega.{arith}
use lib.ListN.{length}
use Rattle.terms.specs.Limits.{most_firings}
use Rattle.refusals.specs.declared.Refusal.TheVariants.{LongList}
use Rattle.refusals.specs.declared.Refusal.{Refusal}
use Rattle.format.specs.Read.{Read}
use Rattle.format.specs.Contents.{Contents}
use Rattle.walk.specs.Walk.{walked, AllFine}
use Rattle.walk.specs.declared.Marking.{Marking}
use Rattle.walk.proofs.Exactly.{below_or_not}
use Rattle.traces.specs.Traces.{Traced}
use Rattle.traces.specs.Traces.{traced, steps_from, list_of}
use Rattle.traces.proofs.Order.{long_refused, short_fired}
use Rattle.traces.proofs.Lists.{steps, Stopped, Ended, all_fine, stopped, fires_all, stops_there, ended}

ok_not_refused : {A : Type 0} {a : A} {r : Refusal} → Ok a ≡ Err r → ⊥
ok_not_refused e = let z : ◌≡◌ {A = ℕ} 0 1 = cc in omega arith

-- An empty list tests no step and changes nothing.
pub empty_fine : (x : Contents) (m : Marking) → list_of (Ok x) [] m ≡ traced 0 (Ok tt) m
unfolding steps_from
empty_fine x m = refl

module _ (list : List ℕ) (m : Marking) where
  pub data Outcome (y : Read Contents) (a : Traced) : Type 0 where
    bad_sheet : (r : Refusal) → y ≡ Err r → a ≡ traced 0 (Err r) m → Outcome y a
    too_long : (x : Contents) → y ≡ Ok x → most_firings < length list → a ≡ traced 0 (Err (LongList (length list))) m → Outcome y a
    at_step : (x : Contents) → y ≡ Ok x → length list ≤ most_firings → (q : Refusal) (before : List ℕ) → Stopped y list m q before → a ≡ traced (length before + 1) (Err q) m → Outcome y a
    fine : (x : Contents) → y ≡ Ok x → length list ≤ most_firings → AllFine y (steps list) m → a ≡ traced 0 (Ok tt) (walked y (steps list) m) → Outcome y a

  by_steps : (x : Contents) → length list ≤ most_firings → Ended (Ok x) list m → Outcome (Ok x) (list_of (Ok x) list m)
  by_steps x h (all_fine a) = fine x refl h a (short_fired (Ok x) x refl list m h ∙ fires_all (Ok x) m list 1 m a)
  by_steps x h (stopped q before s) = at_step x refl h q before s (short_fired (Ok x) x refl list m h ∙ stops_there (Ok x) m list before q s)

  pub outcome : (y : Read Contents) → Outcome y (list_of y list m)
  outcome (Err r) = bad_sheet r refl refl
  outcome (Ok x) =
      ⊎_elim (λ h. too_long x refl h (long_refused (Ok x) x refl list m h)) (λ h. by_steps x h (ended (Ok x) list m)) (below_or_not most_firings (length list))

  module _ (y : Read Contents) where
    abbrev told : Traced
    told = list_of y list m

    answered : {a : Traced} → told ≡ a → told.answer ≡ a.answer
    answered e = ap (λ (a : Traced). a.answer) e

    -- A fine list: the sheet is sound, the list is no longer than 64, and every step is fine; the marking is where the steps lead.
    pub record AsSteps : Type 0 where
      pub contents : Contents
      pub is_read : y ≡ Ok contents
      pub few : length list ≤ most_firings
      pub each_fine : AllFine y (steps list) m

    pub fine_exactly : (told.answer ≡ (Ok tt)) ↔ AsSteps
    fine_exactly = (λ e. only (outcome y) e, given)
      where
        only : Outcome y told → told.answer ≡ (Ok tt) → AsSteps
        only (bad_sheet r s g) e = absurd (ok_not_refused (sym e ∙ answered g))
        only (too_long x s h g) e = absurd (ok_not_refused (sym e ∙ answered g))
        only (at_step x s h q before p g) e = absurd (ok_not_refused (sym e ∙ answered g))
        only (fine x s h a g) e = record { contents = x; is_read = s; few = h; each_fine = a }

        given : AsSteps → told.answer ≡ (Ok tt)
        given w = answered (short_fired y w.contents w.is_read list m w.few ∙ fires_all y m list 1 m w.each_fine)

    pub fine_walked : told.answer ≡ (Ok tt) → told ≡ traced 0 (Ok tt) (walked y (steps list) m)
    fine_walked e =
        let w = fine_exactly.0 e in
        short_fired y w.contents w.is_read list m w.few ∙ fires_all y m list 1 m w.each_fine

    -- A refused list: the marking is that before the call, and the position is 0 exactly where no step was tried.
    module _ {r : Refusal} (e : told.answer ≡ Err r) where
      pub refused_stays : told.marking ≡ m
      refused_stays = by (outcome y)
        where
          by : Outcome y told → told.marking ≡ m
          by (bad_sheet q s g) = ap (λ (a : Traced). a.marking) g
          by (too_long x s h g) = ap (λ (a : Traced). a.marking) g
          by (at_step x s h q before p g) = ap (λ (a : Traced). a.marking) g
          by (fine x s h a g) = absurd (ok_not_refused (sym (answered g) ∙ e))

      abbrev NoneTried : Type 0
      NoneTried = ((q : Refusal) × (y ≡ Err q)) ⊎ (most_firings < length list)

      pub none_tried : (told.position ≡ 0) ↔ NoneTried
      none_tried = (only (outcome y), given (outcome y))
        where
          at : {a : Traced} → told ≡ a → told.position ≡ a.position
          at g = ap (λ (a : Traced). a.position) g

          only : Outcome y told → told.position ≡ 0 → NoneTried
          only (bad_sheet q s g) z = inl (q, s)
          only (too_long x s h g) z = inr h
          only (at_step x s h q before p g) z = absurd (omega (arith, at g, z))
          only (fine x s h a g) z = absurd (ok_not_refused (sym (answered g) ∙ e))

          given : Outcome y told → NoneTried → told.position ≡ 0
          given (bad_sheet q s g) t = at g
          given (too_long x s h g) t = at g
          given (at_step x s h q before p g) (inl (u, b)) = absurd (ok_not_refused (sym s ∙ b))
          given (at_step x s h q before p g) (inr l) = absurd (omega (arith, h, l))
          given (fine x s h a g) t = at g
