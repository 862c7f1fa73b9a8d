-- No refusal has the number 0, so the number 0 says that nothing is refused.
use Rattle.std.specs.Prelude.{Ok, Err}
use mathlib.Core.Path.{◌≡◌, refl, sym, ap, ◌∙◌}
use mathlib.Core.Bool.{Bool, true, false}
use mathlib.Core.List.{List}
use Prim.Native.Nat.{ℕ, ◌≤◌}
use native.Mathlib.Omega.{arith}
use lib.ListN.{length}
use Rattle.refusals.specs.Refusals.{Check, number_of}
use Rattle.refusals.specs.declared.Refusal.{Refusal}
use Rattle.refusals.specs.declared.Refusal.TheVariants.{Cut, Mark, Size, Weight, Kind, Coefficient, Constant, TooManyClaims, NoClaim, NotAClaim, NotATransition, SmallArea, NotEnabled, TooManyTokens, LongList, AllZero, SmallText}
use Rattle.terms.specs.declared.Claim.{Claim}
use Rattle.terms.specs.declared.Transition.{Transition}
use Rattle.terms.specs.Limits.{among}
use Rattle.nets.specs.Nets.{transition}
use Rattle.format.specs.Read.{Read, map_ok, need, choose}
use Rattle.format.specs.Contents.{Contents}
use Rattle.format.specs.Reading.{reading}
use Rattle.format.specs.Checked.{checked}
use Rattle.sheet.specs.Held.{weights_of, weights_shown, transition_check}
use Rattle.claims.specs.Held.{claim_check}
use Rattle.pairs.specs.Pairs.{pair_check}
use Rattle.verdicts.specs.Judged.{verdict_check}
use Rattle.listing.specs.Listed.{Lists, IsListed, room_check, listing_check}
use Rattle.walk.specs.Walk.{step_of}
use Rattle.walk.specs.declared.Marking.{Marking}
use Rattle.traces.specs.Traces.{Traced, halted_at, list_of}
use Rattle.numbers.specs.declared.Written.{Written}
use Rattle.numbers.specs.Numbers.{check_is, halt_is, traced_is, length_is}
use Rattle.krunvedo.specs.Exports.{IsListingText}

some_number : (r : Refusal) → 1 ≤ number_of r
some_number (Cut x) = omega arith
some_number (Mark x) = omega arith
some_number (Size x) = omega arith
some_number (Weight x) = omega arith
some_number (Kind x) = omega arith
some_number (Coefficient x) = omega arith
some_number (Constant x) = omega arith
some_number (TooManyClaims x) = omega arith
some_number (NoClaim x) = omega arith
some_number (NotAClaim x) = omega arith
some_number (NotATransition x) = omega arith
some_number SmallArea = omega arith
some_number (NotEnabled x) = omega arith
some_number (TooManyTokens x) = omega arith
some_number (LongList x) = omega arith
some_number (AllZero x) = omega arith
some_number SmallText = omega arith

zero_fine : (c : Check) → (check_is c).number ≡ 0 → c ≡ Ok tt
zero_fine (Ok u) e = refl
zero_fine (Err r) e = absurd (omega (arith, some_number r, e))

-- a listing's number is that of its check
number_in : (c : Check) (x : Contents) (old new : List ℕ) (l : Read ℕ) → Lists c x old new l → (check_is c).number ≡ (length_is l).number
number_in (Ok u) x old new l (text, listing, e, after) = ap (λ (k : Read ℕ). (length_is k).number) (sym e)
number_in (Err r) x old new l (e, after) = ap (λ (k : Read ℕ). (length_is k).number) (sym e)

listed-number : (y : Read Contents) (m q : ℕ) (old new : List ℕ) (l : Read ℕ) → IsListed y m q old new l → (check_is (listing_check y m q (length old))).number ≡ (length_is l).number
listed-number (Ok x) m q old new l e = number_in (room_check m q (length old)) x old new l e
listed-number (Err r) m q old new l (e, after) = ap (λ (k : Read ℕ). (length_is k).number) (sym e)

traced_number : (a : Traced) → (traced_is a).refusal.number ≡ (check_is a.answer).number
traced_number a = by_answer a.position a.answer
  where
    by_answer : (p : ℕ) (q : Check) → (halt_is (halted_at p q)).refusal.number ≡ (check_is q).number
    by_answer p (Ok u) = refl
    by_answer p (Err r) = refl

-- what the weights' answer passes on
pub weights_check : (y : Read Contents) (t : Transition) → checked (weights_of y t) ≡ transition_check y t
unfolding weights_of
weights_check (Err r) t = refl
weights_check (Ok x) t = by (among t.0 (length x.setting.net.transitions))
  where
    by : (q : Bool) → checked (map_ok weights_shown (choose q (Ok (transition x.setting.net t.0)) (Err (NotATransition t)))) ≡ need q (NotATransition t)
    by true = refl
    by false = refl

-- The number 0 says that nothing is refused, of each check that the exports pass on.
module _ (s : List ℕ) where
  pub read_zero : (check_is (checked (reading s))).number ≡ 0 → checked (reading s) ≡ Ok tt
  read_zero = zero_fine (checked (reading s))

  pub claim-zero : (i : Claim) → (check_is (claim_check (reading s) i)).number ≡ 0 → claim_check (reading s) i ≡ Ok tt
  claim-zero i = zero_fine (claim_check (reading s) i)

  pub transition-zero : (t : Transition) → (check_is (transition_check (reading s) t)).number ≡ 0 → transition_check (reading s) t ≡ Ok tt
  transition-zero t = zero_fine (transition_check (reading s) t)

  pub pair_zero : (i : Claim) (t : Transition) (m q : ℕ) → (check_is (pair_check (reading s) i t m q)).number ≡ 0 → pair_check (reading s) i t m q ≡ Ok tt
  pair_zero i t m q = zero_fine (pair_check (reading s) i t m q)

  pub verdict_zero : (i : Claim) (m q : ℕ) → (check_is (verdict_check (reading s) i m q)).number ≡ 0 → verdict_check (reading s) i m q ≡ Ok tt
  verdict_zero i m q = zero_fine (verdict_check (reading s) i m q)

  pub step_zero : (t : Transition) (m : Marking) → (check_is (step_of (reading s) t m).answer).number ≡ 0 → (step_of (reading s) t m).answer ≡ Ok tt
  step_zero t m = zero_fine (step_of (reading s) t m).answer

  pub list-zero : (list : List ℕ) (m : Marking) → (traced_is (list_of (reading s) list m)).refusal.number ≡ 0 → (list_of (reading s) list m).answer ≡ Ok tt
  list-zero list m e = zero_fine (list_of (reading s) list m).answer (sym (traced_number (list_of (reading s) list m)) ∙ e)

  pub listing_zero : (m q : ℕ) (old new : List ℕ) (r : Written) → IsListingText (reading s) m q old new r → r.number ≡ 0 → listing_check (reading s) m q (length old) ≡ Ok tt
  listing_zero m q old new r (l, is, f) e =
      zero_fine (listing_check (reading s) m q (length old)) (listed-number (reading s) m q old new l is ∙ sym (ap (λ (w : Written). w.number) f) ∙ e)
