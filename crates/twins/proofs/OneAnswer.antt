-- Two answers that fit a statement are equal: a claim has one reduced form, and of two lowest twins neither is below the other.
use Rattle.std.specs.Prelude.{Err, Ok, Option, None, Some}
use mathlib.Core.Path.{◌≡◌, refl, sym, ap, ◌∙◌}
use mathlib.Core.Bool.{Bool, true, false}
use Prim.Native.Nat.{ℕ, ◌≤◌}
use native.Mathlib.Omega.{arith}
use lib.Dec.{ltb}
use borrow.Author.Tests.{ltb-true, ltb-false}
use Rattle.terms.specs.declared.Claim.{Claim}
use Rattle.nets.specs.HalfSpaces.{HalfSpace}
use Rattle.nets.proofs.ReducedForm.{one_reduced_form}
use Rattle.reduction.specs.declared.Form.{Form}
use Rattle.format.specs.Read.{Read}
use Rattle.format.specs.Contents.{Contents}
use Rattle.refusals.specs.Refusals.{Check}
use Rattle.claims.specs.Held.{claim_check, half_space_of}
use Rattle.twins.specs.Answers.{shown_form, IsReducedForm, IsReducedOf, NoTwinBefore, IsFirstTwin, IsTwinNumber, IsTwinIn, IsTwinOf}

-- reduced forms of a claim of a sheet
reduced_once : (y : Read HalfSpace) (r s : Read Form) → IsReducedForm y r → IsReducedForm y s → r ≡ s
reduced_once (Ok h) r s a b = a.2 ∙ ap (λ (f : HalfSpace). Ok (shown_form f)) (one_reduced_form h a.0 b.0 a.1 b.1) ∙ sym b.2
reduced_once (Err q) r s a b = a ∙ sym b

pub one_reduced : (y : Read Contents) (i : Claim) (r s : Read Form) → IsReducedOf y i r → IsReducedOf y i s → r ≡ s
one_reduced y i r s a b = reduced_once (half_space_of y i) r s a b

-- the lowest twin
first_one : (x : Contents) (i j k : ℕ) → IsFirstTwin x i j → IsFirstTwin x i k → k ≤ j
unfolding NoTwinBefore
first_one x i j k a b = by (ltb j k) refl
  where
    by : (t : Bool) → ltb j k ≡ t → k ≤ j
    by true e = absurd (b.lowest j a.some (ltb-true j k e) a.twin)
    by false e = ltb-false j k e

first_twin_once : (x : Contents) (i j k : ℕ) → IsFirstTwin x i j → IsFirstTwin x i k → j ≡ k
first_twin_once x i j k a b = omega (arith, first_one x i j k a b, first_one x i k j b a)

not_without : (x : Contents) (i j : ℕ) → IsFirstTwin x i j → NoTwinBefore x i i → ⊥
unfolding NoTwinBefore
not_without x i j a b = b j a.some a.earlier a.twin

same_claim : (j k : Claim) → j.0 ≡ k.0 → j ≡ k
same_claim j k e = ap (λ (n : ℕ). record { 0 = n }) e

pub one_number : (x : Contents) (i : ℕ) (j k : Option Claim) → IsTwinNumber x i j → IsTwinNumber x i k → j ≡ k
one_number x i None None a b = refl
one_number x i None (Some k) a b = absurd (not_without x i k.0 b a)
one_number x i (Some j) None a b = absurd (not_without x i j.0 a b)
one_number x i (Some j) (Some k) a b = ap Some (same_claim j k (first_twin_once x i j.0 k.0 a b))

twin_in : (q : Check) (x : Contents) (i : Claim) (r s : Read (Option Claim)) → IsTwinIn q x i r → IsTwinIn q x i s → r ≡ s
twin_in (Ok u) x i r s (t, a, e) (v, b, d) = e ∙ ap Ok (one_number x i.0 t v a b) ∙ sym d
twin_in (Err q) x i r s a b = a ∙ sym b

pub one_twin : (y : Read Contents) (i : Claim) (r s : Read (Option Claim)) → IsTwinOf y i r → IsTwinOf y i s → r ≡ s
one_twin (Err q) i r s a b = a ∙ sym b
one_twin (Ok x) i r s a b = twin_in (claim_check (Ok x) i) x i r s a b
