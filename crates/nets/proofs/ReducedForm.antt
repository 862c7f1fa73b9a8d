-- A claim has at most one reduced form: two greatest divisors are equal, they are not zero since one divides everything, and what gives the same product is the same.
-- Twins are then as they should be: the reduced form of the one is that of the other.
use mathlib.Core.Path.{◌≡◌, refl, sym, ◌∙◌}
use mathlib.Core.Logic.{inl, inr}
use mathlib.Core.List.{List, [], ◌∷◌, map}
use Prim.Native.Nat.{ℕ, ◌+◌, ◌≤◌}
use native.Mathlib.Nat.{eq_of_mul-eq-mul_right}
use native.Mathlib.Omega.{arith}
use lib.IntN.{ℤ, pos, ◌*ℤ◌}
use Rattle.signed.specs.Parts.{positive_part, negative_part, eq_out}
use Rattle.signed.specs.Linear.{linear}
use Rattle.nets.specs.HalfSpaces.{HalfSpace}
use Rattle.nets.specs.Reduced.{EachOf, Divides, IsDivisor, divided_by, IsDivided, IsReduced, Twins}

-- one divides everything
pub one_divides : (zs : List ℤ) → EachOf (Divides 1) zs
unfolding EachOf Divides
one_divides [] = tt
one_divides (z ∷ zs) = ((z, simp linear (omega arith)), one_divides zs)

pub divisor_above_zero : (zs : List ℤ) (d : ℕ) → IsDivisor zs d → 1 ≤ d
divisor_above_zero zs d g = g.greatest 1 (one_divides zs)

-- what gives the same product is the same
pub same_factor : (d : ℕ) → 1 ≤ d → (a b : ℤ) → a *ℤ pos d ≡ b *ℤ pos d → a ≡ b
same_factor d h a b e = eq_out (eq_of_mul-eq-mul_right d h (positive_part a + negative_part b) (positive_part b + negative_part a) (omega (arith, simp linear at e)))

pub same_factors : (d : ℕ) → 1 ≤ d → (j k : List ℤ) → map (λ (z : ℤ). z *ℤ pos d) j ≡ map (λ (z : ℤ). z *ℤ pos d) k → j ≡ k
same_factors d h [] [] e = refl
same_factors d h [] (y ∷ k) e = absurd (let z : ◌≡◌ {A = ℕ} 0 1 = cc in omega arith)
same_factors d h (x ∷ j) [] e = absurd (let z : ◌≡◌ {A = ℕ} 0 1 = cc in omega arith)
same_factors d h (x ∷ j) (y ∷ k) e =
    let a : x ≡ y = same_factor d h x y (cc) in
    let b : j ≡ k = same_factors d h j k (cc) in
    cc

pub divided_once : (h r s : HalfSpace) → IsDivided h r → IsDivided h s → r ≡ s
divided_once h r s a b =
    let d : ℕ = a.divisor in
    let above : 1 ≤ d = divisor_above_zero (divided_by h) d a.is_divisor in
    let equal : b.divisor ≡ d = omega (arith, a.is_divisor.greatest b.divisor b.is_divisor.common, b.is_divisor.greatest d a.is_divisor.common) in
    let k : r.coefficients ≡ s.coefficients = same_factors d above r.coefficients s.coefficients (sym a.coefficients_divided ∙ rw equal at b.coefficients_divided) in
    let c : r.constant ≡ s.constant = same_factor d above r.constant s.constant (sym a.constant_divided ∙ rw equal at b.constant_divided) in
    λ i. record { coefficients = k i; constant = c i }

pub one_reduced_form : (h r s : HalfSpace) → IsReduced h r → IsReduced h s → r ≡ s
unfolding IsReduced
one_reduced_form h r s (inl a) (inl b) = a.1 ∙ sym b.1
one_reduced_form h r s (inl a) (inr b) = absurd (b.0 a.0)
one_reduced_form h r s (inr a) (inl b) = absurd (a.0 b.0)
one_reduced_form h r s (inr a) (inr b) = divided_once h r s a.1 b.1

pub twins_of_one : (h g r : HalfSpace) → Twins h g → IsReduced h r → IsReduced g r
unfolding Twins
twins_of_one h g r w a = rw (one_reduced_form h r w.0 a w.1) w.2

pub twins_both_ways : (h g : HalfSpace) → Twins h g → Twins g h
unfolding Twins
twins_both_ways h g w = (w.0, w.2, w.1)

pub own_twin : (h r : HalfSpace) → IsReduced h r → Twins h h
unfolding Twins
own_twin h r a = (r, a, a)
