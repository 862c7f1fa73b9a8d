-- A claim divided by its divisor, or by one where all are zero, is its reduced form.
use mathlib.Core.Path.{◌≡◌, refl, sym, ap, ap₂, ◌∙◌}
use mathlib.Core.Logic.{inl, inr}
use mathlib.Core.List.{List, [], ◌∷◌, map}
use Prim.Native.Nat.{ℕ, max}
use native.Mathlib.Omega.{arith}
use lib.IntN.{ℤ, pos, ◌*ℤ◌}
use Rattle.signed.specs.Linear.{linear}
use Rattle.nets.specs.HalfSpaces.{HalfSpace}
use Rattle.nets.specs.Reduced.{EachOf, Divides, divided_by, IsReduced}
use Rattle.nets.proofs.ReducedForm.{one_divides, divisor_above_zero}
use Rattle.reduction.specs.Divisors.{IsDivisorOf}

abbrev pub times : ℕ → List ℤ → List ℤ
times d zs = map (λ (k : ℤ). k *ℤ pos d) zs

pub times-one : (zs : List ℤ) → times 1 zs ≡ zs
times-one [] = refl
times-one (z ∷ zs) = ap₂ (λ (x : ℤ) (l : List ℤ). x ∷ l) (simp linear (omega arith)) (times-one zs)

-- what `reduced` does: each is divided by the divisor, or by one where all are zero
pub divided_reduced : (h r : HalfSpace) (g d : ℕ) → IsDivisorOf h g → d ≡ max g 1 → h.coefficients ≡ times d r.coefficients → h.constant ≡ r.constant *ℤ pos d → IsReduced h r
unfolding IsDivisorOf IsReduced
divided_reduced h r g d (inl a) e k c =
    let one : d ≡ 1 = omega (arith, a.1) in
    let ks : r.coefficients ≡ h.coefficients = sym (k ∙ ap (λ (m : ℕ). times m r.coefficients) one ∙ times-one r.coefficients) in
    let cs : r.constant ≡ h.constant = sym (c ∙ ap (λ (m : ℕ). r.constant *ℤ pos m) one ∙ simp linear (omega arith)) in
    inl (a.0, λ i. record { coefficients = ks i; constant = cs i })
divided_reduced h r g d (inr a) e k c =
    let same : d ≡ g = omega (arith, divisor_above_zero (divided_by h) g a.1) in
    inr (a.0, record { divisor = d; is_divisor = rw same a.1; coefficients_divided = k; constant_divided = c })

pub divisor_divides : (h : HalfSpace) (g d : ℕ) → IsDivisorOf h g → d ≡ max g 1 → EachOf (Divides d) (divided_by h)
unfolding IsDivisorOf
divisor_divides h g d (inl a) e =
    let one : d ≡ 1 = omega (arith, a.1) in
    rw one (one_divides (divided_by h))
divisor_divides h g d (inr a) e =
    let same : d ≡ g = omega (arith, divisor_above_zero (divided_by h) g a.1) in
    rw same a.1.common
