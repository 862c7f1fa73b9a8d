-- Two answers that fit a statement are equal: of divisors each divides the other, and a claim has one reduced form.
use mathlib.Core.Path.{◌≡◌, sym, ap, ap₂, ◌∙◌}
use mathlib.Core.Logic.{inl, inr}
use mathlib.Core.List.{List}
use Prim.Native.Nat.{ℕ}
use Rattle.std.specs.Int.{IsGcd}
use Rattle.std.proofs.lemmas.Nat.Gcd.{same_from_IsGcd}
use native.Mathlib.Omega.{arith}
use lib.IntN.{ℤ, pos}
use lib.ListN.{take}
use Rattle.nets.specs.HalfSpaces.{HalfSpace, sixteen}
use Rattle.nets.specs.Reduced.{IsReduced}
use Rattle.nets.proofs.ReducedForm.{one_reduced_form}
use Rattle.reduction.specs.declared.Form.{Form}
use Rattle.reduction.specs.Divisors.{IsDivisorOf, space_of}

-- divisors
pub one_gcd : (a b g h : ℕ) → IsGcd a b g → IsGcd a b h → g ≡ h
one_gcd = same_from_IsGcd

pub one_divisor : (h : HalfSpace) (d e : ℕ) → IsDivisorOf h d → IsDivisorOf h e → d ≡ e
unfolding IsDivisorOf
one_divisor h d e (inl a) (inl b) = a.1 ∙ sym b.1
one_divisor h d e (inl a) (inr b) = absurd (b.0 a.0)
one_divisor h d e (inr a) (inl b) = absurd (a.0 b.0)
one_divisor h d e (inr a) (inr b) = omega (arith, a.1.greatest e b.1.common, b.1.greatest d a.1.common)

-- reduced forms, as numbers
pub one_form : (h : HalfSpace) (n : ℕ) (f g : Form) → IsReduced h (space_of n f.coefficients f.constant) → f.coefficients ≡ sixteen (pos 0) (take n f.coefficients) → IsReduced h (space_of n g.coefficients g.constant) → g.coefficients ≡ sixteen (pos 0) (take n g.coefficients) → f ≡ g
one_form h n f g a k b l =
    let e = one_reduced_form h (space_of n f.coefficients f.constant) (space_of n g.coefficients g.constant) a b in
    ap₂ {C = Form} (λ (q : List ℤ) (v : ℤ). record { coefficients = q; constant = v }) (k ∙ ap (λ (s : HalfSpace). sixteen (pos 0) s.coefficients) e ∙ sym l) (ap (λ (s : HalfSpace). s.constant) e)
