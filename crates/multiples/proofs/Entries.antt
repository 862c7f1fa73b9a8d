-- The number at a place of a claim: a coefficient, or behind them the constant. The first that isn't zero is a pivot, and so is the constant where no coefficient is one.
use mathlib.Core.Path.{◌≡◌, refl, sym, ap, ◌∙◌}
use mathlib.Core.List.{List, [], ◌∷◌}
use Prim.Native.Nat.{ℕ, suc, ◌<◌}
use native.Mathlib.Omega.{arith}
use lib.IntN.{ℤ, pos, negsuc, nat_abs}
use lib.ListN.{length, get_or, get_or-append}
use lib.Seq.{get_or_at}
use Rattle.nets.specs.HalfSpaces.{HalfSpace}
use Rattle.nets.specs.Reduced.{EachOf, divided_by, AllZero}
use Rattle.multiples.specs.Multiples.{entry, IsPivot}
use Rattle.reduction.proofs.Common.{each_append}
use Rattle.multiples.proofs.Scaled.{IsZero}

pub entry_row : (h : HalfSpace) (p : ℕ) → p < length h.coefficients → entry h p ≡ get_or h.coefficients p (pos 0)
unfolding divided_by
entry_row h p l = get_or-append h.coefficients (h.constant ∷ []) (pos 0) p l

pub entry-constant : (h : HalfSpace) (n : ℕ) → length h.coefficients ≡ n → entry h n ≡ h.constant
unfolding divided_by
entry-constant h n e = get_or_at h.coefficients h.constant [] (pos 0) n e

no_size : (z : ℤ) → nat_abs z ≡ 0 → z ≡ pos 0
no_size (pos n) e = ap pos (omega arith)
no_size (negsuc n) e = absurd (omega arith)

module _ (k : List ℤ) (c : ℤ) (s : ℕ) where
  pub pivot_row : (p : ℕ) → p < length k → s ≡ nat_abs (get_or k p (pos 0)) → (get_or k p (pos 0) ≡ pos 0 → ⊥) → IsPivot (record { coefficients = k; constant = c }) p s
  pivot_row p l e some =
      record {
        within = omega arith;
        size_there = e ∙ ap nat_abs (sym (entry_row (record { coefficients = k; constant = c }) p l));
        zero_only = λ z. absurd (some (no_size (get_or k p (pos 0)) (sym e ∙ z)));
      }

  pub pivot_constant : s ≡ nat_abs c → EachOf IsZero k → IsPivot (record { coefficients = k; constant = c }) (length k) s
  unfolding AllZero divided_by EachOf
  pivot_constant e zeros =
      record {
        within = omega arith;
        size_there = e ∙ ap nat_abs (sym (entry-constant (record { coefficients = k; constant = c }) (length k) refl));
        zero_only = λ z. each_append IsZero k (c ∷ []) zeros (no_size c (sym e ∙ z), tt);
      }

pub zeros_within : (k : List ℤ) → ((p : ℕ) → p < length k → get_or k p (pos 0) ≡ pos 0) → EachOf IsZero k
unfolding EachOf
zeros_within [] z = tt
zeros_within (x ∷ k) z = (z 0 (omega arith), zeros_within k (λ p l. z (suc p) (omega arith)))
