-- Rows number by number: one number more belongs to the row so far, and a quotient is set where zeros stood.
use mathlib.Core.Path.{◌≡◌, sym, ap, ap₂, ◌∙◌, subst}
use mathlib.Core.List.{List, [], ◌∷◌, ◌++◌, map-append}
use Prim.Native.Nat.{ℕ, suc, ◌+◌, ◌-◌, ◌≤◌, ◌<◌}
use native.Mathlib.Numerals.{add-one}
use native.Mathlib.Omega.{arith}
use lib.IntN.{ℤ, pos, ◌*ℤ◌}
use lib.ListN.{length, get_or, take, drop, set, replicate, length-set}
use lib.Seq.{take-suc, take-suc-set, drop-set-lt, drop-drop}
use mir.Syntax.{Width}
use mir.Val.{SFits}
use Rattle.signed.specs.Divide.{quot_fits, quot_exact}
use Rattle.reduction.proofs.Scaled.{times}

pub row_more : (k : List ℤ) (p : ℕ) → p < length k → take (p + 1) k ≡ take p k ++ (get_or k p (pos 0) ∷ [])
row_more k p l = ap (λ (n : ℕ). take n k) (add-one p) ∙ take-suc k p (pos 0) l

-- a factor fits where its product does
pub factor_fits : (w : Width) (z r : ℤ) (g : ℕ) → 1 ≤ g → z ≡ r *ℤ pos g → SFits w z → SFits w r
factor_fits w z r g l e f = subst (SFits w) (quot_exact z r g l e) (quot_fits w z g f)

-- the first p numbers are divided, and zeros stand behind them
pub record Divided (k : List ℤ) (g : ℕ) (row : List ℤ) (p : ℕ) : Type 0 where
  pub long : length row ≡ 16
  pub front : take p k ≡ times g (take p row)
  pub behind : drop p row ≡ replicate (16 - p) (pos 0)

pub divided_more : (k : List ℤ) (g : ℕ) (row : List ℤ) (p : ℕ) (q : ℤ) → p < 16 → p < length k → Divided k g row p → get_or k p (pos 0) ≡ q *ℤ pos g → Divided k g (set row p q) (p + 1)
divided_more k g row p q l m d e =
    record {
      long = length-set row p q ∙ d.long;
      front =
          row_more k p m
          ∙ ap₂ (λ (a : List ℤ) (b : ℤ). a ++ (b ∷ [])) d.front e
          ∙ sym (map-append (λ (z : ℤ). z *ℤ pos g) (take p row) (q ∷ []))
          ∙ ap (times g) (sym (ap (λ (n : ℕ). take n (set row p q)) (add-one p) ∙ take-suc-set row p q (omega (arith, d.long))));
      behind =
          drop-set-lt (p + 1) row p q (omega arith)
          ∙ sym (drop-drop 1 p row)
          ∙ ap (drop 1) d.behind
          ∙ ap (λ (n : ℕ). drop 1 (replicate n (pos 0))) (fewer p l);
    }
  where
    fewer : (p : ℕ) → p < 16 → 16 - p ≡ suc (16 - (p + 1))
    fewer p l = omega arith
