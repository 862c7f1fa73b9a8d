-- Sixteen numbers filled from the front: after i turns the first i stand there and the rest is zero; one step law for every type of number.
use mathlib.Core.Path.{◌≡◌, sym, ap, ◌∙◌}
use mathlib.Core.List.{List, ◌++◌, append_assoc}
use Prim.Native.Nat.{ℕ, suc, ◌+◌, ◌-◌, ◌<◌}
use native.Mathlib.Numerals.{add-one}
use native.Mathlib.Omega.{arith}
use lib.ListN.{length, get_or, take, set, replicate}
use lib.Seq.{take-suc, length-take-le, set_at}

abbrev pub filled : {A : Type 0} → A → List A → ℕ → List A
filled z xs i = take i xs ++ replicate (16 - i) z

module _ {A : Type 0} (z : A) (xs : List A) (i : ℕ) where
  pub filled_step : (x : A) → i < length xs → i < 16 → get_or xs i z ≡ x → set (filled z xs i) i x ≡ filled z xs (i + 1)
  filled_step x l m e =
      let h : 16 - i ≡ suc (16 - (i + 1)) = omega arith in
      ap (λ (k : ℕ). set (take i xs ++ replicate k z) i x) h
      ∙ set_at (take i xs) z (replicate (16 - (i + 1)) z) x i (length-take-le i xs (omega arith))
      ∙ sym (rw (add-one i, take-suc xs i z l, e, append_assoc))
