-- A value under coefficients takes as many of the numbers as there are coefficients, and zeros behind them add nothing.
use mathlib.Core.Path.{◌≡◌, refl, ap, ◌∙◌}
use mathlib.Core.List.{List, [], ◌∷◌, ◌++◌}
use Prim.Native.Nat.{ℕ, zero, suc, ◌-◌}
use native.Mathlib.Omega.{arith}
use lib.ListN.{length, take, replicate}
use lib.IntN.{ℤ, pos, ◌+ℤ◌, ◌*ℤ◌}
use Rattle.signed.specs.Linear.{linear}
use Rattle.nets.specs.HalfSpaces.{value, sixteen}

value_zeros : (k : List ℤ) (m : ℕ) → value k (replicate m 0) ≡ pos 0
unfolding value
value_zeros [] m = refl
value_zeros (k ∷ ks) zero = refl
value_zeros (k ∷ ks) (suc m) = simp linear (omega (arith, simp linear at (value_zeros ks m)))

value_behind : (k : List ℤ) (xs : List ℕ) (m : ℕ) → value k (xs ++ replicate m 0) ≡ value k xs
unfolding value
value_behind [] xs m = refl
value_behind (k ∷ ks) [] m = value_zeros (k ∷ ks) m
value_behind (k ∷ ks) (x ∷ xs) m = ap (λ (z : ℤ). (k *ℤ pos x) +ℤ z) (value_behind ks xs m)

value_first : (k : List ℤ) (xs : List ℕ) → value k (take (length k) xs) ≡ value k xs
unfolding value
value_first [] xs = refl
value_first (k ∷ ks) [] = refl
value_first (k ∷ ks) (x ∷ xs) = ap (λ (z : ℤ). (k *ℤ pos x) +ℤ z) (value_first ks xs)

pub value_sixteen : (k : List ℤ) (xs : List ℕ) → value k (take (length k) (sixteen 0 xs)) ≡ value k xs
value_sixteen k xs = value_first k (sixteen 0 xs) ∙ value_behind k xs (16 - length xs)
