-- A count is no more than the total, and counts of zero add up to 0.
use mathlib.Core.Path.{◌≡◌, refl}
use mathlib.Core.List.{List, [], ◌∷◌}
use Prim.Native.Nat.{ℕ, zero, suc, ◌≤◌}
use native.Mathlib.Omega.{arith}
use lib.ListN.{get_or, replicate}
use Rattle.sums.specs.Sum.{total, dot}

pub part : (x : List ℕ) (p : ℕ) → get_or x p 0 ≤ total x
unfolding total
part [] p = omega arith
part (a ∷ x) zero = omega arith
part (a ∷ x) (suc p) = omega (arith, part x p)

pub dot_zeros : (k : List ℕ) (n : ℕ) → dot k (replicate n 0) ≡ 0
unfolding dot
dot_zeros [] n = refl
dot_zeros (k ∷ ks) zero = refl
dot_zeros (k ∷ ks) (suc n) = omega (arith, dot_zeros ks n)

pub total_zeros : (n : ℕ) → total (replicate n 0) ≡ 0
unfolding total
total_zeros zero = refl
total_zeros (suc n) = omega (arith, total_zeros n)
