-- Sums of rows of sixteen: the rows' own entries are added, and zeros stay zeros.
use mathlib.Core.Path.{◌≡◌, refl, ap}
use mathlib.Core.List.{List, [], ◌∷◌, ◌++◌}
use Prim.Native.Nat.{ℕ, zero, suc, ◌+◌, ◌-◌}
use native.Mathlib.Omega.{arith}
use lib.ListN.{length, replicate}
use Rattle.nets.specs.Nets.{◌⊞◌}
use Rattle.nets.specs.HalfSpaces.{sixteen}
use Rattle.nets.proofs.Vectors.{length_plus}

plus_append : (us vs cs ds : List ℕ) → length us ≡ length vs → (us ++ cs) ⊞ (vs ++ ds) ≡ (us ⊞ vs) ++ (cs ⊞ ds)
unfolding ◌⊞◌
plus_append [] [] cs ds e = refl
plus_append [] (b ∷ vs) cs ds e = absurd (omega arith)
plus_append (a ∷ us) [] cs ds e = absurd (omega arith)
plus_append (a ∷ us) (b ∷ vs) cs ds e = ap (λ (r : List ℕ). (a + b) ∷ r) (plus_append us vs cs ds (omega arith))

plus_zeros : (k : ℕ) → replicate k 0 ⊞ replicate k 0 ≡ replicate k 0
unfolding ◌⊞◌
plus_zeros zero = refl
plus_zeros (suc k) = ap (λ (r : List ℕ). 0 ∷ r) (plus_zeros k)

pub sixteen_plus : (us vs : List ℕ) → length us ≡ length vs → sixteen 0 us ⊞ sixteen 0 vs ≡ sixteen 0 (us ⊞ vs)
sixteen_plus us vs e =
    let same : 16 - length vs ≡ 16 - length us = omega arith in
    let long : 16 - length (us ⊞ vs) ≡ 16 - length us = omega (arith, length_plus us vs e) in
    rw (same, plus_append us vs (replicate (16 - length us) 0) (replicate (16 - length us) 0) e, plus_zeros (16 - length us), long)
