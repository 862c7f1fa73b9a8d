-- How large the values of weights are: 100 times 9 for each place, so at most 14,400 for sixteen.
use mathlib.Core.Path.{◌≡◌, refl, sym, ap, ◌∙◌, subst}
use mir.Syntax.{w32}
use mir.Val.{to_z, of_z, SFits}
use mir.Facts.{to_z-of_z}
use mathlib.Core.Bool.{Bool, true, false, cond}
use mathlib.Core.List.{List, [], ◌∷◌, map}
use Prim.Native.Nat.{ℕ, ◌*◌, ◌≤◌}
use native.Mathlib.Omega.{arith}
use lib.ListN.{length}
use lib.IntN.{ℤ, pos, negsuc, neg_ℤ}
use lib.Signed.{◌≤ℤ◌, le_z, lt_z}
use borrow.Author.Tests.{leb-true}
use Rattle.std.proofs.lemmas.List.{map-id}
use Rattle.signed.specs.Linear.{linear, mul-le, mul_ge}
use Rattle.signed.specs.Parts.{lt-false, le-true}
use Rattle.terms.specs.Limits.{coefficient_fits}
use Rattle.nets.specs.HalfSpaces.{value}
use Rattle.format.specs.Formed.{All, IsCoefficient, IsWeight}
use Rattle.values.specs.Range.{Values}

-- a number that is not below one end and not above the other
between : (t u : Bool) → cond t false u ≡ true → (t ≡ false) × (u ≡ true)
between true u e = absurd (let z : ◌≡◌ {A = ℕ} 0 1 = cc in omega arith)
between false u e = (refl, e)

pub coefficient_range : (k : ℤ) → coefficient_fits k ≡ true → (negsuc 99 ≤ℤ k) × (k ≤ℤ pos 100)
coefficient_range k e =
    let b = between (lt_z k (negsuc 99)) (le_z k (pos 100)) e in
    (lt-false k (negsuc 99) b.0, le-true k (pos 100) b.1)

value_bound : (ks : List ℤ) (ws : List ℕ) → All IsCoefficient ks → All IsWeight ws → (value ks ws ≤ℤ pos (900 * length ws)) × (neg_ℤ (pos (900 * length ws)) ≤ℤ value ks ws)
unfolding value All
value_bound [] ws k w = simp linear (omega arith)
value_bound (k ∷ ks) [] hk hw = simp linear (omega arith)
value_bound (k ∷ ks) (w ∷ ws) hk hw =
    let r = coefficient_range k hk.0 in
    simp linear
    (omega (arith, leb-true w 9 hw.0, simp linear at (mul-le k 100 w r.1), simp linear at (mul_ge k 100 w r.0), simp linear at (value_bound ks ws hk.1 hw.1)))

value_range : (ks : List ℤ) (ws : List ℕ) → All IsCoefficient ks → All IsWeight ws → length ws ≤ 16 → Values (value ks ws)
value_range ks ws k w l =
    let b = simp linear at (value_bound ks ws k w) in
    record { low = simp linear (omega arith); high = simp linear (omega arith) }

-- the same of a value that was computed
pub computed_range : (v : ℤ) (ks : List ℤ) (ws : List ℕ) → SFits w32 v → v ≡ value ks (map (λ (w : ℕ). w) ws) → All IsCoefficient ks → All IsWeight ws → length ws ≤ 16 → Values (to_z w32 (of_z w32 v))
computed_range v ks ws fits is k w few =
    subst Values (sym (is ∙ ap (value ks) (map-id ws)) ∙ sym (to_z-of_z fits)) (value_range ks ws k w few)
