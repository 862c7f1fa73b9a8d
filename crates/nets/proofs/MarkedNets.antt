-- The marked nets of document 01, all by the theorems: a case is kept since no vector is in its window, and broken at the weights taken plus one that is.
-- A vector with no token misses the window, and one with a token in some place is beyond it.
use mathlib.Core.Path.{◌≡◌, refl, sym, ◌∙◌}
use mathlib.Core.List.{List, [], ◌∷◌}
use Prim.Native.Nat.{ℕ, zero, suc, ◌+◌, ◌≤◌}
use native.Mathlib.Omega.{arith}
use lib.Dec.{T}
use lib.ListN.{length}
use lib.Signed.{◌<ℤ◌, le_z, le_z_yes}
use Rattle.signed.specs.Linear.{linear}
use Rattle.nets.specs.Nets.{Marking, Transition, ◌⊑◌, ◌⊞◌, Enabled, Room}
use Rattle.nets.specs.HalfSpaces.{HalfSpace, value, Inside, Outside, Bad, Kept}
use Rattle.nets.specs.Window.{low_end, high_end, InWindow}
use Rattle.nets.specs.Verdicts.{Meets, IsTarget}
use Rattle.nets.specs.Cases.{Holds, AllHold, cases, at}
use Rattle.nets.proofs.Vectors.{room-length, at_most_sum, outside_exactly}
use Rattle.nets.proofs.Theorem1.{bad_beside, kept_exactly}

-- over two places
pub two : (P : List ℕ → Type 0) → ((a b : ℕ) → P (at a b)) → (x : List ℕ) → length x ≡ 2 → P x
two P all [] e = absurd (omega arith)
two P all (a ∷ []) e = absurd (omega arith)
two P all (a ∷ b ∷ []) e = all a b
two P all (a ∷ b ∷ c ∷ x) e = absurd (omega arith)

-- every marking at or above g is outside
pub all_outside : (h : HalfSpace) (g : Marking) → length g ≡ 2 → ((a b : ℕ) → g ⊑ at a b → value h.coefficients (at a b) <ℤ h.constant) → (m : Marking) → g ⊑ m → Outside h m
unfolding ◌⊑◌
all_outside h g places below m above =
    two (λ m. g ⊑ m → Outside h m) (λ a b above. (outside_exactly h (at a b)).1 (below a b above)) m (sym above.0 ∙ places) above

module _ (h : HalfSpace) (s : Transition) (same : length s.put ≡ length s.taken) where
  pub none_hits : length s.taken ≡ 2 → (InWindow h s (at 0 0) → ⊥) → ((a b : ℕ) → 1 ≤ a + b → InWindow h s (at a b) → ⊥) → Kept h s
  none_hits places none some =
      (kept_exactly h s same).1 (λ x w. two (λ x. InWindow h s x → ⊥) by x (room-length s x w.room ∙ places) w)
    where
      by : (a b : ℕ) → InWindow h s (at a b) → ⊥
      by zero zero w = none w
      by zero (suc b) w = some 0 (suc b) (omega arith) w
      by (suc a) b w = some (suc a) b (omega arith) w

  pub hits : (x : List ℕ) → Room s x → T (le_z (low_end h s) (value h.coefficients x)) → T (le_z (value h.coefficients x) (high_end h s)) → Bad h s (s.taken ⊞ x)
  hits x r l u = bad_beside h s same x (record { room = r; low = le_z_yes l; high = le_z_yes u })

infixr 4 ◌and◌
◌and◌ : {A B : Type 0} → A → B → A × B
a and b = (a, b)

pub all_cases : AllHold cases
unfolding Holds AllHold cases value ◌⊞◌ Enabled Room Meets IsTarget Inside ◌⊑◌
all_cases =
    -- a, b
    none_hits _ _ refl refl (λ w. w.low.le) (λ a b m w. omega (arith, simp linear at w.high))
    and hits _ _ refl (at 0 1) refl tt tt
    -- c, d, e
    and none_hits _ _ refl refl (λ w. w.low.le) (λ a b m w. omega (arith, simp linear at w.high))
    and none_hits _ _ refl refl (λ w. w.low.le) (λ a b m w. omega (arith, simp linear at w.high))
    and hits _ _ refl (at 0 1) refl tt tt
    -- f, g, h, i
    and none_hits _ _ refl refl (λ w. w.low.le) (λ a b m w. omega (arith, simp linear at w.low))
    and all_outside _ (at 2 1) refl (λ a b above. simp linear (omega (arith, above.1 0, above.1 1)))
    and hits _ _ refl (at 0 0) refl tt tt
    and none_hits _ _ refl refl (λ w. w.high.le) (λ a b m w. omega (arith, simp linear at w.low))
    and hits _ _ refl (at 1 0) refl tt tt
    -- j
    and hits _ _ refl (at 0 0) refl tt tt
    -- k
    and none_hits _ _ refl refl (λ w. w.low.le) (λ a b m w. omega (arith, simp linear at w.high))
    and hits _ _ refl (at 1 0) refl tt tt
    -- l
    and all_outside _ (at 3 0) refl (λ a b above. simp linear (omega (arith, above.1 0)))
    and (at_most_sum (at 3 0) (at 0 1) refl, le_z_yes tt)
    and tt
