-- Theorem 1 of source document 004: a transition breaks a half space exactly if some vector beside the weights taken has a value in a window.
-- Such a vector is what a bad marking has beyond the weights taken: inside says that its value is not too low, and outside once fired that it is not too high.
use mathlib.Core.Path.{◌≡◌}
use mathlib.Core.Logic.{◌↔◌}
use mathlib.Core.List.{List}
use Prim.Native.Nat.{ℕ}
use native.Mathlib.Omega.{arith}
use lib.ListN.{length}
use Rattle.signed.specs.Linear.{linear}
use Rattle.nets.specs.Nets.{Marking, Transition, ◌⊞◌, ◌⊟◌, Room}
use Rattle.nets.specs.HalfSpaces.{HalfSpace, Inside, Bad, Kept, Broken}
use Rattle.nets.specs.Window.{InWindow}
use Rattle.nets.proofs.Vectors.{outside_exactly, enabled_by, room_left, sum_left, value_before, value_after}

module _ (h : HalfSpace) (t : Transition) (same : length t.put ≡ length t.taken) where
  pub bad_beside : (x : List ℕ) → InWindow h t x → Bad h t (t.taken ⊞ x)
  unfolding Inside
  bad_beside x w =
      let before = simp linear at (value_before t h.coefficients x w.room) in
      let after = simp linear at (value_after t same h.coefficients x w.room) in
      record {
        inside = simp linear (omega (arith, simp linear at w.low));
        enabled = enabled_by t x w.room;
        leaves = (outside_exactly h _).1 (simp linear (omega (arith, simp linear at w.high)));
      }

  pub beside_bad : (x : List ℕ) → Room t x → Bad h t (t.taken ⊞ x) → InWindow h t x
  unfolding Inside
  beside_bad x r b =
      let before = simp linear at (value_before t h.coefficients x r) in
      let after = simp linear at (value_after t same h.coefficients x r) in
      record {
        room = r;
        low = simp linear (omega (arith, simp linear at b.inside));
        high = simp linear (omega (arith, simp linear at ((outside_exactly h _).0 b.leaves)));
      }

  pub rest_in_window : (m : Marking) → Bad h t m → InWindow h t (m ⊟ t.taken)
  rest_in_window m b =
      beside_bad (m ⊟ t.taken) (room_left t m b.enabled) (rw (sum_left t m b.enabled) b)

  pub theorem_1 : Broken h t ↔ ((x : List ℕ) × InWindow h t x)
  unfolding Broken
  theorem_1 = (λ b. (b.0 ⊟ t.taken, rest_in_window b.0 b.1), λ w. (t.taken ⊞ w.0, bad_beside w.0 w.1))

  pub kept_exactly : Kept h t ↔ ((x : List ℕ) → InWindow h t x → ⊥)
  unfolding Kept
  kept_exactly = (λ k x w. k (t.taken ⊞ x) (bad_beside x w), λ n m b. n (m ⊟ t.taken) (rest_in_window m b))
