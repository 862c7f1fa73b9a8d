-- A search of Theorem 1's window decides kept and broken: what hits it lies beside the weights taken, and where nothing does no marking is bad.
use mathlib.Core.Path.{◌≡◌, refl, sym, ap, ◌∙◌}
use mathlib.Core.List.{List, [], ◌∷◌}
use Prim.Native.Nat.{ℕ, zero, suc, ◌≤◌}
use native.Mathlib.Omega.{arith}
use lib.ListN.{length, get_or, take}
use borrow.Author.Tests.{leb-true}
use Rattle.signed.specs.Linear.{linear}
use Rattle.signed.specs.Parts.{bounds}
use Rattle.nets.specs.Nets.{Transition, ◌⊞◌, Room}
use Rattle.nets.specs.HalfSpaces.{HalfSpace, Kept, Shown, value, sixteen}
use Rattle.nets.specs.Window.{low_end, high_end, InWindow}
use Rattle.nets.proofs.Vectors.{get_or-plus, room-length}
use Rattle.nets.proofs.Theorem1.{bad_beside, kept_exactly}
use Rattle.format.specs.Formed.{All, IsWeight}
use Rattle.format.proofs.Everywhere.{all_get_or}
use Rattle.search.specs.Searched.{Hit, Best, Ends}
use Rattle.values.specs.Range.{Constants, Values}
use Rattle.crossing.proofs.Rows.{sixteen_plus}

take_at_most : (n : ℕ) (xs : List ℕ) (p : ℕ) → get_or (take n xs) p 0 ≤ get_or xs p 0
take_at_most zero xs p = omega arith
take_at_most (suc n) [] p = omega arith
take_at_most (suc n) (x ∷ xs) zero = omega arith
take_at_most (suc n) (x ∷ xs) (suc p) = take_at_most n xs p

-- the window is not too wide for the search
pub ends : (h : HalfSpace) (t : Transition) → Constants h.constant → Values (value h.coefficients t.taken) → Values (value h.coefficients t.put) → Ends (low_end h t) (high_end h t)
ends h t k a b =
    record { low = simp linear (omega (arith, bounds)); high = simp linear (omega (arith, bounds)); top = simp linear (omega (arith, bounds)) }

-- one weight taken and one put for each coefficient
module _ (h : HalfSpace) (t : Transition) (places : length t.taken ≡ length h.coefficients) (same : length t.put ≡ length t.taken) where
  in_window : (x : List ℕ) → Hit h.coefficients (low_end h t) (high_end h t) x → InWindow h t x
  unfolding Room
  in_window x w = record { room = w.places ∙ sym places; low = w.low; high = w.high }

  hit_of : (x : List ℕ) → InWindow h t x → Hit h.coefficients (low_end h t) (high_end h t) x
  hit_of x w = record { places = room-length t x w.room ∙ places; low = w.low; high = w.high }

  pub kept_so : ((x : List ℕ) → Hit h.coefficients (low_end h t) (high_end h t) x → ⊥) → Kept h t
  kept_so none = (kept_exactly h t same).1 (λ x i. none x (hit_of x i))

  module _ (weights : All IsWeight t.taken) (x : List ℕ) (b : Best h.coefficients (low_end h t) (high_end h t) (length h.coefficients) x) where
    abbrev front : List ℕ
    front = take (length h.coefficients) x

    beside_same : length t.taken ≡ length front
    beside_same = places ∙ sym b.hits.places

    pub row_so : sixteen 0 t.taken ⊞ x ≡ sixteen 0 (t.taken ⊞ front)
    row_so = ap (λ (y : List ℕ). sixteen 0 t.taken ⊞ y) b.row ∙ sixteen_plus t.taken front beside_same

    pub shown_so : Shown h t (t.taken ⊞ front)
    shown_so =
        record {
          bad = bad_beside h t same front (in_window front b.hits);
          bounded = λ p.
              omega (
                arith,
                get_or-plus t.taken front p beside_same,
                leb-true (get_or t.taken p 0) 9 (all_get_or IsWeight 0 refl t.taken p weights),
                take_at_most (length h.coefficients) x p,
                b.bounded p,
              );
        }
