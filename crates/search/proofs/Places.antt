-- The table's ends: 0 goes to the lowest position s that leaves room for a step of m, and the table ends at z.
use mathlib.Core.Path.{◌≡◌}
use mathlib.Core.List.{List, [], ◌∷◌}
use Prim.Native.Nat.{ℕ, zero, suc, ◌≤◌, ◌<◌}
use native.Mathlib.Omega.{arith}
use lib.IntN.{ℤ, pos, nat_abs, ◌+ℤ◌}
use lib.ListN.{length, get_or}
use lib.Signed.{◌≤ℤ◌}
use Rattle.signed.specs.Parts.{positive_part, negative_part, le_in, abs_parts, apart, add_parts}
use Rattle.search.specs.Table.{Roomy, Placed, Length}
use Rattle.std.proofs.lemmas.Int.{ints, clamps}
use Rattle.std.specs.Int.{int_max}

-- a whole number that is not below 0, as a position
whole : (z : ℤ) → pos 0 ≤ℤ z → (nat_abs z ≡ positive_part z) × (negative_part z ≡ 0)
whole z h = omega (arith, le_in h, abs_parts z, apart z)

module _ (lo hi m s z : ℤ) (M : Length m) (S : Roomy lo hi m s) (most : z ≡ int_max (s +ℤ pos 1) ((s +ℤ lo) +ℤ m)) where
  start_in : (s +ℤ pos 1) ≤ℤ z
  start_in = omega (arith, ints, clamps)

  rise_in : ((s +ℤ lo) +ℤ m) ≤ℤ z
  rise_in = omega (arith, ints, clamps)

  size : z ≤ℤ pos 19900
  size = omega (arith, ints, clamps, S.high, S.high_lo, M.most)

  pub size_low : pos 0 ≤ℤ z
  size_low = omega (arith, ints, S.low, start_in)

  pub hi_low : pos 0 ≤ℤ (s +ℤ hi)
  hi_low = omega (arith, ints, S.low_hi, M.least)

  pub in_place : Placed lo hi m (record { start = nat_abs s; size = nat_abs z; window = record { lo = nat_abs (s +ℤ lo); hi = nat_abs (s +ℤ hi) } })
  in_place =
      let a = whole s S.low in
      let b = whole z size_low in
      let c = whole (s +ℤ lo) S.low_lo in
      let d = whole (s +ℤ hi) hi_low in
      let p = add_parts s lo in
      let q = add_parts s hi in
      record {
        low = omega arith;
        high = omega arith;
        begin = omega (arith, ints, start_in);
        rise = omega (arith, ints, rise_in, whole m M.least);
        fall = omega (arith, le_in S.low_hi, whole m M.least);
        fits = omega (arith, le_in size);
      }

-- k is no longer than m, of either sign
pub record Under (k m : ℤ) : Type 0 where
  pub up : positive_part k ≤ positive_part m
  pub down : negative_part k ≤ positive_part m

-- past the end there is 0
pub past : (ks : List ℤ) (m : ℤ) → ((p : ℕ) → p < length ks → Under (get_or ks p (pos 0)) m) → (p : ℕ) → Under (get_or ks p (pos 0)) m
past [] m h p = record { up = omega arith; down = omega arith }
past (k ∷ ks) m h zero = h 0 (omega arith)
past (k ∷ ks) m h (suc p) = past ks m (λ i l. h (suc i) (omega arith)) p
