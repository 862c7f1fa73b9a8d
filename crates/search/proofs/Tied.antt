-- The question over whole numbers tied to that over positions: 0 stands at t.start, and lo and hi at t.lo and t.hi.
use mathlib.Core.Path.{◌≡◌, refl}
use mathlib.Core.List.{List, [], ◌∷◌}
use Prim.Native.Nat.{ℕ, zero, suc, ◌+◌, ◌≤◌}
use native.Mathlib.Omega.{arith}
use lib.IntN.{ℤ, pos, ◌*ℤ◌}
use lib.ListN.{length, take, length-map}
use lib.Seq.{length-take-le}
use lib.Signed.{◌<ℤ◌}
use Rattle.std.proofs.Common.{Option, Some, None}
use Rattle.std.specs.Prelude.{IfSome}
use Rattle.signed.specs.Parts.{positive_part, negative_part, add_parts, positive_part-mul, negative_part-mul, le_in, le_out, lt_in}
use Rattle.nets.specs.HalfSpaces.{value}
use Rattle.sums.specs.Sum.{total, dot, ups, downs, Hits}
use Rattle.trails.specs.Led.{Leads}
use Rattle.search.specs.Searched.{Hit}
use Rattle.search.specs.Table.{Placed, Looked}
use Rattle.search.specs.declared.table.Table.{Table}

pub tied : (ks : List ℤ) (x : List ℕ) → positive_part (value ks x) + dot (downs ks) x ≡ dot (ups ks) x + negative_part (value ks x)
unfolding value dot
tied [] x = refl
tied (k ∷ ks) [] = refl
tied (k ∷ ks) (x ∷ xs) = omega (arith, add_parts (k *ℤ pos x) (value ks xs), positive_part-mul k x, negative_part-mul k x, tied ks xs)

-- counts behind the last coefficient add nothing
dot_front : (k : List ℕ) (n : ℕ) (x : List ℕ) → length k ≤ n → dot k (take n x) ≡ dot k x
unfolding dot
dot_front [] n x l = refl
dot_front (k ∷ ks) zero x l = absurd (omega arith)
dot_front (k ∷ ks) (suc n) [] l = refl
dot_front (k ∷ ks) (suc n) (a ∷ x) l = omega (arith, dot_front ks n x (omega arith))

total_front : (n : ℕ) (x : List ℕ) → total (take n x) ≤ total x
unfolding total
total_front zero x = omega arith
total_front (suc n) [] = omega arith
total_front (suc n) (a ∷ x) = omega (arith, total_front n x)

module _ (ks : List ℤ) (lo hi m : ℤ) (t : Table) (T : Placed lo hi m t) where
  to_whole : (x : List ℕ) → length x ≡ length ks → Hits (ups ks) (downs ks) t.window.lo t.window.hi t.start x → Hit ks lo hi x
  to_whole x e h =
      let v = tied ks x in
      record { places = e; low = le_out (omega (arith, h.least, T.low)); high = le_out (omega (arith, h.most, T.high)) }

  from_whole : (x : List ℕ) → Hit ks lo hi x → Hits (ups ks) (downs ks) t.window.lo t.window.hi t.start x
  from_whole x h =
      let v = tied ks x in
      record { least = omega (arith, le_in h.low, T.low); most = omega (arith, le_in h.high, T.high) }

  -- an answer over positions is one over whole numbers
  pub looked : (n : ℕ) → n ≤ 19900 → (r : Option (List ℕ)) → IfSome r (λ x. length ks ≤ length x) → Leads ks n t.start t.window.lo t.window.hi r → Looked ks lo hi r
  looked n b (Some x) e l =
      let f : length (take (length ks) x) ≡ length ks = length-take-le (length ks) x e in
      let u = dot_front (ups ks) (length ks) x (omega (arith, length-map ks positive_part)) in
      let d = dot_front (downs ks) (length ks) x (omega (arith, length-map ks negative_part)) in
      let k = total_front (length ks) x in
      record {
        hits = to_whole (take (length ks) x) f (record { least = omega (arith, l.hits.least); most = omega (arith, l.hits.most) });
        least = λ z h. omega (arith, l.least z (from_whole z h));
        bound = omega (arith, l.bound);
      }
  looked n b None e l = λ z h. l z (from_whole z h)

-- a window that ends below its start holds nothing
pub crossed : (ks : List ℤ) (lo hi : ℤ) → hi <ℤ lo → (z : List ℕ) → Hit ks lo hi z → ⊥
crossed ks lo hi l z h = omega (arith, lt_in l, le_in h.low, le_in h.high)
