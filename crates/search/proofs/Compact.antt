-- A row that has each coefficient once, and none of 0, gives the same answers: counts of equal coefficients are added up, and counts of the row are put back at their places.
use mathlib.Core.Path.{◌≡◌, refl, sym, ap, ap₂, ◌∙◌}
use mathlib.Core.Logic.{◌⊎◌, inl, inr}
use mathlib.Core.List.{List, [], ◌∷◌, map}
use Prim.Native.Nat.{ℕ, zero, suc, ◌+◌, ◌*◌, ◌≤◌, ◌<◌}
use native.Mathlib.Omega.{arith}
use lib.IntN.{ℤ, pos}
use lib.ListN.{length, get_or, take, replicate, length-set, length-replicate, get_or-map}
use lib.Seq.{get_or-take, length-take-le}
use Rattle.signed.specs.Parts.{positive_part, negative_part, eq_out}
use Rattle.nets.specs.HalfSpaces.{value}
use Rattle.sums.specs.Sum.{total, dot, ups, downs}
use Rattle.sums.proofs.Sums.{dot_zeros, total_zeros}
use Rattle.distinct.specs.Row.{Among, Kept, Inside, Spread}
use Rattle.distinct.proofs.PutBack.{more, dot_plus, total_plus, at}
use Rattle.search.specs.Searched.{Hit}
use Rattle.search.specs.Table.{Least}
use Rattle.search.proofs.Tied.{tied}

-- counts for the row of the same sums as z, and no more of them
record Merged (cs ks : List ℤ) (z : List ℕ) : Type 0 where
  pub y : List ℕ
  pub places : length y ≡ length cs
  pub sums : (f : ℤ → ℕ) → f (pos 0) ≡ 0 → dot (map f cs) y ≡ dot (map f ks) z
  pub fewer : total y ≤ total z

abbrev Covered : List ℤ → ℤ → Type 0
Covered cs k = (k ≡ pos 0) ⊎ Among cs (length cs) k

get_or_map0 : (f : ℤ → ℕ) → f (pos 0) ≡ 0 → (ks : List ℤ) (p : ℕ) → get_or (map f ks) p 0 ≡ f (get_or ks p (pos 0))
get_or_map0 f o ks p = ap (λ (d : ℕ). get_or (map f ks) p d) (sym o) ∙ get_or-map f ks p (pos 0)

-- one more coefficient and its count: a coefficient of 0 adds nothing, and any other's count goes to its place in the row
merge_one : (cs : List ℤ) (k : ℤ) (ks : List ℤ) (a : ℕ) (z : List ℕ) → Covered cs k → Merged cs ks z → Merged cs (k ∷ ks) (a ∷ z)
unfolding dot total
merge_one cs k ks a z (inl o) m =
    record {
      y = m.y;
      places = m.places;
      sums = λ f e. omega (arith, m.sums f e, ap (λ (c : ℤ). f c * a) o, ap (λ (n : ℕ). n * a) e);
      fewer = omega (arith, m.fewer);
    }
merge_one cs k ks a z (inr g) m =
    let l : g.at < length m.y = omega (arith, g.below, m.places) in
    record {
      y = more m.y g.at a;
      places = length-set m.y g.at (get_or m.y g.at 0 + a) ∙ m.places;
      sums = λ f e. omega (arith, m.sums f e, dot_plus (map f cs) m.y g.at a l, ap (λ (n : ℕ). n * a) (get_or_map0 f e cs g.at ∙ ap f g.is));
      fewer = omega (arith, m.fewer, total_plus m.y g.at a l);
    }

merge : (cs ks : List ℤ) (z : List ℕ) → ((q : ℕ) → q < length ks → Covered cs (get_or ks q (pos 0))) → Merged cs ks z
unfolding dot total
merge cs [] z h = record { y = replicate (length cs) 0; places = length-replicate (length cs) 0; sums = λ f e. dot_zeros (map f cs) (length cs); fewer = omega (arith, total_zeros (length cs)) }
merge cs (k ∷ ks) [] h = record { y = replicate (length cs) 0; places = length-replicate (length cs) 0; sums = λ f e. dot_zeros (map f cs) (length cs); fewer = omega (arith, total_zeros (length cs)) }
merge cs (k ∷ ks) (a ∷ z) h = merge_one cs k ks a z (h 0 (omega arith)) (merge cs ks z (λ q l. h (suc q) (omega arith)))

-- the same sums are the same value
same_value : (ks cs : List ℤ) (x y : List ℕ) → dot (ups ks) x ≡ dot (ups cs) y → dot (downs ks) x ≡ dot (downs cs) y → value ks x ≡ value cs y
same_value ks cs x y u d = eq_out (omega (arith, tied ks x, tied cs y))

-- the coefficients at the places are the row
told : (ks : List ℤ) (f : ℤ → ℕ) → f (pos 0) ≡ 0 → (row : List ℤ) (ps : List ℕ) (m : ℕ) → m ≤ length row → m ≤ length ps → ((i : ℕ) → i < m → get_or row i (pos 0) ≡ get_or ks (get_or ps i 0) (pos 0)) → at (map f ks) (take m ps) ≡ map f (take m row)
told ks f o row ps zero a b h = refl
told ks f o [] ps (suc m) a b h = absurd (omega arith)
told ks f o (c ∷ row) [] (suc m) a b h = absurd (omega arith)
told ks f o (c ∷ row) (p ∷ ps) (suc m) a b h =
    ap₂ {C = List ℕ} (λ (u : ℕ) (r : List ℕ). u ∷ r) (get_or_map0 f o ks p ∙ ap f (sym (h 0 (omega arith)))) (told ks f o row ps m (omega arith) (omega arith) (λ i l. h (suc i) (omega arith)))

-- the row's answer, put back, is the coefficients' answer
module _ (ks row : List ℤ) (ps : List ℕ) (m : ℕ) (K : Kept ks row ps m (length ks)) (a : m ≤ length row) (b : m ≤ length ps) where
  pub inside : Inside (take m ps) (length ks)
  inside i l = let h : i < m = omega (arith, length-take-le m ps b) in omega (arith, get_or-take m ps i 0 h, K.inside i h)

  covered : (k : ℤ) → (k ≡ pos 0) ⊎ Among row m k → Covered (take m row) k
  covered k (inl o) = inl o
  covered k (inr g) = inr (record { at = g.at; below = omega (arith, g.below, length-take-le m row a); is = get_or-take m row g.at (pos 0) g.below ∙ g.is })

  merged : (z : List ℕ) → Merged (take m row) ks z
  merged z = merge (take m row) ks z (λ q l. covered (get_or ks q (pos 0)) (K.covers q l))

  module _ (lo hi : ℤ) where
    narrowed : (z : List ℕ) → Hit ks lo hi z → Hit (take m row) lo hi (merged z).y
    narrowed z h =
        let g = merged z in
        let e = same_value (take m row) ks g.y z (g.sums positive_part refl) (g.sums negative_part refl) in
        record { places = g.places; low = rw e h.low; high = rw e h.high }

    module _ (x : List ℕ) (f : length x ≡ length ks) where
      widened : (y : List ℕ) → Spread (take m ps) y x → Hit (take m row) lo hi y → Hit ks lo hi x
      widened y s h =
          let t : (g : ℤ → ℕ) → g (pos 0) ≡ 0 → dot (map g ks) x ≡ dot (map g (take m row)) y = λ g o. s.sums (map g ks) ∙ ap (λ (l : List ℕ). dot l y) (told ks g o row ps m a b K.same) in
          let e = same_value ks (take m row) x y (t positive_part refl) (t negative_part refl) in
          record { places = f; low = rw e h.low; high = rw e h.high }

      pub whole : (y : List ℕ) → Spread (take m ps) y x → Least (take m row) lo hi y → Least ks lo hi x
      whole y s l =
          record {
            hits = widened y s l.hits;
            least = λ z h. omega (arith, s.amount, l.least (merged z).y (narrowed z h), (merged z).fewer);
            bound = omega (arith, s.amount, l.bound);
          }

    pub nothing : ((z : List ℕ) → Hit (take m row) lo hi z → ⊥) → (z : List ℕ) → Hit ks lo hi z → ⊥
    nothing n z h = n (merged z).y (narrowed z h)
