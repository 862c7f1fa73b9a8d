-- Theorem 3 of source document 004: with a coefficient above zero and one below zero, every transition that lowers the value breaks the half space.
-- Values of vectors add, and both signs turn one value into its opposite. So the window's length W is such a value with all its multiples, and one of them lies in the window.
use mathlib.Core.Path.{◌≡◌, refl, sym, ap, ◌∙◌}
use mathlib.Core.List.{List, [], ◌∷◌, map}
use Prim.Native.Nat.{ℕ, zero, suc, ◌+◌, ◌*◌, ◌-◌, ◌/◌, ◌<◌}
use native.Mathlib.Nat.{div-mul-le_self, lt-div-mul-add}
use native.Mathlib.Omega.{arith}
use lib.ListN.{length, get_or, replicate, length-set, length-replicate, length-map}
use lib.IntN.{ℤ, pos, negsuc, neg_ℤ, ◌+ℤ◌, ◌-ℤ◌, ◌*ℤ◌}
use lib.Signed.{◌≤ℤ◌, ◌<ℤ◌}
use Rattle.signed.specs.Parts.{positive_part, add_parts, positive_part-neg, negative_part-neg, lt_in, eq_out, apart}
use Rattle.signed.specs.Linear.{linear}
use Rattle.nets.specs.Nets.{Transition, Room, ◌⊞◌}
use Rattle.nets.specs.HalfSpaces.{HalfSpace, value, Broken}
use Rattle.nets.specs.Verdicts.{SomeAbove, SomeBelow}
use Rattle.nets.specs.Window.{low_end}
use Rattle.nets.proofs.Vectors.{value_plus, length_plus}
use Rattle.nets.proofs.Theorem1.{theorem_1}
use Rattle.nets.proofs.Theorem7.{only, value-only}

-- v is the value of some vector
record IsValue (k : List ℤ) (v : ℤ) : Type 0 where
  vector : List ℕ
  places : length vector ≡ length k
  is : value k vector ≡ v

-- n times a vector
abbrev times : ℕ → List ℕ → List ℕ
times n x = map (λ (a : ℕ). a * n) x

value-times : (k : List ℤ) (n : ℕ) (x : List ℕ) → value k (times n x) ≡ value k x *ℤ pos n
unfolding value
value-times [] n x = simp linear (omega arith)
value-times (k ∷ ks) n [] = simp linear (omega arith)
value-times (k ∷ ks) n (a ∷ x) = simp linear (omega (arith, simp linear at (value-times ks n x)))

module _ (k : List ℤ) where
  scaled : (v : ℤ) (n : ℕ) → IsValue k v → IsValue k (v *ℤ pos n)
  scaled v n r =
      record {
        vector = times n r.vector;
        places = length-map r.vector (λ (a : ℕ). a * n) ∙ r.places;
        is = value-times k n r.vector ∙ ap (λ (z : ℤ). z *ℤ pos n) r.is;
      }

  sum : (v w : ℤ) → IsValue k v → IsValue k w → IsValue k (v +ℤ w)
  sum v w r s =
      record {
        vector = r.vector ⊞ s.vector;
        places = length_plus r.vector s.vector (r.places ∙ sym s.places) ∙ r.places;
        is = value_plus k r.vector s.vector (r.places ∙ sym s.places) ∙ ap (λ (z : ℤ). z +ℤ value k s.vector) r.is ∙ ap (λ (z : ℤ). v +ℤ z) s.is;
      }

  same : (v w : ℤ) → v ≡ w → IsValue k v → IsValue k w
  same v w e r = record { vector = r.vector; places = r.places; is = r.is ∙ e }

  one_place : (p n : ℕ) → p < length k → IsValue k (get_or k p (pos 0) *ℤ pos n)
  one_place p n l =
      record { vector = only (length k) p n; places = length-set (replicate (length k) 0) p n ∙ length-replicate (length k) 0; is = value-only k p n l }

  -- v (q - 1) - q v = -v above zero, and the same with signs turned below it
  opposite : (v : ℤ) → SomeAbove k → SomeBelow k → IsValue k v → IsValue k (neg_ℤ v)
  unfolding SomeAbove SomeBelow
  opposite (pos a) up dn r = go (get_or k dn.0 (pos 0)) dn.2 (one_place dn.0 a dn.1)
    where
      go : (q : ℤ) → q <ℤ pos 0 → IsValue k (q *ℤ pos a) → IsValue k (neg_ℤ (pos a))
      go (pos q) l s = absurd (omega (arith, simp linear at l))
      go (negsuc q) l s = same ((pos a *ℤ pos q) +ℤ (negsuc q *ℤ pos a)) (neg_ℤ (pos a)) (simp linear (omega arith)) (sum (pos a *ℤ pos q) (negsuc q *ℤ pos a) (scaled (pos a) q r) s)
  opposite (negsuc a) up dn r = go (get_or k up.0 (pos 0)) up.2 (one_place up.0 (suc a) up.1)
    where
      go : (q : ℤ) → pos 0 <ℤ q → IsValue k (q *ℤ pos (suc a)) → IsValue k (neg_ℤ (negsuc a))
      go (negsuc q) l s = absurd (omega (arith, simp linear at l))
      go (pos zero) l s = absurd (omega (arith, simp linear at l))
      go (pos (suc q)) l s = same ((negsuc a *ℤ pos q) +ℤ (pos (suc q) *ℤ pos (suc a))) (pos (suc a)) (simp linear (omega arith)) (sum (negsuc a *ℤ pos q) (pos (suc q) *ℤ pos (suc a)) (scaled (negsuc a) q r) s)

-- of W numbers that follow each other from l on, one is a multiple of W
record Multiple (k : List ℤ) (W : ℕ) (l : ℤ) : Type 0 where
  at : ℤ
  is : IsValue k at
  low : l ≤ℤ at
  high : at <ℤ (l +ℤ pos W)

module _ (k : List ℤ) (W : ℕ) (some : 0 < W) (there : IsValue k (pos W)) (back : IsValue k (neg_ℤ (pos W))) where
  multiple : (l : ℤ) → Multiple k W l
  multiple (pos a) =
      let j : ℕ = (a + W - 1) / W in
      let over = lt-div-mul-add {a = a + W - 1} {b = W} some in
      let under = div-mul-le_self (a + W - 1) W in
      record { at = pos W *ℤ pos j; is = scaled k (pos W) j there; low = simp linear (omega arith); high = simp linear (omega arith) }
  multiple (negsuc b) =
      let j : ℕ = suc b / W in
      let over = lt-div-mul-add {a = suc b} {b = W} some in
      let under = div-mul-le_self (suc b) W in
      record { at = neg_ℤ (pos W) *ℤ pos j; is = scaled k (neg_ℤ (pos W)) j back; low = simp linear (omega arith); high = simp linear (omega arith) }

-- how far the value falls
fall : (a b : ℤ) → b <ℤ a → (w : ℕ) × (0 < w) × (a -ℤ b ≡ pos w)
fall a b l =
    let d = add_parts a (neg_ℤ b) in (
      positive_part (a -ℤ b),
      omega (arith, lt_in l, positive_part-neg b, negative_part-neg b),
      eq_out (omega (arith, lt_in l, positive_part-neg b, negative_part-neg b, apart (a -ℤ b))),
    )

module _ (h : HalfSpace) (t : Transition) (as_many : length t.taken ≡ length h.coefficients) (same_length : length t.put ≡ length t.taken) where
  pub theorem_3 : SomeAbove h.coefficients → SomeBelow h.coefficients → value h.coefficients t.put <ℤ value h.coefficients t.taken → Broken h t
  unfolding Room
  theorem_3 up dn falls =
      let k : List ℤ = h.coefficients in
      let A : ℤ = value k t.taken in
      let B : ℤ = value k t.put in
      let (W, some, e) = fall A B falls in
      let put : IsValue k B = record { vector = t.put; places = same_length ∙ as_many; is = refl } in
      let there : IsValue k (pos W) = same k (A -ℤ B) (pos W) e (sum k A (neg_ℤ B) (record { vector = t.taken; places = as_many; is = refl }) (opposite k B up dn put)) in
      go W e (multiple k W some there (opposite k (pos W) up dn there) (low_end h t))
    where
      go : (W : ℕ) → value h.coefficients t.taken -ℤ value h.coefficients t.put ≡ pos W → Multiple h.coefficients W (low_end h t) → Broken h t
      go W e m =
          let is = simp linear at m.is.is in
          let wide = simp linear at e in
          (theorem_1 h t same_length).1
          (m.is.vector, record { room = m.is.places ∙ sym as_many; low = simp linear (omega (arith, simp linear at m.low)); high = simp linear (omega (arith, simp linear at m.high)) })
