-- Theorem 7 of source document 004: some marking at or above the target is inside exactly if the written target is, or some coefficient is above zero.
-- Where a coefficient is above zero, enough tokens in its place reach any constant; where none is, no token added raises the value.
use mathlib.Core.Path.{◌≡◌, refl, sym, ap, ◌∙◌, subst}
use mathlib.Core.Logic.{◌↔◌, ◌⊎◌, inl, inr, ⊎_elim}
use mathlib.Core.List.{List, [], ◌∷◌}
use Prim.Native.Nat.{ℕ, zero, suc, ◌+◌, ◌<◌}
use native.Mathlib.Nat.{mul-le-mul_right}
use native.Mathlib.Omega.{arith}
use lib.ListN.{length, get_or, set, replicate, length-set, length-replicate}
use lib.IntN.{ℤ, pos, ◌+ℤ◌, ◌*ℤ◌}
use lib.Signed.{◌≤ℤ◌, ◌<ℤ◌}
use Rattle.signed.specs.Parts.{positive_part, negative_part, le_or_lt}
use Rattle.signed.specs.Linear.{linear, mul-le}
use Rattle.nets.specs.Nets.{Marking, ◌⊑◌, ◌⊞◌, ◌⊟◌}
use Rattle.nets.specs.HalfSpaces.{HalfSpace, value, Inside}
use Rattle.nets.specs.Verdicts.{exact, at_or_above, Meets, IsTarget, Setting, TargetInside, SomeAbove}
use Rattle.nets.proofs.Vectors.{value_plus, length_minus, at_most_itself, at_most_sum, sum_rest, inside_or_below}

pub above_zero : (k : List ℤ) (xs : List ℕ) → pos 0 <ℤ value k xs → SomeAbove k
unfolding value SomeAbove
above_zero [] xs h = absurd h.lt
above_zero (k ∷ ks) [] h = absurd h.lt
above_zero (k ∷ ks) (x ∷ xs) h =
    ⊎_elim
    (λ (low : k ≤ℤ pos 0).
    let w = above_zero ks xs (simp linear (omega (arith, simp linear at h, simp linear at (mul-le k 0 x low)))) in
    (suc w.0, omega arith, w.2))
    (λ high. (0, omega arith, high))
    (le_or_lt k (pos 0))

-- n tokens in place p and none elsewhere
abbrev pub only : ℕ → ℕ → ℕ → List ℕ
only places p n = set (replicate places 0) p n

pub value_none : (k : List ℤ) → value k (replicate (length k) 0) ≡ pos 0
unfolding value
value_none [] = refl
value_none (k ∷ ks) = simp linear (omega (arith, simp linear at (value_none ks)))

pub value-only : (k : List ℤ) (p n : ℕ) → p < length k → value k (only (length k) p n) ≡ get_or k p (pos 0) *ℤ pos n
unfolding value
value-only [] p n h = absurd (omega arith)
value-only (k ∷ ks) zero n h = simp linear (omega (arith, simp linear at (value_none ks)))
value-only (k ∷ ks) (suc p) n h = simp linear (omega (arith, simp linear at (value-only ks p n (omega arith))))

pub as_many : (k : ℤ) (n : ℕ) → pos 0 <ℤ k → pos n ≤ℤ (k *ℤ pos n)
as_many k n h = simp linear (omega (arith, mul-le-mul_right n (simp linear at h)))

-- Enough tokens in a place whose coefficient is above zero reach the constant.
pub raised : (h : HalfSpace) (g : Marking) → length h.coefficients ≡ length g → SomeAbove h.coefficients → (m : Marking) × (g ⊑ m) × Inside h m
unfolding Inside SomeAbove
raised h g e w =
    let k : List ℤ = h.coefficients in
    let n : ℕ = positive_part h.constant + negative_part (value k g) in
    let x : List ℕ = only (length k) w.0 n in
    let l : length x ≡ length g = length-set (replicate (length k) 0) w.0 n ∙ length-replicate (length k) 0 ∙ e in (
      g ⊞ x,
      at_most_sum g x l,
      simp linear
          (omega (arith, simp linear at (value_plus k g x (sym l)), simp linear at (value-only k w.0 n w.1), simp linear at (as_many (get_or k w.0 (pos 0)) n w.2))),
    )

-- What is above the target adds to its value only by a coefficient above zero.
pub lowered : (h : HalfSpace) (g m : Marking) → g ⊑ m → Inside h m → Inside h g ⊎ SomeAbove h.coefficients
unfolding Inside ◌⊑◌
lowered h g m a i =
    let k : List ℤ = h.coefficients in
    let x : List ℕ = m ⊟ g in
    let l : length x ≡ length g = length_minus m g (sym a.0) ∙ sym a.0 in
    let both : value k m ≡ value k g +ℤ value k x = ap (value k) (sym (sum_rest g m a)) ∙ value_plus k g x (sym l) in
    ⊎_elim inl
    (λ (below : value k g <ℤ h.constant). inr (above_zero k x (simp linear (omega (arith, simp linear at both, simp linear at i, simp linear at below)))))
    (inside_or_below h g)

pub theorem_7 : (q : Setting) (h : HalfSpace) → q.target.kind ≡ at_or_above → length h.coefficients ≡ length q.target.tokens → TargetInside q h ↔ (Inside h q.target.tokens ⊎ SomeAbove h.coefficients)
unfolding TargetInside IsTarget Meets
theorem_7 q h kind e =
    rw kind
    (λ w. lowered h q.target.tokens w.0 w.1 w.2, ⊎_elim (λ i. (q.target.tokens, at_most_itself q.target.tokens, i)) (raised h q.target.tokens e))

pub theorem_7_exact : (q : Setting) (h : HalfSpace) → q.target.kind ≡ exact → TargetInside q h ↔ Inside h q.target.tokens
unfolding TargetInside IsTarget Meets
theorem_7_exact q h kind = rw kind (λ w. subst (Inside h) w.1 w.2, λ i. (q.target.tokens, refl, i))
