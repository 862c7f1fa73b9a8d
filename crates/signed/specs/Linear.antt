-- Linear statements on ℤ, pushed down to naturals by `simp linear`, for `omega`.
-- `Le xs ys u v` says u + Σ xs ≤ v + Σ ys. A sum, a difference, a number or a product by a natural at the head of a list is taken apart; any other z is P z - N z.
use Rattle.std.specs.Prelude.{◌≡◌, ◌↔◌, List, [], ◌∷◌, ℕ, suc, ◌+◌, ◌*◌, ◌≤◌, ◌^◌, ℤ, pos, negsuc, neg_ℤ, ◌+ℤ◌, ◌*ℤ◌, ◌≤ℤ◌, ◌<ℤ◌}
use Rattle.std.proofs.Common.{ap, mul-le-mul_right, arith}
use Rattle.std.specs.Int.{Width}
use mir.Val.{SFits, hbits}
use Rattle.std.proofs.Math.IntN.{sub_ℕ, *ℤ_comm}
use Rattle.signed.specs.Parts.{positive_part, negative_part, positive_part-pos, negative_part-pos, positive_part-negsuc, negative_part-negsuc, add_parts, positive_part-neg, negative_part-neg, positive_part-mul, negative_part-mul, sub_parts, le_in, le_out, lt_in, lt_out, eq_in, eq_out, sfits, sfits_hi, sfits_lo}

abbrev sum_positive : List ℤ → ℕ
sum_positive [] = 0
sum_positive (x ∷ xs) = positive_part x + sum_positive xs

abbrev sum_negative : List ℤ → ℕ
sum_negative [] = 0
sum_negative (x ∷ xs) = negative_part x + sum_negative xs

pub record Le (xs ys : List ℤ) (u v : ℕ) : Type 0 where
  pub holds : u + sum_positive xs + sum_negative ys ≤ v + sum_positive ys + sum_negative xs

le : (xs ys : List ℤ) (u v : ℕ) → u + sum_positive xs + sum_negative ys ≤ v + sum_positive ys + sum_negative xs → Le xs ys u v
le xs ys u v h = record { holds = h }

pub le_open : (a b : ℤ) → (a ≤ℤ b) ↔ Le (a ∷ []) (b ∷ []) 0 0
le_open a b = (λ h. le (a ∷ []) (b ∷ []) 0 0 (omega (arith, le_in h)), λ h. le_out (omega arith))

pub lt_open : (a b : ℤ) → (a <ℤ b) ↔ Le (a ∷ []) (b ∷ []) 1 0
lt_open a b = (λ h. le (a ∷ []) (b ∷ []) 1 0 (omega (arith, lt_in h)), λ h. lt_out (omega arith))

pub eq_open : (a b : ℤ) → (a ≡ b) ↔ (Le (a ∷ []) (b ∷ []) 0 0 × Le (b ∷ []) (a ∷ []) 0 0)
eq_open a b = (λ h. (le (a ∷ []) (b ∷ []) 0 0 (omega (arith, eq_in h)), le (b ∷ []) (a ∷ []) 0 0 (omega (arith, eq_in h))), λ h. eq_out (omega arith))

pub sfits_open : (w : Width) (z : ℤ) → SFits w z ↔ (Le (z ∷ []) [] 1 (2 ^ hbits w) × Le [] (z ∷ []) 0 (2 ^ hbits w))
sfits_open w z = (λ h. (le (z ∷ []) [] 1 (2 ^ hbits w) (omega (arith, sfits_hi h)), le [] (z ∷ []) 0 (2 ^ hbits w) (omega (arith, sfits_lo h))), λ h. sfits (omega arith))

pub le_close : (u v : ℕ) → Le [] [] u v ↔ (u ≤ v)
le_close u v = (λ h. omega arith, λ h. le [] [] u v (omega arith))

module _ (xs ys : List ℤ) (u v : ℕ) where
  pub le_add_l : (a b : ℤ) → Le ((a +ℤ b) ∷ xs) ys u v ↔ Le (a ∷ b ∷ xs) ys u v
  le_add_l a b = (λ h. le (a ∷ b ∷ xs) ys u v (omega (arith, add_parts a b)), λ h. le ((a +ℤ b) ∷ xs) ys u v (omega (arith, add_parts a b)))

  pub le_add_r : (a b : ℤ) → Le xs ((a +ℤ b) ∷ ys) u v ↔ Le xs (a ∷ b ∷ ys) u v
  le_add_r a b = (λ h. le xs (a ∷ b ∷ ys) u v (omega (arith, add_parts a b)), λ h. le xs ((a +ℤ b) ∷ ys) u v (omega (arith, add_parts a b)))

  pub le_neg_l : (a : ℤ) → Le (neg_ℤ a ∷ xs) ys u v ↔ Le xs (a ∷ ys) u v
  le_neg_l a = (λ h. le xs (a ∷ ys) u v (omega (arith, positive_part-neg a, negative_part-neg a)), λ h. le (neg_ℤ a ∷ xs) ys u v (omega (arith, positive_part-neg a, negative_part-neg a)))

  pub le_neg_r : (a : ℤ) → Le xs (neg_ℤ a ∷ ys) u v ↔ Le (a ∷ xs) ys u v
  le_neg_r a = (λ h. le (a ∷ xs) ys u v (omega (arith, positive_part-neg a, negative_part-neg a)), λ h. le xs (neg_ℤ a ∷ ys) u v (omega (arith, positive_part-neg a, negative_part-neg a)))

  pub le_pos_l : (n : ℕ) → Le (pos n ∷ xs) ys u v ↔ Le xs ys (u + n) v
  le_pos_l n = (λ h. le xs ys (u + n) v (omega (arith, positive_part-pos n, negative_part-pos n)), λ h. le (pos n ∷ xs) ys u v (omega (arith, positive_part-pos n, negative_part-pos n)))

  pub le_pos_r : (n : ℕ) → Le xs (pos n ∷ ys) u v ↔ Le xs ys u (v + n)
  le_pos_r n = (λ h. le xs ys u (v + n) (omega (arith, positive_part-pos n, negative_part-pos n)), λ h. le xs (pos n ∷ ys) u v (omega (arith, positive_part-pos n, negative_part-pos n)))

  pub le_negsuc_l : (n : ℕ) → Le (negsuc n ∷ xs) ys u v ↔ Le xs ys u (v + suc n)
  le_negsuc_l n = (λ h. le xs ys u (v + suc n) (omega (arith, positive_part-negsuc n, negative_part-negsuc n)), λ h. le (negsuc n ∷ xs) ys u v (omega (arith, positive_part-negsuc n, negative_part-negsuc n)))

  pub le_negsuc_r : (n : ℕ) → Le xs (negsuc n ∷ ys) u v ↔ Le xs ys (u + suc n) v
  le_negsuc_r n = (λ h. le xs ys (u + suc n) v (omega (arith, positive_part-negsuc n, negative_part-negsuc n)), λ h. le xs (negsuc n ∷ ys) u v (omega (arith, positive_part-negsuc n, negative_part-negsuc n)))

  pub le_sub_l : (a b : ℕ) → Le (sub_ℕ a b ∷ xs) ys u v ↔ Le xs ys (u + a) (v + b)
  le_sub_l a b = (λ h. le xs ys (u + a) (v + b) (omega (arith, sub_parts a b)), λ h. le (sub_ℕ a b ∷ xs) ys u v (omega (arith, sub_parts a b)))

  pub le_sub_r : (a b : ℕ) → Le xs (sub_ℕ a b ∷ ys) u v ↔ Le xs ys (u + b) (v + a)
  le_sub_r a b = (λ h. le xs ys (u + b) (v + a) (omega (arith, sub_parts a b)), λ h. le xs (sub_ℕ a b ∷ ys) u v (omega (arith, sub_parts a b)))

  pub le_mul_l : (k : ℤ) (n : ℕ) → Le ((k *ℤ pos n) ∷ xs) ys u v ↔ Le xs ys (u + positive_part k * n) (v + negative_part k * n)
  le_mul_l k n = (λ h. le xs ys (u + positive_part k * n) (v + negative_part k * n) (omega (arith, positive_part-mul k n, negative_part-mul k n)), λ h. le ((k *ℤ pos n) ∷ xs) ys u v (omega (arith, positive_part-mul k n, negative_part-mul k n)))

  pub le_mul_r : (k : ℤ) (n : ℕ) → Le xs ((k *ℤ pos n) ∷ ys) u v ↔ Le xs ys (u + negative_part k * n) (v + positive_part k * n)
  le_mul_r k n = (λ h. le xs ys (u + negative_part k * n) (v + positive_part k * n) (omega (arith, positive_part-mul k n, negative_part-mul k n)), λ h. le xs ((k *ℤ pos n) ∷ ys) u v (omega (arith, positive_part-mul k n, negative_part-mul k n)))

  pub le_atom_l : (z : ℤ) → Le (z ∷ xs) ys u v ↔ Le xs ys (u + positive_part z) (v + negative_part z)
  le_atom_l z = (λ h. le xs ys (u + positive_part z) (v + negative_part z) (omega arith), λ h. le (z ∷ xs) ys u v (omega arith))

  pub le_atom_r : (z : ℤ) → Le xs (z ∷ ys) u v ↔ Le xs ys (u + negative_part z) (v + positive_part z)
  le_atom_r z = (λ h. le xs ys (u + negative_part z) (v + positive_part z) (omega arith), λ h. le xs (z ∷ ys) u v (omega arith))

-- a product by a natural goes into a sum, a negation and a product, and a natural to the right
pub add-mul : (a b : ℤ) (n : ℕ) → (a +ℤ b) *ℤ pos n ≡ (a *ℤ pos n) +ℤ (b *ℤ pos n)
add-mul a b n =
    eq_out
    (omega (arith, positive_part-mul (a +ℤ b) n, negative_part-mul (a +ℤ b) n, add_parts (a *ℤ pos n) (b *ℤ pos n), positive_part-mul a n, negative_part-mul a n, positive_part-mul b n, negative_part-mul b n, ap (λ (x : ℕ). x * n) (add_parts a b)))

pub neg-mul : (a : ℤ) (n : ℕ) → neg_ℤ a *ℤ pos n ≡ neg_ℤ (a *ℤ pos n)
neg-mul a n =
    eq_out
    (omega (arith, positive_part-mul (neg_ℤ a) n, negative_part-mul (neg_ℤ a) n, positive_part-neg (a *ℤ pos n), negative_part-neg (a *ℤ pos n), positive_part-mul a n, negative_part-mul a n, ap (λ (x : ℕ). x * n) (positive_part-neg a), ap (λ (x : ℕ). x * n) (negative_part-neg a)))

pub mul-mul : (a : ℤ) (m n : ℕ) → (a *ℤ pos m) *ℤ pos n ≡ a *ℤ pos (m * n)
mul-mul a m n =
    eq_out
    (omega (arith, positive_part-mul (a *ℤ pos m) n, negative_part-mul (a *ℤ pos m) n, positive_part-mul a (m * n), negative_part-mul a (m * n), ap (λ (x : ℕ). x * n) (positive_part-mul a m), ap (λ (x : ℕ). x * n) (negative_part-mul a m)))

pub nat_mul : (n : ℕ) (a : ℤ) → pos n *ℤ a ≡ a *ℤ pos n
nat_mul n a = *ℤ_comm (pos n) a

-- the order of the list counts: the two rules of an atom come last
pub ruleset linear = (add-mul, neg-mul, mul-mul, nat_mul, le_close, le_open, lt_open, eq_open, sfits_open, le_add_l, le_add_r, le_neg_l, le_neg_r, le_pos_l, le_pos_r, le_negsuc_l, le_negsuc_r, le_sub_l, le_sub_r, le_mul_l, le_mul_r, le_atom_l, le_atom_r)

-- a bound of a factor is a bound of the product by a natural
pub mul-le : (k : ℤ) (b n : ℕ) → k ≤ℤ pos b → (k *ℤ pos n) ≤ℤ pos (b * n)
mul-le k b n h = simp linear (omega (arith, mul-le-mul_right n (simp linear at h)))

pub mul_ge : (k : ℤ) (b n : ℕ) → neg_ℤ (pos b) ≤ℤ k → neg_ℤ (pos (b * n)) ≤ℤ (k *ℤ pos n)
mul_ge k b n h = simp linear (omega (arith, mul-le-mul_right n (simp linear at h)))
