-- The divisor of a row is that of its parts' divisors, so Euclid's rule finds it number by number; and it is the divisor that the reduced form asks for.
use mathlib.Core.Path.{◌≡◌, refl, sym, ap, ◌∙◌, subst}
use mathlib.Core.Logic.{inl, inr}
use mathlib.Core.List.{List, [], ◌∷◌, ◌++◌}
use Prim.Native.Nat.{ℕ, zero, suc, ◌*◌, ◌/◌, ◌∣◌, ◌<◌}
use native.Mathlib.Nat.{dvd_trans, dvd-zero, dvd-mul_left, dvd_refl, le_of_dvd, eq-zero_of_zero-dvd, mul-div_cancel'}
use native.Mathlib.Omega.{arith}
use lib.ListN.{length, get_or}
use lib.IntN.{ℤ, pos, negsuc, neg_ℤ, nat_abs, ◌*ℤ◌}
use Rattle.signed.specs.Parts.{positive_part-mul, negative_part-mul, positive_part-neg, negative_part-neg, abs_parts, eq_out}
use Rattle.signed.specs.Linear.{linear}
use Rattle.nets.specs.HalfSpaces.{HalfSpace}
use Rattle.nets.specs.Reduced.{EachOf, Divides, divided_by, AllZero}
use Rattle.std.specs.Int.{IsGcd}
use Rattle.reduction.specs.Divisors.{IsCommon, IsDivisorOf}
use Rattle.reduction.proofs.Remainders.{some_gcd}

-- a number divides a signed one exactly if it divides its size
pub abs_times : (q : ℤ) (d : ℕ) → nat_abs (q *ℤ pos d) ≡ nat_abs q * d
abs_times q d = omega (arith, abs_parts (q *ℤ pos d), positive_part-mul q d, negative_part-mul q d, ap (λ (x : ℕ). x * d) (abs_parts q))

divides_size : (d : ℕ) (z : ℤ) → Divides d z → d ∣ nat_abs z
unfolding Divides
divides_size d z h = subst (λ (n : ℕ). d ∣ n) (sym (ap nat_abs h.1 ∙ abs_times h.0 d)) (dvd-mul_left d (nat_abs h.0))

size_divides : (d : ℕ) (z : ℤ) → d ∣ nat_abs z → Divides d z
unfolding Divides
size_divides d (pos n) h = (pos (n / d), eq_out (omega (arith, positive_part-mul (pos (n / d)) d, negative_part-mul (pos (n / d)) d, mul-div_cancel' d h)))
size_divides d (negsuc n) h =
    let q = neg_ℤ (pos (suc n / d)) in
    (q, eq_out (omega (arith, positive_part-mul q d, negative_part-mul q d, ap (λ (x : ℕ). x * d) (positive_part-neg (pos (suc n / d))), ap (λ (x : ℕ). x * d) (negative_part-neg (pos (suc n / d))), mul-div_cancel' d h)))

-- of each
pub each_so : {F G : ℤ → Type 0} → ((z : ℤ) → F z → G z) → (zs : List ℤ) → EachOf F zs → EachOf G zs
unfolding EachOf
each_so f [] h = tt
each_so f (z ∷ zs) h = (f z h.0, each_so f zs h.1)

pub each_append : (F : ℤ → Type 0) (xs ys : List ℤ) → EachOf F xs → EachOf F ys → EachOf F (xs ++ ys)
unfolding EachOf
each_append F [] ys h k = k
each_append F (x ∷ xs) ys h k = (h.0, each_append F xs ys h.1 k)

pub each_left : (F : ℤ → Type 0) (xs ys : List ℤ) → EachOf F (xs ++ ys) → EachOf F xs
unfolding EachOf
each_left F [] ys h = tt
each_left F (x ∷ xs) ys h = (h.0, each_left F xs ys h.1)

pub each_right : (F : ℤ → Type 0) (xs ys : List ℤ) → EachOf F (xs ++ ys) → EachOf F ys
unfolding EachOf
each_right F [] ys h = h
each_right F (x ∷ xs) ys h = each_right F xs ys h.1

pub each_at : (F : ℤ → Type 0) (zs : List ℤ) (p : ℕ) → p < length zs → EachOf F zs → F (get_or zs p (pos 0))
unfolding EachOf
each_at F [] p l h = absurd (omega arith)
each_at F (z ∷ zs) zero l h = h.0
each_at F (z ∷ zs) (suc p) l h = each_at F zs p (omega arith) h.1

-- none, one, and two parts
pub common_none : IsCommon [] 0
unfolding EachOf
common_none = record { common = tt; greatest = λ e h. dvd-zero e }

common_one : (z : ℤ) → IsCommon (z ∷ []) (nat_abs z)
unfolding EachOf
common_one z = record { common = (size_divides (nat_abs z) z (dvd_refl (nat_abs z)), tt); greatest = λ e h. divides_size e z h.0 }

common_both : (xs ys : List ℤ) (a b g : ℕ) → IsCommon xs a → IsCommon ys b → IsGcd a b g → IsCommon (xs ++ ys) g
common_both xs ys a b g p q h =
    record {
      common = each_append (Divides g) xs ys (each_so (λ z d. size_divides g z (dvd_trans g h.0 (divides_size a z d))) xs p.common) (each_so (λ z d. size_divides g z (dvd_trans g h.1 (divides_size b z d))) ys q.common);
      greatest = λ e k. h.2 e (p.greatest e (each_left (Divides e) xs ys k)) (q.greatest e (each_right (Divides e) xs ys k));
    }

pub common_more : (zs : List ℤ) (z : ℤ) (a g : ℕ) → IsCommon zs a → IsGcd a (nat_abs z) g → IsCommon (zs ++ (z ∷ [])) g
common_more zs z a g p h = common_both zs (z ∷ []) a (nat_abs z) g p (common_one z) h

pub some_common : (zs : List ℤ) → (g : ℕ) × IsCommon zs g
some_common [] = (0, common_none)
some_common (z ∷ zs) =
    let (a, p) = some_common zs in
    let (g, h) = some_gcd (nat_abs z) a in
    (g, common_both (z ∷ []) zs (nat_abs z) a g (common_one z) p h)

-- only zero is divided by zero, and zero by everything
pub zero_divides : (z : ℤ) → Divides 0 z → z ≡ pos 0
unfolding Divides
zero_divides z h = h.1 ∙ simp linear (omega arith)

divides-zero : (z : ℤ) → z ≡ pos 0 → Divides 0 z
unfolding Divides
divides-zero z e = (pos 0, e ∙ simp linear (omega arith))

pub common_divisor : (h : HalfSpace) (g : ℕ) → IsCommon (divided_by h) g → IsDivisorOf h g
unfolding IsDivisorOf AllZero
common_divisor h zero p = inl (each_so zero_divides (divided_by h) p.common, refl)
common_divisor h (suc g) p =
    inr (
      λ all. let z = eq-zero_of_zero-dvd (p.greatest 0 (each_so divides-zero (divided_by h) all)) in omega arith,
      record { common = p.common; greatest = λ e k. le_of_dvd (omega arith) (p.greatest e k) },
    )
