-- A claim has the reduced form r of another exactly if it is a whole number of times r: where r is d times as small as w, the divisor of w is d, because that of r is one.
use mathlib.Core.Path.{◌≡◌, refl, sym, ap, ap₂, ◌∙◌, subst}
use mathlib.Core.Logic.{◌↔◌, inl, inr}
use Rattle.std.specs.Prelude.{IsTrue}
use mathlib.Core.Bool.{Bool}
use mathlib.Core.List.{List, [], ◌∷◌, ◌++◌, map-append}
use Prim.Native.Nat.{ℕ, zero, suc, ◌*◌, ◌/◌, ◌∣◌, ◌≤◌}
use native.Mathlib.Nat.{le_of_dvd, mul-div_cancel', mul-div_cancel_left, le_of_mul-le-mul_right, mul-le-mul_right}
use native.Mathlib.Omega.{arith}
use lib.IntN.{ℤ, pos, nat_abs, ◌*ℤ◌}
use lib.ListN.{get_or, get_or-map}
use Rattle.signed.specs.Linear.{linear, mul-mul}
use Rattle.nets.specs.HalfSpaces.{HalfSpace}
use Rattle.nets.specs.Reduced.{EachOf, Divides, IsDivisor, divided_by, AllZero, IsReduced, Twins}
use Rattle.nets.proofs.ReducedForm.{divisor_above_zero, same_factor, twins_of_one}
use Rattle.reduction.proofs.Common.{abs_times, each_so, some_common, zero_divides, each_left, each_right}
use Rattle.reduction.proofs.Scaled.{times, times-one}
use Rattle.multiples.specs.Multiples.{IsTimes, IsMultiple, IsPivot, entry, factor_of}

abbrev pub IsZero : ℤ → Type 0
IsZero z = z ≡ pos 0

zero_is : (d : ℕ) → (pos 0 *ℤ pos d) ≡ pos 0
zero_is d = simp linear (omega arith)

-- zeros stay zeros, and come of zeros
zero_times : (d : ℕ) (zs : List ℤ) → EachOf IsZero zs → times d zs ≡ zs
unfolding EachOf
zero_times d [] h = refl
zero_times d (z ∷ zs) h = ap₂ (λ (x : ℤ) (l : List ℤ). x ∷ l) (ap (λ (x : ℤ). x *ℤ pos d) h.0 ∙ zero_is d ∙ sym h.0) (zero_times d zs h.1)

times_zero : (d : ℕ) → 1 ≤ d → (zs : List ℤ) → EachOf IsZero (times d zs) → EachOf IsZero zs
unfolding EachOf
times_zero d l [] h = tt
times_zero d l (z ∷ zs) h = (same_factor d l z (pos 0) (h.0 ∙ sym (zero_is d)), times_zero d l zs h.1)

-- what divides a product with d, and its other factor
times-divides : (d : ℕ) (zs : List ℤ) → EachOf (Divides d) (times d zs)
unfolding EachOf Divides
times-divides d [] = tt
times-divides d (z ∷ zs) = ((z, refl), times-divides d zs)

divides_other : (d m : ℕ) → 1 ≤ d → (zs : List ℤ) → EachOf (Divides (m * d)) (times d zs) → EachOf (Divides m) zs
unfolding EachOf Divides
divides_other d m l [] h = tt
divides_other d m l (z ∷ zs) h = ((h.0.0, same_factor d l z (h.0.0 *ℤ pos m) (h.0.1 ∙ sym (mul-mul h.0.0 m d))), divides_other d m l zs h.1)

divides_more : (g m : ℕ) (zs : List ℤ) → EachOf (Divides m) zs → EachOf (Divides (m * g)) (times g zs)
unfolding EachOf Divides
divides_more g m [] h = tt
divides_more g m (z ∷ zs) h = ((h.0.0, ap (λ (x : ℤ). x *ℤ pos g) h.0.1 ∙ mul-mul h.0.0 m g), divides_more g m zs h.1)

-- the divisor of d times a row whose divisor is one
divisor_times : (g d : ℕ) (rs : List ℤ) → IsDivisor (times g rs) g → 1 ≤ d → (EachOf IsZero (times d rs) → ⊥) → IsDivisor (times d rs) d
divisor_times g d rs p l some = record { common = times-divides d rs; greatest = most }
  where
    most : (e : ℕ) → EachOf (Divides e) (times d rs) → e ≤ d
    most e h = by (some_common (times d rs)).0 refl
      where
        by : (D : ℕ) → D ≡ (some_common (times d rs)).0 → e ≤ d
        by zero q = absurd (some (each_so zero_divides (times d rs) (subst (λ (n : ℕ). EachOf (Divides n) (times d rs)) (sym q) (some_common (times d rs)).1.common)))
        by (suc D) q =
            let c = (some_common (times d rs)).1 in
            let m = suc D / d in
            let split : suc D ≡ m * d = omega (arith, mul-div_cancel' d (subst (λ (n : ℕ). d ∣ n) (sym q) (c.greatest d (times-divides d rs)))) in
            let each : EachOf (Divides (m * d)) (times d rs) = subst (λ (n : ℕ). EachOf (Divides n) (times d rs)) (sym q ∙ split) c.common in
            let once : m ≤ 1 = le_of_mul-le-mul_right {k = g} (omega (arith, p.greatest (m * g) (divides_more g m rs (divides_other d m l rs each)))) (divisor_above_zero (times g rs) g p) in
            omega (arith, le_of_dvd (omega arith) (subst (λ (n : ℕ). e ∣ n) (sym q) (c.greatest e h)), mul-le-mul_right d once)

-- coefficients and constant in one row
times_all : (d : ℕ) (w r : HalfSpace) → w.coefficients ≡ times d r.coefficients → w.constant ≡ r.constant *ℤ pos d → divided_by w ≡ times d (divided_by r)
unfolding divided_by
times_all d w r k c = ap₂ (λ (l : List ℤ) (z : ℤ). l ++ (z ∷ [])) k c ∙ sym (map-append (λ (k : ℤ). k *ℤ pos d) r.coefficients (r.constant ∷ []))

-- the two ways
reduced_multiple : (w r : HalfSpace) → IsReduced w r → IsMultiple w r
unfolding IsReduced IsMultiple
reduced_multiple w r (inl a) = (
  1,
  record {
    some = omega arith;
    coefficients = ap (λ (h : HalfSpace). h.coefficients) (sym a.1) ∙ sym (times-one r.coefficients);
    constant = ap (λ (h : HalfSpace). h.constant) (sym a.1) ∙ simp linear (omega arith);
  },
)
reduced_multiple w r (inr a) = (
  a.1.divisor,
  record {
    some = divisor_above_zero (divided_by w) a.1.divisor a.1.is_divisor;
    coefficients = a.1.coefficients_divided;
    constant = a.1.constant_divided;
  },
)

-- where all of r is zero, any number of times r is r
all_zero_same : (d : ℕ) (w r : HalfSpace) → AllZero r → IsTimes d w r → r ≡ w
unfolding AllZero divided_by EachOf
all_zero_same d w r all t =
    let k : r.coefficients ≡ w.coefficients = sym (t.coefficients ∙ zero_times d r.coefficients (each_left IsZero r.coefficients (r.constant ∷ []) all)) in
    let z : r.constant ≡ pos 0 = (each_right IsZero r.coefficients (r.constant ∷ []) all).0 in
    let c : r.constant ≡ w.constant = z ∙ sym (t.constant ∙ ap (λ (x : ℤ). x *ℤ pos d) z ∙ zero_is d) in
    λ i. record { coefficients = k i; constant = c i }

multiple_reduced : (h w r : HalfSpace) → IsReduced h r → IsMultiple w r → IsReduced w r
unfolding IsReduced IsMultiple AllZero
multiple_reduced h w r (inl a) (d, t) =
    let all : AllZero r = subst AllZero (sym a.1) a.0 in
    let same : r ≡ w = all_zero_same d w r all t in
    inl (subst AllZero same all, same)
multiple_reduced h w r (inr a) (d, t) =
    let g = a.1.divisor in
    let rs = divided_by r in
    let of-h : divided_by h ≡ times g rs = times_all g h r a.1.coefficients_divided a.1.constant_divided in
    let of-w : divided_by w ≡ times d rs = times_all d w r t.coefficients t.constant in
    let some : EachOf IsZero (times d rs) → ⊥ =
    λ all. let zeros = times_zero d t.some rs all in a.0 (subst (EachOf IsZero) (sym (of-h ∙ zero_times g rs zeros)) zeros) in
    inr (
      λ all. some (subst (EachOf IsZero) of-w all),
      record {
        divisor = d;
        is_divisor = subst (λ (l : List ℤ). IsDivisor l d) (sym of-w) (divisor_times g d rs (subst (λ (l : List ℤ). IsDivisor l g) of-h a.1.is_divisor) t.some some);
        coefficients_divided = t.coefficients;
        constant_divided = t.constant;
      },
    )

module _ (h w r : HalfSpace) (a : IsReduced h r) where
  twins_multiple : Twins h w → IsMultiple w r
  twins_multiple t = reduced_multiple w r (twins_of_one h w r t a)

  multiple_twins : IsMultiple w r → Twins h w
  unfolding Twins
  multiple_twins m = (r, a, multiple_reduced h w r a m)

  pub told_twins : (t : Bool) → (IsTrue t ↔ IsMultiple w r) → (IsTrue t ↔ Twins h w)
  told_twins t m = ((λ e. multiple_twins (m.0 e)), (λ w. m.1 (twins_multiple w)))

-- the number of times shows at the pivot
pub times_at : (d : ℕ) (zs : List ℤ) (p : ℕ) → get_or (times d zs) p (pos 0) ≡ get_or zs p (pos 0) *ℤ pos d
times_at d zs p = ap (get_or (times d zs) p) (sym (zero_is d)) ∙ get_or-map (λ (k : ℤ). k *ℤ pos d) zs p (pos 0)

entry_times : (d : ℕ) (w r : HalfSpace) (p : ℕ) → IsTimes d w r → entry w p ≡ entry r p *ℤ pos d
entry_times d w r p t =
    ap (λ (l : List ℤ). get_or l p (pos 0)) (times_all d w r t.coefficients t.constant)
    ∙ times_at d (divided_by r) p

pub factor_found : (w r : HalfSpace) (p y : ℕ) → IsPivot r p y → IsMultiple w r → IsTimes (factor_of (nat_abs (entry w p)) y) w r
unfolding IsMultiple
factor_found w r p zero v (d, t) =
    let same : w ≡ r = sym (all_zero_same d w r (v.zero_only refl) t) in
    record {
      some = omega arith;
      coefficients = ap (λ (h : HalfSpace). h.coefficients) same ∙ sym (times-one r.coefficients);
      constant = ap (λ (h : HalfSpace). h.constant) same ∙ simp linear (omega arith);
    }
factor_found w r p (suc y) v (d, t) =
    let x : nat_abs (entry w p) ≡ suc y * d = ap nat_abs (entry_times d w r p t) ∙ abs_times (entry r p) d ∙ ap (λ (n : ℕ). n * d) (sym v.size_there) in
    subst (λ (n : ℕ). IsTimes n w r) (sym (ap (λ (n : ℕ). n / suc y) x ∙ mul-div_cancel_left d (omega arith))) t

-- so a test at that number decides
module _ (w r : HalfSpace) (p y d : ℕ) (v : IsPivot r p y) (e : d ≡ factor_of (nat_abs (entry w p)) y) where
  at_this : IsMultiple w r → IsTimes d w r
  at_this m = subst (λ (n : ℕ). IsTimes n w r) (sym e) (factor_found w r p y v m)

  pub no_factor : d ≡ 0 → IsMultiple w r → ⊥
  no_factor z m = omega (arith, (at_this m).some)

  pub other_constant : (w.constant ≡ r.constant *ℤ pos d → ⊥) → IsMultiple w r → ⊥
  other_constant differs m = differs (at_this m).constant

  pub by_row : (t : Bool) → 1 ≤ d → w.constant ≡ r.constant *ℤ pos d → (IsTrue t ↔ (w.coefficients ≡ times d r.coefficients)) → (IsTrue t ↔ IsMultiple w r)
  unfolding IsMultiple
  by_row t l c k = ((λ e. (d, record { some = l; coefficients = k.0 e; constant = c })), (λ m. k.1 (at_this m).coefficients))
