-- How the table of some sizes becomes that of one more: no entry rises, all that stands in it is reached, and every step of the new size is closed.
use mathlib.Core.Path.{◌≡◌, ap, ◌∙◌}
use mathlib.Core.List.{List, [], ◌∷◌}
use Prim.Native.Nat.{ℕ, zero, suc, ◌+◌, ◌*◌, ◌%◌, ◌≤◌, ◌<◌}
use native.Mathlib.Nat.{mod-lt, mod-add-mod, add-mod-mod, add-mod, mul-mod_left, zero-mod}
use native.Mathlib.Decide.{dec_lt, ℕ_discrete}
use native.Mathlib.Omega.{arith}
use lib.ListN.{length, get_or, get_or-eq_default}
use Rattle.remainders.specs.Steps.{Over, far, Sound, Closed, Tabled, Blank}

over_zero : (a : ℕ) (ss : List ℕ) → Over a ss 0
unfolding Over
over_zero a [] = (0, omega arith)
over_zero a (s ∷ ss) = (0, 0, over_zero a ss, omega arith)

over_sum : (a : ℕ) (ss : List ℕ) (v w : ℕ) → Over a ss v → Over a ss w → Over a ss (v + w)
unfolding Over
over_sum a [] v w (m, e) (n, f) = (m + n, omega arith)
over_sum a (s ∷ ss) v w (x, u, o, e) (y, t, p, f) = (x + y, u + t, over_sum a ss u t o p, omega arith)

pub over_more : (a k : ℕ) (ss : List ℕ) (v : ℕ) → Over a (k ∷ ss) v → Over a (k ∷ ss) (v + k)
unfolding Over
over_more a k ss v (x, w, o, e) = (x + 1, w, o, omega arith)

over_kept : (a k : ℕ) (ss : List ℕ) (v : ℕ) → Over a ss v → Over a (k ∷ ss) v
unfolding Over
over_kept a k ss v o = (0, v, o, omega arith)

pub sound_kept : (a k : ℕ) (ss T : List ℕ) → Sound a ss T → Sound a (k ∷ ss) T
unfolding Sound
sound_kept a k ss T S r l f = let s = S r l f in (s.0, over_kept a k ss (get_or T r 0) s.1)

-- entry 0 of a table is 0
pub first_is : (a : ℕ) (ss T : List ℕ) → Tabled a ss T → get_or T 0 0 ≡ 0
first_is a ss T t = let e = ap (λ (r : ℕ). get_or T r 0) (zero-mod a) in omega (arith, t.all 0 (over_zero a ss))

module _ (a k : ℕ) (ss T T' : List ℕ) (some : 0 < a) (t : Tabled a ss T) (below : (r : ℕ) → get_or T' r 0 ≤ get_or T r 0) (closed : (c : ℕ) → c < a → Closed a k T' c) where
  climb : (x w : ℕ) → Over a ss w → get_or T' ((k * x + w) % a) 0 ≤ k * x + w
  unfolding Closed
  climb zero w o =
      let e : k * 0 + w ≡ w = omega arith in
      rw e (omega (arith, below (w % a), t.all w o))
  climb (suc x) w o =
      let u : ℕ = k * x + w in
      let e : k * suc x + w ≡ u + k = omega arith in
      let i = ap (λ (r : ℕ). get_or T' r 0) (mod-add-mod u a k) in
      rw e (omega (arith, closed (u % a) (mod-lt u some), climb x w o))

  pub extended : Sound a (k ∷ ss) T' → Tabled a (k ∷ ss) T'
  unfolding Over
  extended S =
      record {
        low = λ r. omega (arith, below r, t.low r);
        sound = S;
        all = λ v o. let e = o.3 in rw e (climb o.0 o.1 o.2);
      }

-- a size that is reached already: every step of it is closed
pub closed_already : (a k : ℕ) (ss T : List ℕ) → 0 < a → k ≤ 128 → Tabled a ss T → get_or T (k % a) 0 ≤ k → (c : ℕ) → c < a → Closed a k T c
unfolding Closed Sound
closed_already a k ss T some small t have c l = go (dec_lt (get_or T c 0) far)
  where
    go : Dec (get_or T c 0 < far) → get_or T ((c + k) % a) 0 ≤ get_or T c 0 + k
    go (no n) = omega (arith, t.low ((c + k) % a))
    go (yes f) =
        let d : ℕ = get_or T (k % a) 0 in
        let x = t.sound c l f in
        let y = t.sound (k % a) (mod-lt k some) (omega arith) in
        let e : (get_or T c 0 + d) % a ≡ (c + k) % a = add-mod (get_or T c 0) d a ∙ ap (λ (u : ℕ). (u + d % a) % a) x.0 ∙ ap (λ (u : ℕ). (c + u) % a) y.0 ∙ add-mod-mod c k a in
        let i = ap (λ (r : ℕ). get_or T r 0) e in
        omega (arith, t.all (get_or T c 0 + d) (over_sum a ss (get_or T c 0) d x.1 y.1))

-- the table of no size
pub nothing_yet : (T : List ℕ) → Blank T → Tabled (length T) [] T
unfolding Over Sound
nothing_yet T b =
    record {
      low = λ r. low r (ℕ_discrete r 0) (dec_lt r (length T));
      sound = λ r l f. sound r l f (ℕ_discrete r 0);
      all = λ v o. let e : get_or T (v % length T) 0 ≡ 0 = ap (λ (r : ℕ). get_or T r 0) (ap (λ (u : ℕ). u % length T) o.1 ∙ mul-mod_left o.0 (length T)) ∙ b.first in omega arith;
    }
  where
    low : (r : ℕ) → Dec (r ≡ 0) → Dec (r < length T) → get_or T r 0 ≤ far
    low r (yes e) l = rw e (omega (arith, b.first))
    low r (no n) (yes l) = omega (arith, b.others r (omega arith) l)
    low r (no n) (no l) = omega (arith, get_or-eq_default T 0 {n = r} (omega arith))

    sound : (r : ℕ) → r < length T → get_or T r 0 < far → Dec (r ≡ 0) → (get_or T r 0 % length T ≡ r) × ((m : ℕ) × (get_or T r 0 ≡ m * length T))
    sound r l f (yes e) = rw (e, b.first) (zero-mod (length T), (0, omega arith))
    sound r l f (no n) = absurd (omega (arith, b.others r (omega arith) l))
