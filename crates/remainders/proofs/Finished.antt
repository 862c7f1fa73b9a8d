-- A finished table is exact: its length is one of the sizes, so that it can be added to what is reached.
use mathlib.Core.Path.{◌≡◌, refl, ap}
use mathlib.Core.List.{List, [], ◌∷◌}
use Prim.Native.Nat.{ℕ, zero, suc, ◌+◌, ◌*◌, ◌-◌, ◌/◌, ◌%◌, ◌≤◌, ◌<◌}
use native.Mathlib.Nat.{mod-lt, div-add-mod', mul-le-mul_right}
use native.Mathlib.Decide.{dec_lt}
use native.Mathlib.Omega.{arith}
use lib.ListN.{get_or}
use Rattle.remainders.specs.Sums.{Reached, Exact}
use Rattle.remainders.specs.Steps.{Over, Sound, Tabled}

over-reached : (a : ℕ) (ss : List ℕ) (v : ℕ) → Reached ss v → Over a ss v
unfolding Reached Over
over-reached a [] v e = (0, omega arith)
over-reached a (s ∷ ss) v (x, w, o, e) = (x, w, over-reached a ss w o, e)

reached-over : (a : ℕ) (ss : List ℕ) (v : ℕ) → Over a ss v → (w : ℕ) × (m : ℕ) × Reached ss w × (v ≡ m * a + w)
unfolding Reached Over
reached-over a [] v (m, e) = (0, m, refl, omega arith)
reached-over a (s ∷ ss) v (x, w, o, e) =
    let (u, m, r, f) = reached-over a ss w o in
    (s * x + u, m, (x, u, r, refl), omega arith)

-- a size may be added as often as one likes
more : (ss : List ℕ) (p m w : ℕ) → Reached ss w → Reached ss (m * get_or ss p 0 + w)
unfolding Reached
more [] p m w e = omega arith
more (s ∷ ss) zero m w (x, u, r, e) = (x + m, u, r, omega arith)
more (s ∷ ss) (suc p) m w (x, u, r, e) = (x, m * get_or ss p 0 + u, more ss p m u r, omega arith)

-- two numbers with one remainder
apart_by : (a d v : ℕ) → 0 < a → d ≤ v → d % a ≡ v % a → (m : ℕ) × (v ≡ m * a + d)
apart_by a d v some l e = go (dec_lt (v / a) (d / a))
  where
    x : d / a * a + d % a ≡ d
    x = div-add-mod' d a

    y : v / a * a + v % a ≡ v
    y = div-add-mod' v a

    go : Dec (v / a < d / a) → (m : ℕ) × (v ≡ m * a + d)
    go (yes b) = absurd (omega (arith, x, y, mul-le-mul_right {m = v / a + 1} {n = d / a} a (omega arith)))
    go (no b) =
        let m : ℕ = v / a - d / a in
        let f : v / a ≡ d / a + m = omega arith in
        (m, omega (arith, x, y, ap (λ (q : ℕ). q * a) f))

pub finished : (a p : ℕ) (ss T : List ℕ) → 0 < a → get_or ss p 0 ≡ a → Tabled a ss T → Exact ss a T
unfolding Sound
finished a p ss T some one t = record { exactly = λ v b. ((λ r. t.all v (over-reached a ss v r)), from v b) }
  where
    reached_with : (d v : ℕ) → ((w : ℕ) × (m : ℕ) × Reached ss w × (d ≡ m * a + w)) → ((n : ℕ) × (v ≡ n * a + d)) → Reached ss v
    reached_with d v (w, m, r, e) (n, f) =
        let g : v ≡ (n + m) * a + w = omega arith in
        rw (g, ← one) (more ss p (n + m) w r)

    from : (v : ℕ) → v ≤ 5000 → get_or T (v % a) 0 ≤ v → Reached ss v
    from v b l =
        let d : ℕ = get_or T (v % a) 0 in
        let s = t.sound (v % a) (mod-lt v some) (omega arith) in
        reached_with d v (reached-over a ss d s.1) (apart_by a d v some l s.0)
