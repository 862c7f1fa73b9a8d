-- The completeness argument: a set of positions that holds the start, is closed under the steps towards the window and misses the window shows that no counts lead into it.
use mathlib.Core.Path.{◌≡◌, refl, ap}
use mathlib.Core.List.{List, [], ◌∷◌}
use Prim.Native.Nat.{ℕ, zero, suc, ◌+◌, ◌*◌, ◌-◌, ◌≤◌, ◌<◌}
use native.Mathlib.Nat.{mul-le-mul_right}
use native.Mathlib.Decide.{dec_lt}
use native.Mathlib.Omega.{arith}
use lib.ListN.{length, get_or, set}
use Rattle.sums.specs.Sum.{total, dot, Hits}

-- a place with a count whose coefficient is above 0
record Gain (up dn x : List ℕ) : Type 0 where
  pub place : ℕ
  pub some : 0 < get_or x place 0
  pub more : get_or dn place 0 < get_or up place 0

there : {u d a : ℕ} {up dn x : List ℕ} → Gain up dn x → Gain (u ∷ up) (d ∷ dn) (a ∷ x)
there g = record { place = suc g.place; some = g.some; more = g.more }

there' : {u a : ℕ} {up x : List ℕ} → Gain up [] x → Gain (u ∷ up) [] (a ∷ x)
there' g = record { place = suc g.place; some = g.some; more = g.more }

-- where dn·x < up·x some place gains
gain : (up dn x : List ℕ) → dot dn x < dot up x → Gain up dn x
unfolding dot
gain [] [] x h = absurd (omega arith)
gain [] (d ∷ dn) x h = absurd (omega arith)
gain (u ∷ up) [] [] h = absurd (omega arith)
gain (u ∷ up) [] (zero ∷ x) h = there' (gain up [] x (omega arith))
gain (zero ∷ up) [] (suc a ∷ x) h = there' (gain up [] x (omega arith))
gain (suc u ∷ up) [] (suc a ∷ x) h = record { place = 0; some = omega arith; more = omega arith }
gain (u ∷ up) (d ∷ dn) [] h = absurd (omega arith)
gain (u ∷ up) (d ∷ dn) (zero ∷ x) h = there (gain up dn x (omega arith))
gain (u ∷ up) (d ∷ dn) (suc a ∷ x) h = go (dec_lt d u) (λ l. gain up dn x l)
  where
    go : Dec (d < u) → (dot dn x < dot up x → Gain up dn x) → Gain (u ∷ up) (d ∷ dn) (suc a ∷ x)
    go (yes m) rest = record { place = 0; some = omega arith; more = m }
    go (no n) rest = there (rest (omega (arith, mul-le-mul_right {m = u} {n = d} (suc a) (omega arith))))

-- the counts with one less, or one more, at a place
abbrev less : List ℕ → ℕ → List ℕ
less x p = set x p (get_or x p 0 - 1)

abbrev pub onemore : List ℕ → ℕ → List ℕ
onemore x p = set x p (get_or x p 0 + 1)

dot-less : (k x : List ℕ) (p : ℕ) → 0 < get_or x p 0 → dot k x ≡ dot k (less x p) + get_or k p 0
unfolding dot
dot-less [] [] p h = omega arith
dot-less [] (a ∷ x) p h = omega arith
dot-less (k ∷ ks) [] p h = absurd (omega arith)
dot-less (k ∷ ks) (zero ∷ x) zero h = absurd (omega arith)
dot-less (k ∷ ks) (suc a ∷ x) zero h = let e : suc a - 1 ≡ a = omega arith in omega (arith, ap (λ (n : ℕ). k * n) e)
dot-less (k ∷ ks) (a ∷ x) (suc p) h = omega (arith, dot-less ks x p h)

total-less : (x : List ℕ) (p : ℕ) → 0 < get_or x p 0 → total x ≡ total (less x p) + 1
unfolding total
total-less [] p h = absurd (omega arith)
total-less (a ∷ x) zero h = omega arith
total-less (a ∷ x) (suc p) h = omega (arith, total-less x p h)

pub dot_more : (k x : List ℕ) (p : ℕ) → p < length x → dot k (onemore x p) ≡ dot k x + get_or k p 0
unfolding dot
dot_more [] x p h = omega arith
dot_more (k ∷ ks) [] p h = absurd (omega arith)
dot_more (k ∷ ks) (a ∷ x) zero h = omega arith
dot_more (k ∷ ks) (a ∷ x) (suc p) h = omega (arith, dot_more ks x p (omega arith))

pub total_more : (x : List ℕ) (p : ℕ) → p < length x → total (onemore x p) ≡ total x + 1
unfolding total
total_more [] p h = absurd (omega arith)
total_more (a ∷ x) zero h = omega arith
total_more (a ∷ x) (suc p) h = omega (arith, total_more x p (omega arith))

-- R t v says that v was reached by at most t steps. Up to T steps it is closed under the steps towards the window lo .. hi (from below it up, from above it down) and misses the window
pub record Closed (up dn : List ℕ) (lo hi T : ℕ) (R : ℕ → ℕ → Type 0) : Type 0 where
  pub room : (p : ℕ) → get_or dn p 0 ≤ hi + 1
  pub rise : (t v p w : ℕ) → t + 1 < T → R t v → v < lo → get_or dn p 0 < get_or up p 0 → w + get_or dn p 0 ≡ v + get_or up p 0 → R (t + 1) w
  pub fall : (t v p w : ℕ) → t + 1 < T → R t v → hi < v → get_or up p 0 < get_or dn p 0 → w + get_or dn p 0 ≡ v + get_or up p 0 → R (t + 1) w
  pub misses : (t v : ℕ) → t < T → R t v → lo ≤ v → v ≤ hi → ⊥

-- one of the count at p spent on a step from v to w
spent : (up dn : List ℕ) (lo hi v w p : ℕ) (x : List ℕ) → 0 < get_or x p 0 → w + get_or dn p 0 ≡ v + get_or up p 0 → Hits up dn lo hi v x → Hits up dn lo hi w (less x p)
spent up dn lo hi v w p x s e h =
    let a = dot-less up x p s in
    let b = dot-less dn x p s in
    record { least = omega (arith, h.least); most = omega (arith, h.most) }

module _ (up dn : List ℕ) (lo hi T : ℕ) (R : ℕ → ℕ → Type 0) (C : Closed up dn lo hi T R) where
  record Turn (t : ℕ) (x : List ℕ) : Type 0 where
    w : ℕ
    y : List ℕ
    one : total x ≡ total y + 1
    got : R (t + 1) w
    hits : Hits up dn lo hi w y

  turn : (t v : ℕ) (x : List ℕ) → t + total x < T → R t v → Hits up dn lo hi v x → Turn t x
  turn t v x b r h = go (dec_lt v lo) (dec_lt hi v)
    where
      go : Dec (v < lo) → Dec (hi < v) → Turn t x
      go (yes l) d =
          let g = gain up dn x (omega (arith, h.least)) in
          let p = g.place in
          let one = total-less x p g.some in
          let w = v + get_or up p 0 - get_or dn p 0 in
          let e : w + get_or dn p 0 ≡ v + get_or up p 0 = omega (arith, g.more) in
          record { w = w; y = less x p; one = one; got = C.rise t v p w (omega arith) r l g.more e; hits = spent up dn lo hi v w p x g.some e h }
      go (no l) (yes d) =
          let g = gain dn up x (omega (arith, h.most)) in
          let p = g.place in
          let one = total-less x p g.some in
          let w = v + get_or up p 0 - get_or dn p 0 in
          let e : w + get_or dn p 0 ≡ v + get_or up p 0 = omega (arith, g.more, C.room p) in
          record { w = w; y = less x p; one = one; got = C.fall t v p w (omega arith) r d g.more e; hits = spent up dn lo hi v w p x g.some e h }
      go (no l) (no d) = absurd (C.misses t v (omega arith) r (omega arith) (omega arith))

  -- by induction on the total that is left
  few : (m t v : ℕ) (x : List ℕ) → total x ≡ m → t + m < T → R t v → Hits up dn lo hi v x → ⊥
  few zero t v x e b r h = let u = turn t v x (omega arith) r h in omega (arith, u.one)
  few (suc m) t v x e b r h =
      let u = turn t v x (omega arith) r h in
      few m (t + 1) u.w u.y (omega (arith, u.one)) (omega arith) u.got u.hits

  -- counts that lead into the window have a total of at least T
  pub at_least : (v : ℕ) (x : List ℕ) → R 0 v → Hits up dn lo hi v x → T ≤ total x
  at_least v x r h = go (dec_lt (total x) T)
    where
      go : Dec (total x < T) → T ≤ total x
      go (yes l) = absurd (few (total x) 0 v x refl (omega arith) r h)
      go (no l) = omega arith
