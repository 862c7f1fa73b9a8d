-- How the state of a search changes: a position is put into the queue, a step leads to a marked one, an entry is done.
use mathlib.Core.Path.{◌≡◌, refl, sym, ap, ◌∙◌}
use mathlib.Core.List.{List, [], ◌∷◌}
use Prim.Native.Nat.{ℕ, zero, suc, ◌+◌, ◌≤◌, ◌<◌}
use native.Mathlib.Decide.{dec_lt, ℕ_discrete}
use native.Mathlib.Numerals.{add-one}
use native.Mathlib.Omega.{arith}
use lib.IntN.{ℤ, pos}
use lib.ListN.{length, get_or, set, length-set, replicate, length-replicate}
use lib.Seq.{get_or-set_same, get_or-set_other}
use Rattle.signed.specs.Parts.{positive_part, negative_part}
use Rattle.spreading.specs.State.{zeros, Step, Next, Listed, Within, From, State, Sizes}

zeros-set : (m : List ℕ) (w a : ℕ) → w < length m → get_or m w 0 ≡ 0 → zeros m ≡ zeros (set m w (a + 1)) + 1
unfolding zeros
zeros-set [] w a l e = absurd (omega arith)
zeros-set (zero ∷ m) zero a l e = rw (add-one a) (omega arith)
zeros-set (suc x ∷ m) zero a l e = absurd (omega arith)
zeros-set (zero ∷ m) (suc w) a l e = omega (arith, zeros-set m w a (omega arith) e)
zeros-set (suc x ∷ m) (suc w) a l e = zeros-set m w a (omega arith) e

-- an entry that is not 0 lies in the list
pub inside : (m : List ℕ) (w : ℕ) → 0 < get_or m w 0 → w < length m
inside [] w h = absurd (omega arith)
inside (x ∷ m) zero h = omega arith
inside (x ∷ m) (suc w) h = omega (arith, inside m w h)

module _ (ks : List ℤ) (m q : List ℕ) (head p tail w : ℕ) (S : State ks m q head p tail) (hd : head < tail) (tl : tail < length q)
    (st : Step ks (get_or q head 0) p w) (wl : w < length m) (un : get_or m w 0 ≡ 0) where
  m' : List ℕ
  m' = set m w (p + 1)

  q' : List ℕ
  q' = set q tail w

  L' : List ℕ
  L' = set S.L tail (get_or S.L head 0 + 1)

  old_q : (i : ℕ) → i < tail → get_or q' i 0 ≡ get_or q i 0
  unfolding q'
  old_q i l = get_or-set_other q tail i w 0 (λ e. omega arith)

  new_q : get_or q' tail 0 ≡ w
  unfolding q'
  new_q = get_or-set_same q tail w 0 tl

  old_L : (i : ℕ) → i < tail → get_or L' i 0 ≡ get_or S.L i 0
  unfolding L'
  old_L i l = get_or-set_other S.L tail i (get_or S.L head 0 + 1) 0 (λ e. omega arith)

  new_L : get_or L' tail 0 ≡ get_or S.L head 0 + 1
  unfolding L'
  new_L = get_or-set_same S.L tail (get_or S.L head 0 + 1) 0 (omega (arith, S.long))

  -- a marked position keeps its mark
  old_m : (v : ℕ) → 0 < get_or m v 0 → get_or m' v 0 ≡ get_or m v 0
  unfolding m'
  old_m v h = get_or-set_other m w v (p + 1) 0 (λ e. omega (arith, ap (λ (k : ℕ). get_or m k 0) e))

  new_m : get_or m' w 0 ≡ p + 1
  unfolding m'
  new_m = get_or-set_same m w (p + 1) 0 wl

  old_mq : (i : ℕ) → i < tail → get_or m' (get_or q' i 0) 0 ≡ get_or m (get_or q i 0) 0
  old_mq i l = ap (λ (k : ℕ). get_or m' k 0) (old_q i l) ∙ old_m (get_or q i 0) (S.marked i l)

  marked' : (i : ℕ) → Dec (i < tail) → i < tail + 1 → 0 < get_or m' (get_or q' i 0) 0
  marked' i (yes l) h = omega (arith, old_mq i l, S.marked i l)
  marked' i (no l) h = let e : i ≡ tail = omega arith in rw (e, new_q, new_m) (omega arith)

  old_entry : (v : ℕ) → Listed q tail v → Listed q' (tail + 1) v
  old_entry v e = record { at = e.at; below = omega (arith, e.below); is = old_q e.at e.below ∙ e.is }

  new_entry : Listed q' (tail + 1) w
  new_entry = record { at = tail; below = omega arith; is = new_q }

  listed' : (v : ℕ) → Dec (v ≡ w) → 0 < get_or m' v 0 → Listed q' (tail + 1) v
  unfolding m'
  listed' v (yes e) h = rw e new_entry
  listed' v (no n) h = old_entry v (S.listed v (omega (arith, get_or-set_other m w v (p + 1) 0 n)))

  from' : p < length ks → (i : ℕ) → Dec (i < tail) → 0 < i → i < tail + 1 → From ks m' q' L' i
  from' pl i (yes l) z h =
      let f = S.from i z l in
      let k : f.at < tail = omega (arith, f.earlier) in
      record {
        at = f.at;
        earlier = f.earlier;
        place = f.place;
        inside = f.inside;
        told = old_mq i l ∙ f.told;
        step = rw (old_q i l, old_q f.at k) f.step;
        deeper = rw (old_L i l, old_L f.at k) f.deeper;
      }
  from' pl i (no l) z h =
      let e : i ≡ tail = omega arith in
      record {
        at = head;
        earlier = omega arith;
        place = p;
        inside = pl;
        told = rw (e, new_q) new_m;
        step = rw (e, new_q, old_q head hd) st;
        deeper = rw (e, new_L, old_L head hd);
      }

  sorted' : (i j : ℕ) → Dec (i < tail) → Dec (j < tail) → i ≤ j → j < tail + 1 → get_or L' i 0 ≤ get_or L' j 0
  sorted' i j (yes a) (yes b) h l = omega (arith, old_L i a, old_L j b, S.sorted i j h b)
  sorted' i j (yes a) (no b) h l = let e : j ≡ tail = omega arith in rw (e, new_L) (omega (arith, old_L i a, S.ahead i hd a))
  sorted' i j (no a) b h l = let e : i ≡ j = omega arith in rw e (omega arith)

  ahead' : (j : ℕ) → Dec (j < tail) → j < tail + 1 → get_or L' j 0 ≤ get_or L' head 0 + 1
  ahead' j (yes b) l = omega (arith, old_L j b, old_L head hd, S.ahead j hd b)
  ahead' j (no b) l = let e : j ≡ tail = omega arith in rw (e, new_L, old_L head hd) (omega arith)

  old_within : (t v : ℕ) → Within q S.L tail t v → Within q' L' (tail + 1) t v
  unfolding old_entry
  old_within t v e =
      record { entry = old_entry v e.entry; level = omega (arith, e.level, old_L e.entry.at e.entry.below) }

  done' : (i k v : ℕ) → i < head → k < length ks → Step ks (get_or q' i 0) k v → v < length m → Within q' L' (tail + 1) (get_or L' i 0 + 1) v
  done' i k v h kl s l =
      let il : i < tail = omega arith in
      rw (old_L i il) (old_within (get_or S.L i 0 + 1) v (S.done i k v h kl (rw (old_q i il) at s) l))

  doing' : (k v : ℕ) → Dec (k < p) → k < p + 1 → Step ks (get_or q' head 0) k v → v < length m → Within q' L' (tail + 1) (get_or L' head 0 + 1) v
  unfolding new_entry
  doing' k v (yes a) h s l = rw (old_L head hd) (old_within (get_or S.L head 0 + 1) v (S.doing k v a (rw (old_q head hd) at s) l))
  doing' k v (no a) h s l =
      let e : k ≡ p = omega arith in
      let s' : Step ks (get_or q head 0) p v = rw (e, old_q head hd) at s in
      let b : v ≡ w = omega arith in
      rw (old_L head hd, b) (record { entry = new_entry; level = omega (arith, new_L) })

  pub push : p < length ks → State ks (set m w (p + 1)) (set q tail w) head (p + 1) (tail + 1)
  unfolding m' q' L'
  push pl =
      record {
        L = L';
        long = simp length-set S.long;
        count = simp length-set (omega (arith, S.count, zeros-set m w p wl un));
        first = old_L 0 (omega arith) ∙ S.first;
        marked = λ i l. marked' i (dec_lt i tail) l;
        listed = λ v h. listed' v (ℕ_discrete v w) h;
        from = λ i z l. from' pl i (dec_lt i tail) z l;
        sorted = λ i j h l. sorted' i j (dec_lt i tail) (dec_lt j tail) h l;
        ahead = λ j h l. ahead' j (dec_lt j tail) l;
        done = λ i k v h kl s l. done' i k v h kl s (simp length-set at l);
        doing = λ k v h s l. doing' k v (dec_lt k p) h s (simp length-set at l);
      }

-- the step of place p leads to a marked position, or out of the table
pub skip : (ks : List ℤ) (m q : List ℕ) (head p tail : ℕ) → State ks m q head p tail → head < tail → ((w : ℕ) → Step ks (get_or q head 0) p w → w < length m → 0 < get_or m w 0) → State ks m q head (p + 1) tail
skip ks m q head p tail S hd f =
    record {
      L = S.L;
      long = S.long;
      count = S.count;
      first = S.first;
      marked = S.marked;
      listed = S.listed;
      from = S.from;
      sorted = S.sorted;
      ahead = S.ahead;
      done = S.done;
      doing = λ k v h s l. go k v (dec_lt k p) h s l;
    }
  where
    go : (k v : ℕ) → Dec (k < p) → k < p + 1 → Step ks (get_or q head 0) k v → v < length m → Within q S.L tail (get_or S.L head 0 + 1) v
    go k v (yes a) h s l = S.doing k v a s l
    go k v (no a) h s l =
        let e : k ≡ p = omega arith in
        let b = S.listed v (f v (rw e at s) l) in
        record { entry = b; level = S.ahead b.at hd b.below }

-- every place is done at entry head
pub turned : (ks : List ℤ) (m q : List ℕ) (head p tail : ℕ) → State ks m q head p tail → head < tail → length ks ≤ p → State ks m q (head + 1) 0 tail
turned ks m q head p tail S hd all =
    record {
      L = S.L;
      long = S.long;
      count = S.count;
      first = S.first;
      marked = S.marked;
      listed = S.listed;
      from = S.from;
      sorted = S.sorted;
      ahead = λ j h l. omega (arith, S.ahead j hd l, S.sorted head (head + 1) (omega arith) h);
      done = λ i k v h kl s l. go i k v (dec_lt i head) h kl s l;
      doing = λ k v h s l. absurd (omega arith);
    }
  where
    go : (i k v : ℕ) → Dec (i < head) → i < head + 1 → k < length ks → Step ks (get_or q i 0) k v → v < length m → Within q S.L tail (get_or S.L i 0 + 1) v
    go i k v (yes a) h kl s l = S.done i k v a kl s l
    go i k v (no a) h kl s l =
        let e : i ≡ head = omega arith in
        rw e (S.doing k v (omega arith) (rw e at s) l)

-- what the loop of `expand` keeps: entry `head` is expanded by the places below p, and the queue, whose first `tail` entries are as they were, ends at r
pub record Expanding (ks : List ℤ) (mark queue queue₀ : List ℕ) (head tail p r : ℕ) : Type 0 where
  pub sizes : Sizes ks mark queue
  pub grows : tail ≤ r
  pub kept : (i : ℕ) → i < tail → get_or queue i 0 ≡ get_or queue₀ i 0
  pub state : State ks mark queue head p r

-- the step of place p from entry `head`, whose position is v
module _ (ks : List ℤ) (m q q₀ : List ℕ) (head tail p r v : ℕ) (hd : head < tail) (pl : p < length ks) (ev : v ≡ get_or q₀ head 0) (E : Expanding ks m q q₀ head tail p r) where
  here_now : v ≡ get_or q head 0
  here_now = ev ∙ sym (E.kept head hd)

  early : head < r
  early = omega (arith, E.grows)

  pub standing : 0 < get_or m v 0
  standing = rw here_now (E.state.marked head early)

  pub seat : v < length m
  seat = inside m v standing

  module _ (k : ℤ) (same : k ≡ get_or ks p (pos 0)) (w : ℕ) (led : Next v (positive_part k) (negative_part k) (length m) w) where
    X : Next v (positive_part (get_or ks p (pos 0))) (negative_part (get_or ks p (pos 0))) (length m) w
    X = rw same at led

    pub place_left : get_or m w 0 ≡ 0 → r < length q
    place_left e = omega (arith, zeros-set m w 0 X.inside e, E.state.count, E.sizes.room)

    pub fresh : get_or m w 0 ≡ 0 → Expanding ks (set m w (p + 1)) (set q r w) q₀ head tail (p + 1) (r + 1)
    fresh e =
        let mv : w + negative_part (get_or ks p (pos 0)) ≡ v + positive_part (get_or ks p (pos 0)) = X.moved (λ s. omega (arith, standing, ap (λ (k : ℕ). get_or m k 0) s)) in
        let z = E.sizes in
        record {
          sizes = record { few = z.few; room = simp length-set z.room; narrow = simp length-set z.narrow };
          grows = omega (arith, E.grows);
          kept = λ i l. get_or-set_other q r i w 0 (λ s. omega (arith, E.grows)) ∙ E.kept i l;
          state = push ks m q head p r w E.state early (place_left e) (omega (arith, here_now)) X.inside e pl;
        }

    pub stale : (get_or m w 0 ≡ 0 → ⊥) → Expanding ks m q q₀ head tail (p + 1) r
    stale n =
        record {
          sizes = E.sizes;
          grows = E.grows;
          kept = E.kept;
          state = skip ks m q head p r E.state early (λ x s l. let e : x ≡ w = X.exact x (omega (arith, here_now)) l in rw e (omega arith));
        }

zeros_all : (n : ℕ) → zeros (replicate n 0) ≡ n
unfolding zeros
zeros_all zero = refl
zeros_all (suc n) = ap suc (zeros_all n)

pub get_or-zeros : (n i : ℕ) → ◌≡◌ {A = ℕ} (get_or (replicate n 0) i 0) 0
get_or-zeros zero i = refl
get_or-zeros (suc n) zero = refl
get_or-zeros (suc n) (suc i) = get_or-zeros n i

-- the start alone
module _ (ks : List ℤ) (m q : List ℕ) (s : ℕ) (sl : s < length m) (qm : length m ≤ length q) (z : m ≡ replicate (length m) 0) where
  m₁ : List ℕ
  m₁ = set m s 255

  q₁ : List ℕ
  q₁ = set q 0 s

  blank : (v : ℕ) → get_or m v 0 ≡ 0
  blank v = ap (λ (l : List ℕ). get_or l v 0) z ∙ get_or-zeros (length m) v

  here : get_or q₁ 0 0 ≡ s
  unfolding q₁
  here = get_or-set_same q 0 s 0 (omega arith)

  marked₁ : get_or m₁ s 0 ≡ 255
  unfolding m₁
  marked₁ = get_or-set_same m s 255 0 sl

  listed₁ : (v : ℕ) → Dec (v ≡ s) → 0 < get_or m₁ v 0 → Listed q₁ 1 v
  unfolding m₁
  listed₁ v (yes e) h = record { at = 0; below = omega arith; is = here ∙ sym e }
  listed₁ v (no n) h = absurd (omega (arith, get_or-set_other m s v 255 0 n, blank v))

  pub begun : State ks (set m s 255) (set q 0 s) 0 0 1
  unfolding m₁ q₁
  begun =
      record {
        L = replicate (length q) 0;
        long = length-replicate (length q) 0 ∙ sym (length-set q 0 s);
        count = simp length-set (omega (arith, zeros-set m s 254 sl (blank s), ap zeros z, zeros_all (length m)));
        first = get_or-zeros (length q) 0;
        marked = λ i l. let e : i ≡ 0 = omega arith in rw (e, here, marked₁) (omega arith);
        listed = λ v h. listed₁ v (ℕ_discrete v s) h;
        from = λ i z l. absurd (omega arith);
        sorted = λ i j h l. omega (arith, get_or-zeros (length q) i);
        ahead = λ j h l. omega (arith, get_or-zeros (length q) j);
        done = λ i k v h kl s l. absurd (omega arith);
        doing = λ k v h s l. absurd (omega arith);
      }
