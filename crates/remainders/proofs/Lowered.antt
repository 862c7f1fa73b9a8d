-- One turn of a chain: k more from entry `at` lowers the entry that it leads to, whose own step alone may be open then.
use mathlib.Core.Path.{◌≡◌, sym, ap, ◌∙◌}
use mathlib.Core.List.{List, ◌∷◌}
use Prim.Native.Nat.{ℕ, ◌+◌, ◌%◌, ◌≤◌, ◌<◌}
use native.Mathlib.Nat.{mod-lt, mod-add-mod}
use native.Mathlib.Decide.{ℕ_discrete}
use native.Mathlib.Omega.{arith}
use lib.ListN.{length, get_or, set, length-set}
use lib.Seq.{get_or-set_same, get_or-set_other}
use Rattle.remainders.specs.Steps.{Over, far, Sound, Closed, Swept}
use Rattle.remainders.proofs.Grown.{over_more}

-- the chain stands at an entry, and k more from it is v, at `next`
pub record Going (a k start : ℕ) (T₀ T : List ℕ) (v next : ℕ) : Type 0 where
  pub long : length T ≡ a
  pub at : ℕ
  pub inside : at < a
  pub is : v ≡ get_or T at 0 + k
  pub leads : next ≡ (at + k) % a
  pub below : (r : ℕ) → get_or T r 0 ≤ get_or T₀ r 0
  pub sound : (ss : List ℕ) → Sound a (k ∷ ss) T₀ → Sound a (k ∷ ss) T
  pub closed : (c : ℕ) → c < start + 1 → (c ≡ at → ⊥) → Closed a k T c

pub begun : (a k start : ℕ) (T : List ℕ) (v next : ℕ) → length T ≡ a → start < a → v ≡ get_or T start 0 + k → next ≡ (start + k) % a → ((c : ℕ) → c < start → Closed a k T c) → Going a k start T T v next
begun a k start T v next long l e f closed =
    record { long = long; at = start; inside = l; is = e; leads = f; below = λ r. omega arith; sound = λ ss S. S; closed = λ c b n. closed c (omega arith) }

module _ (a k start : ℕ) (T₀ T : List ℕ) (v next : ℕ) (some : 0 < a) (g : Going a k start T₀ T v next) where
  pub next_inside : next < a
  next_inside = rw g.leads (mod-lt (g.at + k) some)

  module _ (lowers : v < get_or T next 0) where
    T' : List ℕ
    T' = set T next v

    here : get_or T' next 0 ≡ v
    unfolding T'
    here = get_or-set_same T next v 0 (omega (arith, next_inside, g.long))

    others : (r : ℕ) → (r ≡ next → ⊥) → get_or T' r 0 ≡ get_or T r 0
    unfolding T'
    others r n = get_or-set_other T next r v 0 n

    below' : (r : ℕ) → Dec (r ≡ next) → get_or T' r 0 ≤ get_or T r 0
    below' r (yes e) = rw e (omega (arith, here))
    below' r (no n) = omega (arith, others r n)

    sound' : (ss : List ℕ) → Sound a (k ∷ ss) T → (r : ℕ) → Dec (r ≡ next) → r < a → get_or T' r 0 < far → (get_or T' r 0 % a ≡ r) × Over a (k ∷ ss) (get_or T' r 0)
    unfolding Sound
    sound' ss S r (no n) l f = rw (others r n) (S r l (omega (arith, others r n)))
    sound' ss S r (yes e) l f =
        let s = S g.at g.inside (omega (arith, g.is, here, ap (λ (i : ℕ). get_or T' i 0) e)) in
        let w : ℕ = get_or T g.at 0 in
        let m : (w + k) % a ≡ next = sym (mod-add-mod w a k) ∙ ap (λ (u : ℕ). (u + k) % a) s.0 ∙ sym g.leads in
        rw (e, here, g.is) (m, over_more a k ss w s.1)

    closed' : (c : ℕ) → Dec (c ≡ g.at) → c < start + 1 → (c ≡ next → ⊥) → Closed a k T' c
    unfolding Closed
    closed' c (yes e) l n =
        let i = ap (λ (r : ℕ). get_or T' ((r + k) % a) 0) e ∙ ap (λ (r : ℕ). get_or T' r 0) (sym g.leads) in
        omega (arith, here, g.is, others c n, ap (λ (r : ℕ). get_or T r 0) e)
    closed' c (no m) l n = omega (arith, others c n, below' ((c + k) % a) (ℕ_discrete ((c + k) % a) next), g.closed c l m)

    pub goes_on : (w then : ℕ) → w ≡ v + k → then ≡ (next + k) % a → Going a k start T₀ (set T next v) w then
    unfolding T' Sound
    goes_on w then e f =
        record {
          long = length-set T next v ∙ g.long;
          at = next;
          inside = next_inside;
          is = omega (arith, here);
          leads = f;
          below = λ r. omega (arith, below' r (ℕ_discrete r next), g.below r);
          sound = λ ss S r l. sound' ss (g.sound ss S) r (ℕ_discrete r next) l;
          closed = λ c l n. closed' c (ℕ_discrete c g.at) l n;
        }

  -- the chain stops: the step of its entry is closed too
  pub stops : get_or T next 0 ≤ v → Swept a k (start + 1) T₀ T
  unfolding Closed
  stops h = record { below = g.below; sound = g.sound; closed = λ c l. last c l (ℕ_discrete c g.at) }
    where
      last : (c : ℕ) → c < start + 1 → Dec (c ≡ g.at) → get_or T ((c + k) % a) 0 ≤ get_or T c 0 + k
      last c l (no n) = g.closed c l n
      last c l (yes e) =
          let i = ap (λ (r : ℕ). get_or T ((r + k) % a) 0) e ∙ ap (λ (r : ℕ). get_or T r 0) (sym g.leads) in
          omega (arith, g.is, ap (λ (r : ℕ). get_or T r 0) e)
