-- The least of the sizes that pass the test for 0 is the smallest of those that are not 0.
use mathlib.Core.Path.{◌≡◌, refl, sym, ap, subst}
use mathlib.Core.Bool.{Bool, cond}
use mathlib.Core.Logic.{◌⊎◌, inl, inr, ⊎_elim}
use mathlib.Core.List.{List, [], ◌∷◌}
use Prim.Native.Nat.{ℕ, zero, suc, min, ◌≤◌, ◌<◌}
use native.Mathlib.Omega.{arith}
use borrow.Author.Tests.{lt-ltb}
use lib.Dec.{ltb}
use lib.ListN.{get_or}
use Rattle.std.specs.Prelude.{Some, None}
use Rattle.std.specs.List.{fold, filter, reduce}
use Rattle.remainders.specs.Sums.{Within}
use Rattle.tables.specs.Smallest.{NotAll0, Smallest}

-- r is the least of a and of the numbers that are not 0
record Least (a : ℕ) (ss : List ℕ) (r : ℕ) : Type 0 where
  one : (r ≡ a) ⊎ ((p : ℕ) × (get_or ss p 0 ≡ r))
  some : 0 < a → 0 < r
  first : r ≤ a
  others : (p : ℕ) → 0 < get_or ss p 0 → r ≤ get_or ss p 0

-- a number that is not 0 passes the test
kept : (s : ℕ) (ss : List ℕ) → filter (ltb 0) (suc s ∷ ss) ≡ suc s ∷ filter (ltb 0) ss
kept s ss = ap (λ (b : Bool). cond b (suc s ∷ filter (ltb 0) ss) (filter (ltb 0) ss)) (lt-ltb 0 (suc s) (omega arith))

least_of : (a : ℕ) (ss : List ℕ) → Least a ss (fold min a (filter (ltb 0) ss))
least_of a [] = record { one = inl refl; some = λ l. l; first = omega arith; others = λ p l. absurd (omega arith) }
least_of a (zero ∷ ss) =
    let x = least_of a ss in
    record { one = ⊎_elim inl (λ w. inr (suc w.0, w.1)) x.one; some = x.some; first = x.first; others = others x }
  where
    others : {r : ℕ} → Least a ss r → (p : ℕ) → 0 < get_or (zero ∷ ss) p 0 → r ≤ get_or (zero ∷ ss) p 0
    others x zero l = absurd (omega arith)
    others x (suc p) l = x.others p l
least_of a (suc s ∷ ss) =
    let x = least_of (min a (suc s)) ss in
    rw (kept s ss) record { one = ⊎_elim (here a s) (λ w. inr (suc w.0, w.1)) x.one; some = λ l. x.some (omega arith); first = omega (arith, x.first); others = others x }
  where
    here : (a s : ℕ) {r : ℕ} → r ≡ min a (suc s) → (r ≡ a) ⊎ ((p : ℕ) × (get_or (suc s ∷ ss) p 0 ≡ r))
    here a s {r} e = grind arith

    others : {r : ℕ} → Least (min a (suc s)) ss r → (p : ℕ) → 0 < get_or (suc s ∷ ss) p 0 → r ≤ get_or (suc s ∷ ss) p 0
    others x zero l = omega (arith, x.first)
    others x (suc p) l = x.others p l

pub smallest_is : (ss : List ℕ) (r : ℕ) → Within ss → Some r ≡ reduce min (filter (ltb 0) ss) → Smallest ss r
unfolding Within
smallest_is [] r small e = absurd (no_way e)
  where
    no_way : Some r ≡ None → ⊥
    no_way e = cc
smallest_is (zero ∷ ss) r small e =
    let x = smallest_is ss r (λ p. small (suc p)) e in
    record { place = suc x.place; is = x.is; some = x.some; short = x.short; least = least x }
  where
    least : Smallest ss r → (p : ℕ) → 0 < get_or (zero ∷ ss) p 0 → r ≤ get_or (zero ∷ ss) p 0
    least x zero l = absurd (omega arith)
    least x (suc p) l = x.least p l
smallest_is (suc s ∷ ss) r small e = of (subst (Least (suc s) ss) (sym (same (rw (kept s ss) at e))) (least_of (suc s) ss))
  where
    same : Some r ≡ Some (fold min (suc s) (filter (ltb 0) ss)) → r ≡ fold min (suc s) (filter (ltb 0) ss)
    same e = cc

    of : Least (suc s) ss r → Smallest (suc s ∷ ss) r
    of x = record { place = (there x.one).0; is = (there x.one).1; some = x.some (omega arith); short = omega (arith, x.first, small 0); least = least x }
      where
        there : (r ≡ suc s) ⊎ ((p : ℕ) × (get_or ss p 0 ≡ r)) → (p : ℕ) × (get_or (suc s ∷ ss) p 0 ≡ r)
        there (inl e) = (0, sym e)
        there (inr w) = (suc w.0, w.1)

        least : Least (suc s) ss r → (p : ℕ) → 0 < get_or (suc s ∷ ss) p 0 → r ≤ get_or (suc s ∷ ss) p 0
        least x zero l = x.first
        least x (suc p) l = x.others p l

-- where not all are 0, there is one
pub some_smallest : (ss : List ℕ) → NotAll0 ss → None ≡ reduce min (filter (ltb 0) ss) → ⊥
unfolding NotAll0
some_smallest [] n e = omega (arith, n.1)
some_smallest (zero ∷ ss) (zero, l) e = omega arith
some_smallest (zero ∷ ss) (suc p, l) e = some_smallest ss (p, l) e
some_smallest (suc s ∷ ss) n e = no_way (rw (kept s ss) at e)
  where
    no_way : None ≡ Some (fold min (suc s) (filter (ltb 0) ss)) → ⊥
    no_way e = cc
