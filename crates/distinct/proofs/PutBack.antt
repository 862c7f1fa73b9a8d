-- Counts put back at their places one by one: what was put back and what is still to be put back add up.
use mathlib.Core.Path.{◌≡◌, refl, ap}
use mathlib.Core.Logic.{◌⊎◌, inl, inr}
use mathlib.Core.List.{List, [], ◌∷◌, map}
use Prim.Native.Nat.{ℕ, zero, suc, ◌+◌, ◌*◌, ◌≤◌, ◌<◌}
use native.Mathlib.Omega.{arith}
use lib.ListN.{length, get_or, set, replicate, length-set}
use Rattle.sums.specs.Sum.{total, dot}
use Rattle.sums.proofs.Sums.{part, dot_zeros, total_zeros}
use Rattle.distinct.specs.Row.{Inside, Spread}

-- the counts with a more at a place
abbrev pub more : List ℕ → ℕ → ℕ → List ℕ
more x p a = set x p (get_or x p 0 + a)

pub dot_plus : (f x : List ℕ) (p a : ℕ) → p < length x → dot f (more x p a) ≡ dot f x + get_or f p 0 * a
unfolding dot
dot_plus [] x p a h = omega arith
dot_plus (k ∷ f) [] p a h = absurd (omega arith)
dot_plus (k ∷ f) (b ∷ x) zero a h = omega arith
dot_plus (k ∷ f) (b ∷ x) (suc p) a h = omega (arith, dot_plus f x p a (omega arith))

pub total_plus : (x : List ℕ) (p a : ℕ) → p < length x → total (more x p a) ≡ total x + a
unfolding total
total_plus [] p a h = absurd (omega arith)
total_plus (b ∷ x) zero a h = omega arith
total_plus (b ∷ x) (suc p) a h = omega (arith, total_plus x p a (omega arith))

dot_none : (f : List ℕ) → dot f [] ≡ 0
unfolding dot
dot_none [] = refl
dot_none (k ∷ f) = refl

total_none : total [] ≡ 0
unfolding total
total_none = refl

-- the values of f at the places
abbrev pub at : List ℕ → List ℕ → List ℕ
at f ps = map (λ (p : ℕ). get_or f p 0) ps

-- the counts y' are still to be put back, at the places ps'
pub record Rest (ps y x ps' y' : List ℕ) : Type 0 where
  pub places : length ps' ≡ length y'
  pub inside : Inside ps' (length x)
  pub sums : (f : List ℕ) → dot f x + dot (at f ps') y' ≡ dot (at f ps) y
  pub amount : total x + total y' ≡ total y

pub rest_start : (ps y x ps' y' : List ℕ) → ps' ≡ ps → y' ≡ y → length ps ≡ length y → Inside ps (length x) → x ≡ replicate (length x) 0 → Rest ps y x ps' y'
rest_start ps y x ps' y' s t l i e =
    rw (s, t)
    record {
      places = l;
      inside = i;
      sums = λ f. omega (arith, ap (dot f) e, dot_zeros f (length x));
      amount = omega (arith, ap total e, total_zeros (length x));
    }

-- the next count, a, goes to place p
module _ (ps y x qs zs ps' y' : List ℕ) (q p a : ℕ) (s : qs ≡ q ∷ ps') (t : zs ≡ a ∷ y') (e : p ≡ q) (o : Rest ps y x qs zs) where
  r : Rest ps y x (p ∷ ps') (a ∷ y')
  r = rw e (rw (s, t) at o)

  pub there : p < length x
  there = r.inside 0 (omega arith)

  pub rest_step : Rest ps y (more x p a) ps' y'
  unfolding dot total
  rest_step =
      record {
        places = omega (arith, r.places);
        inside = λ i l. rw (length-set x p (get_or x p 0 + a)) (r.inside (suc i) (omega arith));
        sums = λ f. omega (arith, dot_plus f x p a there, r.sums f);
        amount = omega (arith, total_plus x p a there, r.amount);
      }

  -- no more than the total is at any place, with what is to come
  pub rest_room : get_or x p 0 + a ≤ total y
  unfolding total
  rest_room = omega (arith, r.amount, part x p)

pub rest_end : (ps y x ps' y' : List ℕ) → (length ps' ≡ 0) ⊎ (length y' ≡ 0) → Rest ps y x ps' y' → Spread ps y x
rest_end ps y x [] [] h r = record { sums = λ f. omega (arith, r.sums f, dot_none []); amount = omega (arith, r.amount, total_none) }
rest_end ps y x [] (a ∷ y') h r = absurd (omega (arith, r.places))
rest_end ps y x (p ∷ ps') [] h r = absurd (omega (arith, r.places))
rest_end ps y x (p ∷ ps') (a ∷ y') (inl e) r = absurd (omega arith)
rest_end ps y x (p ∷ ps') (a ∷ y') (inr e) r = absurd (omega arith)
