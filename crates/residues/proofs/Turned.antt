-- Coefficients of one sign: a vector's value is a sum of the sizes with that sign, and each such sum is some vector's value.
use mathlib.Core.Path.{◌≡◌, refl, sym, ap, ◌∙◌}
use mathlib.Core.Bool.{Bool, true, false}
use mathlib.Core.List.{List, [], ◌∷◌}
use Prim.Native.Nat.{ℕ, zero, suc, ◌+◌, ◌*◌}
use native.Mathlib.Omega.{arith}
use lib.IntN.{ℤ, pos, negsuc, nat_abs, neg_ℤ, ◌+ℤ◌, ◌*ℤ◌}
use lib.ListN.{length}
use Rattle.signed.specs.Linear.{linear}
use Rattle.nets.specs.HalfSpaces.{value}
use Rattle.nets.specs.Verdicts.{SomeAbove, SomeBelow}
use Rattle.remainders.specs.Sums.{sizes, Reached}

-- v with a sign
abbrev pub turn : Bool → ℕ → ℤ
turn true v = pos v
turn false v = neg_ℤ (pos v)

unfoldable pub AllTurned : Bool → List ℤ → Type 0
AllTurned s [] = Unit {0}
AllTurned s (k ∷ ks) = (k ≡ turn s (nat_abs k)) × AllTurned s ks

behind_above : (k : ℤ) (ks : List ℤ) → SomeAbove ks → SomeAbove (k ∷ ks)
unfolding SomeAbove
behind_above k ks w = (suc w.0, omega (arith, w.1), w.2)

behind_below : (k : ℤ) (ks : List ℤ) → SomeBelow ks → SomeBelow (k ∷ ks)
unfolding SomeBelow
behind_below k ks w = (suc w.0, omega (arith, w.1), w.2)

pub none_below : (ks : List ℤ) → (SomeBelow ks → ⊥) → AllTurned true ks
unfolding SomeBelow AllTurned
none_below [] f = tt
none_below (pos n ∷ ks) f = (refl, none_below ks (λ w. f (behind_below (pos n) ks w)))
none_below (negsuc n ∷ ks) f = absurd (f (0, omega arith, record { lt = tt }))

pub none_above : (ks : List ℤ) → (SomeAbove ks → ⊥) → AllTurned false ks
unfolding SomeAbove AllTurned
none_above [] f = tt
none_above (pos zero ∷ ks) f = (refl, none_above ks (λ w. f (behind_above (pos zero) ks w)))
none_above (pos (suc n) ∷ ks) f = absurd (f (0, omega arith, simp linear (omega arith)))
none_above (negsuc n ∷ ks) f = (refl, none_above ks (λ w. f (behind_above (negsuc n) ks w)))

turn_sum : (s : Bool) (a x v : ℕ) → (turn s a *ℤ pos x) +ℤ turn s v ≡ turn s (a * x + v)
turn_sum true a x v = simp linear (omega arith)
turn_sum false a x v = simp linear (omega arith)

-- the value of a vector
pub record Sum (s : Bool) (ks : List ℤ) (x : List ℕ) : Type 0 where
  pub of : ℕ
  pub reached : Reached (sizes ks) of
  pub is : value ks x ≡ turn s of

head_is : (s : Bool) (k : ℤ) (x : ℕ) (w : ℤ) (v : ℕ) → k ≡ turn s (nat_abs k) → w ≡ turn s v → (k *ℤ pos x) +ℤ w ≡ turn s (nat_abs k * x + v)
head_is s k x w v e f = ap (λ (z : ℤ). (z *ℤ pos x) +ℤ w) e ∙ ap (λ (z : ℤ). (turn s (nat_abs k) *ℤ pos x) +ℤ z) f ∙ turn_sum s (nat_abs k) x v

pub sum_of : (s : Bool) (ks : List ℤ) (x : List ℕ) → AllTurned s ks → length x ≡ length ks → Sum s ks x
unfolding AllTurned Reached value
sum_of true [] x t e = record { of = 0; reached = refl; is = refl }
sum_of false [] x t e = record { of = 0; reached = refl; is = refl }
sum_of s (k ∷ ks) [] t e = absurd (omega arith)
sum_of s (k ∷ ks) (x ∷ xs) t e =
    let r = sum_of s ks xs t.1 (omega arith) in
    record { of = nat_abs k * x + r.of; reached = (x, r.of, r.reached, refl); is = head_is s k x (value ks xs) r.of t.0 r.is }

-- a vector of a value
pub record Vector (s : Bool) (ks : List ℤ) (v : ℕ) : Type 0 where
  pub x : List ℕ
  pub places : length x ≡ length ks
  pub is : value ks x ≡ turn s v

pub vector_of : (s : Bool) (ks : List ℤ) (v : ℕ) → AllTurned s ks → Reached (sizes ks) v → Vector s ks v
unfolding AllTurned Reached value
vector_of true [] v t e = record { x = []; places = refl; is = ap pos (sym e) }
vector_of false [] v t e = record { x = []; places = refl; is = ap (λ (w : ℕ). neg_ℤ (pos w)) (sym e) }
vector_of s (k ∷ ks) v t (x, w, r, e) =
    let y = vector_of s ks w t.1 r in
    record { x = x ∷ y.x; places = ap suc y.places; is = head_is s k x (value ks y.x) w t.0 y.is ∙ ap (turn s) (sym e) }
