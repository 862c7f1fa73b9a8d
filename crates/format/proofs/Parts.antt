-- A reading is sound exactly if each of its parts is: the two cases of the first part show it.
use Rattle.std.specs.Prelude.{Err, Ok}
use mathlib.Core.Path.{◌≡◌, refl, ap, ◌∙◌}
use mathlib.Core.Logic.{◌↔◌, ◌⊎◌, inl, inr}
use mathlib.Core.Bool.{Bool, true, false}
use Prim.Native.Nat.{ℕ, ◌≤◌, ◌<◌}
use native.Mathlib.Omega.{arith}
use lib.Dec.{leb, ltb, eqb}
use borrow.Author.Tests.{ltb-true, leb-true, eqb-true, lt-ltb, le-leb, eq-eqb}
use Rattle.refusals.specs.declared.Refusal.{Refusal}
use Rattle.format.specs.Read.{Read, ◌>>=◌, ◌>>◌, need, choose}

pub never_both : {A : Type 0} (r : Refusal) (a : A) → Err r ≡ Ok a → ⊥
never_both r a e = let z : ◌≡◌ {A = ℕ} 0 1 = cc in omega arith

pub sound_same : {A : Type 0} {a b : A} → ◌≡◌ {A = Read A} (Ok a) (Ok b) → a ≡ b
sound_same e = cc

pub bind_exactly : {A B : Type 0} (x : Read A) (next : A → Read B) (b : B) → ((x >>= next) ≡ Ok b) ↔ ((a : A) × (x ≡ Ok a) × (next a ≡ Ok b))
bind_exactly (Ok a) next b = (λ e. (a, refl, e), λ w. ap next (sound_same w.1) ∙ w.2)
bind_exactly (Err r) next b = (λ e. absurd (never_both r b e), λ w. absurd (never_both r w.0 w.1))

pub then_exactly : {B : Type 0} (x : Read (Unit {0})) (next : Read B) (b : B) → ((x >> next) ≡ Ok b) ↔ ((x ≡ Ok tt) × (next ≡ Ok b))
then_exactly (Ok a) next b = (λ e. (refl, e), λ w. w.1)
then_exactly (Err r) next b = (λ e. absurd (never_both r b e), λ w. absurd (never_both r tt w.0))

-- the same, whatever the first part holds
pub then_first : {A B : Type 0} (x : Read A) (next : Read B) (b : B) → (x >> next) ≡ Ok b → (a : A) × (x ≡ Ok a)
then_first (Ok a) next b e = (a, refl)
then_first (Err r) next b e = absurd (never_both r b e)

pub need_exactly : (t : Bool) (r : Refusal) → (need t r ≡ Ok tt) ↔ (t ≡ true)
need_exactly true r = (λ e. refl, λ e. refl)
need_exactly false r = (λ e. absurd (never_both _ tt e), λ e. absurd (let z : ◌≡◌ {A = ℕ} 0 1 = cc in omega arith))

pub choose_either : {A : Type 0} (t : Bool) (x y : Read A) (b : A) → choose t x y ≡ Ok b → ((t ≡ true) × (x ≡ Ok b)) ⊎ ((t ≡ false) × (y ≡ Ok b))
choose_either true x y b e = inl (refl, e)
choose_either false x y b e = inr (refl, e)

-- the tests
pub leb_exactly : (a b : ℕ) → (leb a b ≡ true) ↔ (a ≤ b)
leb_exactly a b = (leb-true a b, le-leb a b)

pub ltb_exactly : (a b : ℕ) → (ltb a b ≡ true) ↔ (a < b)
ltb_exactly a b = (ltb-true a b, lt-ltb a b)

pub eqb_exactly : (a b : ℕ) → (eqb a b ≡ true) ↔ (a ≡ b)
eqb_exactly a b = (eqb-true a b, eq-eqb a b)

pub ruleset parts = (bind_exactly, then_exactly, need_exactly)

pub ruleset tests = (leb_exactly, ltb_exactly, eqb_exactly)
