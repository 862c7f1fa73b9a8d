-- Where a test of a refusal is passed, it held; and where both areas fit, each is long enough.
use Rattle.std.specs.Prelude.{Err, Ok}
use mathlib.Core.Path.{◌≡◌, refl, sym}
use mathlib.Core.Bool.{Bool, true, false, cond}
use Prim.Native.Nat.{ℕ, ◌≤◌}
use native.Mathlib.Omega.{arith}
use lib.Dec.{leb}
use borrow.Author.Tests.{leb-true}
use Rattle.terms.specs.Limits.{areas_fit}
use Rattle.refusals.specs.declared.Refusal.{Refusal}
use Rattle.format.specs.Read.{choose}
use Rattle.refusals.specs.Refusals.{Check}

pub held_so : (b : Bool) (x : Check) (r : Refusal) → choose b x (Err r) ≡ (Ok tt) → (b ≡ true) × (x ≡ (Ok tt))
held_so true x r e = (refl, e)
held_so false x r e = absurd (let z : ◌≡◌ {A = ℕ} 0 1 = cc in omega arith)

pub both_fit : (marks queue : ℕ) → areas_fit marks queue ≡ true → (20000 ≤ marks) × (20000 ≤ queue)
both_fit marks queue e = by (leb 20000 marks) refl e
  where
    by : (b : Bool) → b ≡ leb 20000 marks → cond b (leb 20000 queue) false ≡ true → (20000 ≤ marks) × (20000 ≤ queue)
    by true f g = (leb-true 20000 marks (sym f), leb-true 20000 queue g)
    by false f g = absurd (let z : ◌≡◌ {A = ℕ} 0 1 = cc in omega arith)
