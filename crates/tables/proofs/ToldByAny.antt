-- `any` over the coefficients tells whether some place has a coefficient of that sign.
use mathlib.Core.Bool.{Bool, true, false}
use mathlib.Core.List.{List}
use mathlib.Core.Path.{refl}
use mathlib.Core.Logic.{◌↔◌}
use Prim.Native.Nat.{ℕ, ◌<◌}
use native.Mathlib.Omega.{arith}
use lib.IntN.{ℤ, pos}
use lib.ListN.{length, get_or}
use Rattle.std.proofs.lemmas.Bool.{false≢true}
use Rattle.std.specs.Prelude.{IsTrue}
use Rattle.std.specs.Bool.{MatchBool}
use Rattle.std.specs.List.{HoldsAt, AllWithin}

pub told_by_any : (P Q : ℤ → Type 0) (r : Bool) (ks : List ℤ) → ((z : ℤ) → P z → Q z → ⊥) → MatchBool r ((p : ℕ) × (p < length ks) × HoldsAt P ks p) (AllWithin Q ks 0 (length ks)) → IsTrue r ↔ ((p : ℕ) × (p < length ks) × P (get_or ks p (pos 0)))
told_by_any P Q true ks apart w = (λ _. (w.0, w.1, w.2 (pos 0)), λ _. refl)
told_by_any P Q false ks apart none = (λ e. absurd (false≢true e), λ w. absurd (apart (get_or ks w.0 (pos 0)) w.2 (none w.0 (pos 0) (omega arith) w.1)))
