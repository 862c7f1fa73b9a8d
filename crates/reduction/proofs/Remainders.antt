-- Every two numbers have a greatest common divisor, by Euclid's rule.
use mathlib.Core.Path.{refl}
use Prim.Native.Nat.{ℕ, zero, suc, ◌%◌, ◌≤◌, ◌<◌}
use native.Mathlib.Nat.{mod-lt, dvd-zero, le_of_dvd, eq-zero_of_zero-dvd}
use native.Mathlib.Omega.{arith}
use Rattle.std.specs.Int.{IsGcd}
use Rattle.std.proofs.lemmas.Nat.Gcd.{IsGcd-from_zero, IsGcd-from_mod}

found : (fuel a b : ℕ) → b < fuel → (g : ℕ) × IsGcd a b g
found zero a b l = absurd (omega arith)
found (suc fuel) a zero l = (a, IsGcd-from_zero a 0 refl)
found (suc fuel) a (suc b) l =
    let r = found fuel (suc b) (a % suc b) (omega (arith, mod-lt a {m = suc b} (omega arith))) in
    (r.0, IsGcd-from_mod a (suc b) r.0 r.1)

pub some_gcd : (a b : ℕ) → (g : ℕ) × IsGcd a b g
some_gcd a b = found (suc b) a b (omega arith)

-- it is no larger than the larger of the two
pub gcd_within : (a b g m : ℕ) → IsGcd a b g → a ≤ m → b ≤ m → g ≤ m
gcd_within zero zero g m h p q = omega (arith, eq-zero_of_zero-dvd (h.2 0 (dvd-zero 0) (dvd-zero 0)))
gcd_within zero (suc b) g m h p q = omega (arith, le_of_dvd (omega arith) h.1)
gcd_within (suc a) b g m h p q = omega (arith, le_of_dvd (omega arith) h.0)
