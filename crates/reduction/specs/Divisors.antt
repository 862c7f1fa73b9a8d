-- Greatest common divisors of a row of signed numbers, and of a claim.
use Rattle.std.specs.Prelude.{◌≡◌, ◌⊎◌, List, ℕ, ℤ, take}
use Rattle.std.specs.Int.{◌∣◌}
use Rattle.nets.specs.HalfSpaces.{HalfSpace}
use Rattle.nets.specs.Reduced.{EachOf, Divides, IsDivisor, divided_by, AllZero}

-- g divides each number of a row, and whatever divides each divides g: so 0 is the divisor where all are zero
pub record IsCommon (zs : List ℤ) (g : ℕ) : Type 0 where
  pub common : EachOf (Divides g) zs
  pub greatest : (e : ℕ) → EachOf (Divides e) zs → e ∣ g

-- the greatest common divisor of a claim's coefficients and constant; 0 where all are zero
unfoldable pub IsDivisorOf : HalfSpace → ℕ → Type 0
IsDivisorOf h g = (AllZero h × (g ≡ 0)) ⊎ ((AllZero h → ⊥) × IsDivisor (divided_by h) g)

-- the first n of sixteen coefficients, and a constant
abbrev pub space_of : ℕ → List ℤ → ℤ → HalfSpace
space_of n ks c = record { coefficients = take n ks; constant = c }
