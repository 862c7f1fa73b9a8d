-- Half spaces and transitions of numbers that a sheet can hold, over some number of places.
use Rattle.std.specs.Prelude.{◌≡◌, true, List, ℕ, ◌≤◌, ℤ, length, take, pos}
use Rattle.terms.specs.Limits.{constant_fits}
use Rattle.nets.specs.Nets.{Transition}
use Rattle.nets.specs.HalfSpaces.{HalfSpace, sixteen}
use Rattle.format.specs.Formed.{Row, IsCoefficient, FormedTransition}

-- the first of sixteen coefficients, and a constant
abbrev pub space_in : List ℤ → ℕ → ℤ → HalfSpace
space_in row n c = record { coefficients = take n row; constant = c }

-- numbers within the limits of a claim, whatever stands behind the first n
pub record AreLimited (row : List ℤ) (n : ℕ) (c : ℤ) : Type 0 where
  pub places : n ≤ 16
  pub coefficients : Row n IsCoefficient (take n row)
  pub constant : constant_fits c ≡ true

pub record IsSpace (row : List ℤ) (n : ℕ) (c : ℤ) : Type 0 where
  pub places : n ≤ 16
  pub coefficients : Row n IsCoefficient (take n row)
  pub constant : constant_fits c ≡ true
  pub beyond : row ≡ sixteen (pos 0) (take n row)

-- the weights that stand in two parts of a sheet
abbrev pub arcs_in : List ℕ → List ℕ → Transition
arcs_in taken put = record { taken = taken; put = put }

pub record AreArcs (taken put : List ℕ) : Type 0 where
  pub places : length taken ≤ 16
  pub weights : FormedTransition (length taken) (arcs_in taken put)
