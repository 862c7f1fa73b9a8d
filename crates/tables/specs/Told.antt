-- What is told of a claim's coefficients.
use Rattle.std.specs.Prelude.{List, ℕ, ◌≤◌, length, ℤ}
use Rattle.nets.specs.Verdicts.{SomeAbove, SomeBelow}
use Rattle.remainders.specs.Sums.{sizes, Exact}
use Rattle.tables.specs.declared.Values.{Values}
use Rattle.tables.specs.declared.Values.TheVariants.{Zero, Rising, Falling, Mixed}

-- a table of remainders has an entry at least, and no more than the largest size
pub record Usable (table : List ℕ) : Type 0 where
  pub some : 1 ≤ length table
  pub short : length table ≤ 100

-- the table of the sizes ss
pub record IsTable (ss table : List ℕ) : Type 0 where
  pub usable : Usable table
  pub exact : Exact ss (length table) table

-- the tables can be asked
abbrev pub AllUsable : Values → Type 0
AllUsable Zero = Unit {0}
AllUsable (Rising table) = Usable table.now
AllUsable (Falling table) = Usable table.now
AllUsable Mixed = Unit {0}

-- which signs the coefficients have, and with one sign the table of their sizes
abbrev pub Told : List ℤ → Values → Type 0
Told ks Zero = (SomeAbove ks → ⊥) × (SomeBelow ks → ⊥)
Told ks (Rising table) = SomeAbove ks × (SomeBelow ks → ⊥) × IsTable (sizes ks) table.now
Told ks (Falling table) = (SomeAbove ks → ⊥) × SomeBelow ks × IsTable (sizes ks) table.now
Told ks Mixed = SomeAbove ks × SomeBelow ks
