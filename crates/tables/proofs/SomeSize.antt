-- Where some coefficient is above zero, or below it, some size is not 0.
use mathlib.Core.List.{List}
use native.Mathlib.Omega.{arith}
use lib.IntN.{ℤ, pos, nat_abs}
use lib.ListN.{get_or, get_or-map}
use Rattle.signed.specs.Parts.{lt_in, abs_parts}
use Rattle.nets.specs.Verdicts.{SomeAbove, SomeBelow}
use Rattle.remainders.specs.Sums.{sizes}
use Rattle.tables.specs.Smallest.{NotAll0}

pub size_above : (ks : List ℤ) → SomeAbove ks → NotAll0 (sizes ks)
unfolding SomeAbove NotAll0
size_above ks w = (w.0, omega (arith, get_or-map nat_abs ks w.0 (pos 0), lt_in w.2, abs_parts (get_or ks w.0 (pos 0))))

pub size_below : (ks : List ℤ) → SomeBelow ks → NotAll0 (sizes ks)
unfolding SomeBelow NotAll0
size_below ks w = (w.0, omega (arith, get_or-map nat_abs ks w.0 (pos 0), lt_in w.2, abs_parts (get_or ks w.0 (pos 0))))
