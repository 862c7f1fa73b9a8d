-- `gcd` meets its contract: the second number falls to the remainder, and what divides both divides that, and back.
use Rattle.reduction.proofs.euclid.+gcd.Given as goal

abbrev pub decreases-gcd : goal.decreases-gcd
decreases-gcd l = l.b
