-- `gcd` meets its contract: the second number falls to the remainder, and what divides both divides that, and back.
use Rattle.std.proofs.lemmas.Nat.Gcd.{IsGcd-from_mod}
use Rattle.reduction.proofs.euclid.+gcd.Goals as goal

pub returns-else-b-eq0 : goal.returns-else-b-eq0
returns-else-b-eq0 t c = IsGcd-from_mod c.args.a c.args.b c.gcd.result c.gcd.ensures
