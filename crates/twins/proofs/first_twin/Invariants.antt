-- `first_twin` meets its contract: the claims that were passed are no twins, since a twin is a multiple of the reduced form, and the first multiple is the lowest twin.
use Prim.Native.Nat.{◌≤◌}
use Rattle.twins.specs.Answers.{NoTwinBefore}
use Rattle.twins.proofs.first_twin.Given as goal

abbrev pub invariant-loop-earlier : goal.invariant-loop-earlier
invariant-loop-earlier l = NoTwinBefore l.sheet l.number l.earlier × (1 ≤ l.earlier) × (l.earlier ≤ l.number)
