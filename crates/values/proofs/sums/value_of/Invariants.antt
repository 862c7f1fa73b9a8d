use Rattle.std.proofs.Common.{◌≡◌, ◌≤◌, ◌*◌, map, drop, ◌+ℤ◌, unsigned_abs}
use Rattle.nets.specs.HalfSpaces.{value}
use Rattle.values.proofs.sums.value_of.Given as goal

abbrev pub invariant-loop-p : goal.invariant-loop-p
invariant-loop-p g l = record {
  rest : l.sum +ℤ value (drop l.p l.k) (map g.A.Amount.number (drop l.p l.amounts)) ≡ value l.k (map g.A.Amount.number l.amounts);
  size : unsigned_abs l.sum ≤ 8388480 * l.p;
}
