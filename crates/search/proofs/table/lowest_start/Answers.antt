-- `search::table::lowest_start` meets its contract: the largest of three numbers leaves room.
use Rattle.std.proofs.Common.{arith}
use Rattle.std.proofs.lemmas.Int.{ints, clamps}
use Rattle.search.proofs.table.lowest_start.Goals as goal

pub returns : goal.returns
returns c =
    record {
      low = omega (arith, ints, clamps);
      low_lo = omega (arith, ints, clamps);
      low_hi = omega (arith, ints, clamps);
      high = omega (arith, ints, clamps);
      high_lo = omega (arith, ints, clamps);
    }
