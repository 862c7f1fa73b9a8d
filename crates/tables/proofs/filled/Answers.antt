-- `tables::filled` meets its contract: the table that `fill` leaves is exact (Finished.antt), since its length is one of the sizes.
use mathlib.Core.Path.{◌≡◌}
use native.Mathlib.Omega.{arith}
use lib.ListN.{length, take}
use lib.Seq.{length-take-le}
use Rattle.remainders.specs.Sums.{sizes}
use Rattle.remainders.proofs.Finished.{finished}
use Rattle.tables.proofs.filled.Goals as goal

pub returns : goal.returns
returns c =
    let least = c.smallest.result in
    let ss = sizes c.args.k.now in
    let T = c.fill.new.table in
    let part : length (take least c.args.table.now) ≡ least = length-take-le least c.args.table.now (omega (arith, c.smallest.ensures.short, c.requires.0)) in
    let long : length T ≡ least = omega arith in
    record {
      usable = record { some = omega (arith, c.smallest.ensures.some); short = omega (arith, c.smallest.ensures.short) };
      exact = rw long (finished least c.smallest.ensures.place ss T c.smallest.ensures.some c.smallest.ensures.is (rw part at c.fill.ensures));
    }
