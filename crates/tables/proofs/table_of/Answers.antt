-- `tables::table_of` meets its contract: with one sign some size is not 0.
use mathlib.Core.Path.{refl}
use Rattle.tables.proofs.SomeSize.{size_above, size_below}
use Rattle.tables.proofs.table_of.Goals as goal

pub filled-requires : goal.filled-requires
filled-requires c = (c.requires.0, c.requires.1, size_above c.args.k.now (c.in-true-false.ensures.0 refl))

pub filled-requires-in-false-true : goal.filled-requires-in-false-true
filled-requires-in-false-true c = (c.requires.0, c.requires.1, size_below c.args.k.now (c.in-false-true.ensures'.0 refl))
