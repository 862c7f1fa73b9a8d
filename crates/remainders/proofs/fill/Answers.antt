-- `remainders::fill` meets its contract: at the end all sizes are taken in.
use mathlib.Core.Path.{refl, sym}
use native.Mathlib.Omega.{arith}
use Rattle.std.proofs.lemmas.Iterator.Adapters.{YieldsList-from_rev_slice}
use Rattle.std.proofs.lemmas.Iterator.Consumers.{YieldsList-end}
use Rattle.std.proofs.lemmas.List.{reverse-reverse}
use Rattle.remainders.proofs.Grown.{nothing_yet, first_is}
use Rattle.remainders.proofs.fill.Goals as goal

pub loop-z-init : goal.loop-z-init
loop-z-init c = (refl, nothing_yet c.blank.new.table c.blank.ensures)

pub take_in-requires : goal.take_in-requires
take_in-requires c = (omega arith, omega arith, omega arith, first_is _ _ _ c.loop-z.invariant.1)

pub returns : goal.returns
returns c =
    let all = YieldsList-end (YieldsList-from_rev_slice c.args.k.now cc) c.loop-z.yielded _ c.loop-z.yielded_by _ _ c.in-None.is c.next.ensures.steps in
    rw (sym c.blank.auto.table) (rw (reverse-reverse c.args.k.now) at (rw all.0 at c.loop-z.invariant.1))
