-- `remainders::take_in` meets its contract: where k is reached already its steps are closed, and else the sweep closes them (Grown.antt).
use native.Mathlib.Omega.{arith}
use lib.ListN.{length}
use Rattle.remainders.proofs.Grown.{sound_kept, extended, closed_already}
use Rattle.remainders.proofs.take_in.Goals as goal

pub returns-then-k-from : goal.returns-then-k-from
returns-then-k-from c =
    let a = length c.args.table.now in
    let k = c.args.k in
    let T = c.args.table.now in
    let e = c.sweep.ensures in
    λ ss t. extended a k ss T c.sweep.new.table c.requires.0 t e.below e.closed (e.sound ss (sound_kept a k ss T t.sound))

pub returns-else-k-from : goal.returns-else-k-from
returns-else-k-from c =
    let a = length c.args.table.now in
    let k = c.args.k in
    let T = c.args.table.now in
    let reached = c.if-k-from.false in
    λ ss t. extended a k ss T T c.requires.0 t (λ r. omega arith) (closed_already a k ss T c.requires.0 c.requires.2 t (omega arith)) (sound_kept a k ss T t.sound)
