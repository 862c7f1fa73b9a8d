-- `window::beside` meets its contract: after p turns the first p sums stand there.
use Rattle.std.proofs.Common.{arith}
use Rattle.crossing.proofs.Beside.{added_more, added_all}
use Rattle.crossing.proofs.window.beside.Goals as goal

pub loop-p-preserved : goal.loop-p-preserved
loop-p-preserved c =
    let l = c.loop-p in
    rw c.from.ensures (added_more c.args.taken.now c.args.x l.x l.p (omega arith) l.invariant)

pub returns : goal.returns
returns c =
    let l = c.loop-p in
    added_all c.args.taken.now c.args.x l.x l.p (omega arith) (omega arith) (omega arith) l.invariant
