use Rattle.std.proofs.Common.{arith}
use Rattle.rows.proofs.Rows.{words_none, row_next}
use Rattle.rows.proofs.fill_tokens.Goals as goal

pub loop-p-init : goal.loop-p-init
loop-p-init c = words_none c.args.s.now c.args.at

pub loop-p-preserved : goal.loop-p-preserved
loop-p-preserved c =
    let l = c.loop-p in
    row_next l.row c.args.s.now c.args.at l.p c.two_bytes.result (omega arith) c.two_bytes.ensures l.invariant
