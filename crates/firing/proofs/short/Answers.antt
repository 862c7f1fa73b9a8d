use Rattle.std.proofs.Common.{arith, sym, ◌∙◌}
use Rattle.firing.proofs.Lowest.{found, passed, all_passed}
use Rattle.firing.proofs.Fires.{short_here, enough_here}
use Rattle.firing.proofs.short.Goals as goal

pub returns-then-held-from : goal.returns-then-held-from
returns-then-held-from c =
    let p = c.loop-p.p in
    sym (c.loop-p.invariant ∙ found _ _ _ p (omega arith) (short_here c.args.tokens.now c.args.taken.now p (omega (arith, c.from.ensures))))

pub loop-p-preserved : goal.loop-p-preserved
loop-p-preserved c =
    let p = c.loop-p.p in
    c.loop-p.invariant ∙ passed _ _ _ p (omega arith) (enough_here c.args.tokens.now c.args.taken.now p (omega (arith, c.from.ensures)))

pub returns : goal.returns
returns c = sym (c.loop-p.invariant ∙ all_passed _ _ _ c.loop-p.p (omega arith))
