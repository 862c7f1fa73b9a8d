use Rattle.std.proofs.Common.{◌≡◌, ◌-◌, length}
use Rattle.refusals.specs.declared.Refusal.TheVariants.{TooManyTokens}
use Rattle.nets.specs.Nets.{fire}
use Rattle.values.specs.Held.{arcs_in}
use Rattle.firing.specs.Firing.{lowest, is_over, lowest_over}
use Rattle.firing.proofs.over.Given as goal

-- those before p are passed
abbrev pub invariant-loop-p : goal.invariant-loop-p
invariant-loop-p l = lowest_over (length l.tokens) (fire (arcs_in l.taken l.put) l.tokens) ≡ lowest (is_over (fire (arcs_in l.taken l.put) l.tokens)) TooManyTokens l.p (length l.tokens - l.p)
