use Rattle.std.proofs.Common.{◌≡◌, ◌-◌, length}
use Rattle.refusals.specs.declared.Refusal.TheVariants.{NotEnabled}
use Rattle.firing.specs.Firing.{lowest, is_short, lowest_short}
use Rattle.firing.proofs.short.Given as goal

-- those before p are passed
abbrev pub invariant-loop-p : goal.invariant-loop-p
invariant-loop-p l = lowest_short (length l.tokens) l.taken l.tokens ≡ lowest (is_short l.taken l.tokens) NotEnabled l.p (length l.tokens - l.p)
