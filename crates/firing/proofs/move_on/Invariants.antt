use Rattle.std.proofs.Common.{◌≡◌}
use Rattle.nets.specs.Nets.{fire}
use Rattle.values.specs.Held.{arcs_in}
use Rattle.firing.proofs.Fires.{so_far}
use Rattle.firing.proofs.move_on.Given as goal

-- the first p places have what the firing leaves there, and the rest is as it was
abbrev pub invariant-loop-p : goal.invariant-loop-p
invariant-loop-p l = l.tokens ≡ so_far l.p (fire (arcs_in l.taken l.put) l.initial.tokens) l.initial.tokens
