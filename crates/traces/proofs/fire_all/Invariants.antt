use Rattle.std.proofs.Common.{◌≡◌, ◌+◌, drop, Ok}
use Rattle.traces.specs.Traces.{fired_list, steps_from}
use Rattle.traces.proofs.fire_all.Given as goal

-- what the whole list does is what the steps that are left do from the marking held
abbrev pub invariant-loop-i : goal.invariant-loop-i
invariant-loop-i l = fired_list (Ok l.sheet) l.list l.initial.m ≡ steps_from (Ok l.sheet) l.initial.m (l.i + 1) (drop l.i l.list) l.m
