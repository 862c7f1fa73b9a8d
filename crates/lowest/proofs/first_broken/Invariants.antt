-- `lowest::first_broken` meets its contract: the transitions below the number that is asked keep the half space.
use Rattle.lowest.proofs.Lowest.{KeptTo}
use Rattle.lowest.proofs.first_broken.Given as goal

abbrev pub invariant-loop-number : goal.invariant-loop-number
invariant-loop-number l = KeptTo l.sheet.setting.net l.half_space l.number
