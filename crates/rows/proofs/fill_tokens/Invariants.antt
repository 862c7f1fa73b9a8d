use Rattle.std.proofs.Common.{◌≡◌, take}
use Rattle.format.specs.Reading.{words}
use Rattle.rows.proofs.fill_tokens.Given as goal

abbrev pub invariant-loop-p : goal.invariant-loop-p
invariant-loop-p l = take l.p l.row ≡ words l.s l.at l.p
