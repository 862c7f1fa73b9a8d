use Rattle.std.proofs.Common.{◌≡◌, take, map}
use Rattle.signed.specs.Twos.{twos8}
use Rattle.rows.proofs.fill_coefficients.Given as goal

abbrev pub invariant-loop-p : goal.invariant-loop-p
invariant-loop-p l = take l.p l.row ≡ map twos8 (take l.p l.bytes)
