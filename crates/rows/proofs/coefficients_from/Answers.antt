use Rattle.std.proofs.Common.{ap, ◌∙◌, arith, ◌+◌, ◌-◌, pos, map}
use Rattle.signed.specs.Twos.{twos8}
use Rattle.format.specs.Reading.{bytes}
use Rattle.format.proofs.Standing.{part_bytes}
use Rattle.rows.proofs.Rows.{written, length_signed}
use Rattle.rows.proofs.coefficients_from.Goals as goal

pub returns : goal.returns
returns c =
    let a = c.args in
    written (pos 0) c.fill_coefficients.new.row (map twos8 (bytes a.s.now a.at a.n)) a.n c.requires.0 (length_signed a.s.now a.at a.n) (c.fill_coefficients.ensures ∙ ap (map twos8) (part_bytes a.s.now a.at a.n (a.at + a.n - a.at) (omega arith) c.requires.1))
