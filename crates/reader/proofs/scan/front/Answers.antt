-- `front` meets its contract: behind a sound head the size is that of what follows.
use Rattle.std.proofs.Common.{sym}
use Rattle.format.specs.Reading.{size_of}
use Rattle.reader.proofs.Whole.{front_read}
use Rattle.reader.proofs.scan.front.Goals as goal

pub returns-clause-value : goal.returns-clause-value
returns-clause-value c =
    let e = c.in_ok-extent.extent in
    sym (front_read c.args.sheet.now (size_of e.places e.transitions) (sym c.in_ok-extent.ensures.value) (sym c.in_ok-setting.ensures.value))
