-- `refusal_text` meets its contract: the line stands at the start, and what stood behind it still does.
use mathlib.Core.Path.{ap}
use lib.ListN.{length}
use borrow.Author.Tests.{le-leb}
use Rattle.std.specs.Prelude.{Ok}
use Rattle.text.proofs.Writing.{length_written, whole}
use Rattle.firstline.specs.FirstLine.{refused_line}
use Rattle.listing.proofs.refusal_text.Goals as goal

pub returns : goal.returns
returns c =
    let a = c.args in
    let w = c.refused_page in
    let line = refused_line a.number a.detail in
    rw (le-leb 4096 (length a.text.now) c.if-text-lt-SIZE.false) (ap Ok (length_written line a.text.now w.new.text w.result w.ensures), whole line a.text.now w.new.text w.result w.ensures)
