-- `Writer::put` meets its contract: the bytes are copied into the part behind what stood there.
use borrow.Author.Rules.{rules}
use Rattle.std.proofs.lemmas.Slice.{overwrites}
use Rattle.text.proofs.Writing.{wrote_part}
use Rattle.text.proofs.Writer.put.Goals as goal

pub returns : goal.returns
returns c = search (rules, overwrites, wrote_part)
