-- `Writer::put_labelled` meets its contract: the word, and the number behind it.
use borrow.Author.Rules.{rules}
use Rattle.text.proofs.Writing.{puts_then}
use Rattle.text.proofs.Writer.put_labelled.Goals as goal

pub returns : goal.returns
returns c = search (rules, puts_then)
