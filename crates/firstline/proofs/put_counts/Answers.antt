-- `put_counts` meets its contract: the pieces stand one behind the other.
use borrow.Author.Rules.{rules}
use Rattle.text.proofs.Writing.{puts_then}
use Rattle.firstline.proofs.put_counts.Goals as goal

pub returns : goal.returns
returns c = search (rules, puts_then)
