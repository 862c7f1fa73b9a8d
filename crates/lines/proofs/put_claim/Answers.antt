-- `put_claim` meets its contract: the pieces stand one behind the other.
use borrow.Author.Rules.{rules}
use Rattle.text.proofs.Writing.{puts_then}
use Rattle.phrases.proofs.Texts.{two_digits}
use Rattle.lines.proofs.put_claim.Goals as goal

pub returns : goal.returns
returns c = search (rules, puts_then, two_digits)
