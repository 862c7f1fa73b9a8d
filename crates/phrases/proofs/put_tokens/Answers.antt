-- `put_tokens` meets its contract: after each turn the tokens so far are written, in at most six bytes each.
use borrow.Author.Rules.{rules}
use Rattle.text.proofs.Writing.{puts_nothing}
use Rattle.phrases.specs.Phrases.{tokens_text}
use Rattle.phrases.proofs.Texts.{tokens_put, one_short}
use Rattle.phrases.proofs.put_tokens.Goals as goal

pub loop-tokens-init : goal.loop-tokens-init
unfolding tokens_text
loop-tokens-init c = search (rules, puts_nothing)

pub put_labelled-requires : goal.put_labelled-requires
put_labelled-requires c = search (rules, one_short)

pub loop-tokens-preserved : goal.loop-tokens-preserved
loop-tokens-preserved c = search (rules, tokens_put, one_short)
