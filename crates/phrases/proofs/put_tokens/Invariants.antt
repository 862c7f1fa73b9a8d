-- `put_tokens` meets its contract: after each turn the tokens so far are written, in at most six bytes each.
use Prim.Native.Nat.{◌+◌, ◌*◌, ◌≤◌}
use lib.ListN.{take}
use Rattle.text.specs.Writing.{Puts}
use Rattle.phrases.specs.Phrases.{tokens_text}
use Rattle.phrases.proofs.put_tokens.Given as goal

abbrev pub invariant-loop-tokens : goal.invariant-loop-tokens
invariant-loop-tokens l = (l.writer.len ≤ l.initial.writer.len + 6 * l.tokens-index) × Puts (tokens_text (take l.tokens-index l.marking)) l.initial.writer l.writer
