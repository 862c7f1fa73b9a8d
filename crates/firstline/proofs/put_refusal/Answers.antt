-- `put_refusal` meets its contract: the pieces stand one behind the other. A byte has three digits, a detail twenty.
use mathlib.Core.Path.{subst}
use mathlib.Core.List.{◌++◌}
use Prim.Native.Nat.{ℕ}
use borrow.Author.Rules.{rules}
use lib.Chars.{codes}
use Rattle.text.specs.Bytes.{decimal}
use Rattle.text.specs.Writing.{Puts}
use Rattle.text.proofs.Writing.{puts_then}
use Rattle.text.proofs.Decimal.{decimal_short}
use Rattle.firstline.proofs.put_refusal.Goals as goal

pub put_labelled-requires : goal.put_labelled-requires
put_labelled-requires c = search (rules, decimal_short 3)

pub put_labelled-requires-2 : goal.put_labelled-requires-2
put_labelled-requires-2 c = search (rules, decimal_short 3, decimal_short 20)

pub put-requires : goal.put-requires
put-requires c = search (rules, decimal_short 3, decimal_short 20)

pub returns : goal.returns
returns c =
    let first : Puts (codes "refused " ++ decimal c.args.number) c.args.writer.now c.put_labelled.new.self = subst (λ (n : ℕ). Puts (codes "refused " ++ decimal n) c.args.writer.now c.put_labelled.new.self) c.from.ensures c.put_labelled.ensures in
    search (rules, puts_then)
