-- `put_verdict` meets its contract: each arm writes the words of its case.
use mathlib.Core.Path.{◌≡◌, subst}
use mathlib.Core.List.{List}
use Prim.Native.Nat.{ℕ, ◌<◌}
use borrow.Author.Rules.{rules}
use Rattle.terms.specs.declared.Transition.{Transition}
use Rattle.text.proofs.Writing.{puts_then}
use Rattle.judged.specs.declared.Verdict.{Verdict}
use Rattle.judged.specs.declared.Verdict.TheVariants.{Broken}
use Rattle.phrases.proofs.Texts.{two_digits}
use Rattle.lines.specs.Lines.{Brief}
use Rattle.lines.proofs.put_verdict.Goals as goal

few : (v : Verdict) (t : Transition) (m : List ℕ) → v ≡ Broken t m → Brief v → t.0 < 100
few v t m e small = subst Brief e small

pub put_tokens-requires : goal.put_tokens-requires
put_tokens-requires c = let small = few c.args.verdict c.in-Broken.t c.in-Broken.marking c.in-Broken.is c.requires.2 in search (rules, two_digits)

pub returns-in-StartOutside : goal.returns-in-StartOutside
returns-in-StartOutside c = rw c.in-StartOutside.is (search rules)

pub returns-in-Broken : goal.returns-in-Broken
returns-in-Broken c = let small = few c.args.verdict c.in-Broken.t c.in-Broken.marking c.in-Broken.is c.requires.2 in rw c.in-Broken.is (search (rules, puts_then, two_digits))
