-- `tables::signs::some_above` meets its contract: each number was asked whether it is above zero.
use Rattle.std.proofs.Common.{rules, tests, arith}
use Rattle.std.proofs.lemmas.Int.{ints}
use Rattle.std.proofs.lemmas.Iterator.{cases_from_any, YieldsList-from_slice}
use lib.IntN.{ℤ, pos}
use lib.Signed.{◌<ℤ◌, ◌≤ℤ◌}
use Rattle.nets.specs.Verdicts.{SomeAbove}
use Rattle.tables.proofs.ToldByAny.{told_by_any}
use Rattle.tables.proofs.signs.some_above.Goals as goal

pub returns : goal.returns
unfolding SomeAbove
returns c =
    let ks = c.args.k.now in
    told_by_any (λ (z : ℤ). pos 0 <ℤ z) (λ (z : ℤ). z ≤ℤ pos 0) c.any.result ks (λ z a b. omega (arith, ints))
    (cases_from_any _ _ _ (λ (z : ℤ). pos 0 <ℤ z) (λ (z : ℤ). z ≤ℤ pos 0) c.any.ensures.ran (YieldsList-from_slice ks cc) (λ x q k. search (rules, tests, ints)) (λ x q k. search (rules, tests, ints)))
