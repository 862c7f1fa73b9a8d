-- `row_is_times` meets its contract: each coefficient is asked with its other.
use Rattle.std.proofs.Common.{rules, tests}
use Rattle.std.proofs.lemmas.Int.{ints}
use Rattle.std.proofs.lemmas.Iterator.{cases_from_all, YieldsList-from_slice, YieldsList-from_zip}
use Rattle.multiples.proofs.Rows.{Agree, rows_told}
use Rattle.multiples.proofs.row_is_times.Goals as goal

pub returns : goal.returns
returns g c =
    let told = g.K.AsCoefficient.coefficient in
    let xs = c.args.row.now in
    let ks = c.args.k.now in
    rows_told told c.args.d xs ks c.requires c.all.result
    (cases_from_all c.all.new.self _ c.all.result (Agree told c.args.d) (λ p. Agree told c.args.d p → ⊥) c.all.ensures.ran (YieldsList-from_zip (YieldsList-from_slice xs cc) (YieldsList-from_slice ks cc)) (λ x q k. search (rules, tests, ints)) (λ x q k. search (rules, tests, ints)))
