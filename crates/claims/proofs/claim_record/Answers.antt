use Rattle.std.proofs.Common.{refl, sym, ap, ◌∙◌}
use Rattle.format.specs.Read.{map_ok}
use Rattle.format.specs.Reading.{reading}
use Rattle.claims.proofs.Parts.{at_start, none_refused}
use Rattle.claims.proofs.claim_record.Goals as goal

pub returns-in-Err : goal.returns-in-Err
returns-in-Err c =
    let none = none_refused (reading c.args.bytes.now) c.args.claim (sym c.record_range.ensures.check ∙ ap (map_ok (λ _. tt)) c.in-Err.is) in
    at_start _ _ refl refl none.0 none.1
