use Rattle.std.proofs.Common.{sym, ap, ◌∙◌}
use Rattle.signed.specs.Twos.{twos8}
use Rattle.terms.specs.Limits.{coefficient_fits}
use Rattle.refusals.specs.declared.Refusal.TheVariants as refused
use Rattle.fields.proofs.Each.{first_in, at_first}
use Rattle.fields.proofs.coefficients.Goals as goal

pub returns-in-Some : goal.returns-in-Some
returns-in-Some c =
    let a = c.args in
    sym (ap (at_first refused.Coefficient a.from) c.in-Some.is) ∙ first_in (λ b. coefficient_fits (twos8 b)) refused.Coefficient a.s.now a.from a.count c.no_coefficient.result c.requires c.no_coefficient.ensures

pub returns-in-None : goal.returns-in-None
returns-in-None c =
    let a = c.args in
    sym (ap (at_first refused.Coefficient a.from) c.in-None.is) ∙ first_in (λ b. coefficient_fits (twos8 b)) refused.Coefficient a.s.now a.from a.count c.no_coefficient.result c.requires c.no_coefficient.ensures
