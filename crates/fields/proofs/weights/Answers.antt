use Rattle.std.proofs.Common.{sym, ap, ◌∙◌}
use Rattle.terms.specs.Limits.{weight_fits}
use Rattle.refusals.specs.declared.Refusal.TheVariants as refused
use Rattle.fields.proofs.Each.{first_in, at_first}
use Rattle.fields.proofs.weights.Goals as goal

pub returns-in-Some : goal.returns-in-Some
returns-in-Some c =
    let a = c.args in
    sym (ap (at_first refused.Weight a.from) c.in-Some.is) ∙ first_in weight_fits refused.Weight a.s.now a.from a.count c.no_weight.result c.requires c.no_weight.ensures

pub returns-in-None : goal.returns-in-None
returns-in-None c =
    let a = c.args in
    sym (ap (at_first refused.Weight a.from) c.in-None.is) ∙ first_in weight_fits refused.Weight a.s.now a.from a.count c.no_weight.result c.requires c.no_weight.ensures
