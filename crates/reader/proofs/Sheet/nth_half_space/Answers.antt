use Rattle.std.proofs.Common.{arith, rules, ap, ◌∙◌, ◌≤◌, length}
use mir.Syntax.{w16}
use mir.Val.{SFits}
use mir.Facts.{to_z-of_z}
use Rattle.format.specs.Contents.{half_space, claim}
use Rattle.reader.proofs.Known.{limits, claim_whole, claims_count}
use Rattle.reader.proofs.Views.{space}
use Rattle.reader.proofs.Sheet.nth_half_space.Goals as goal

pub behind_claims-at-requires : goal.behind_claims-at-requires
behind_claims-at-requires c =
    omega (arith, (limits c.self.inside.bytes.now _ c.self.invariant.known).2, claims_count c.self.inside.bytes.now _ c.self.invariant.known, ap (λ x. length x.claims) c.self.view_is)

pub numbers_at-numbers-requires : goal.numbers_at-numbers-requires
numbers_at-numbers-requires c =
    let few : c.args.number ≤ c.self.inside.claims = omega (arith, claims_count c.self.inside.bytes.now _ c.self.invariant.known, ap (λ x. length x.claims) c.self.view_is) in
    (c.self.inside.extent.most_places, omega (arith, claim_whole c.self.inside.bytes.now _ c.self.invariant.known c.args.number c.requires.0 few c.behind_claims-at.result c.behind_claims-at.ensures.0))

pub of_sixteen-requires : goal.of_sixteen-requires
of_sixteen-requires c =
    let s = c.self.inside in
    let h = c.numbers_at-numbers in
    let few : c.args.number ≤ s.claims = omega (arith, claims_count s.bytes.now _ c.self.invariant.known, ap (λ x. length x.claims) c.self.view_is) in
    let fits : SFits w16 h.result.constant = search rules in
    (space s.bytes.now _ c.self.invariant.known c.self.invariant.bytes c.args.number c.requires.0 few c.behind_claims-at.result c.behind_claims-at.ensures.0 h.result.coefficients _ h.ensures.coefficients_value (to_z-of_z fits ∙ h.ensures.constant_value)).0

pub returns-clause-value : goal.returns-clause-value
returns-clause-value c =
    let s = c.self.inside in
    let h = c.numbers_at-numbers in
    let few : c.args.number ≤ s.claims = omega (arith, claims_count s.bytes.now _ c.self.invariant.known, ap (λ x. length x.claims) c.self.view_is) in
    let fits : SFits w16 h.result.constant = search rules in
    c.of_sixteen.ensures
    ∙ (space s.bytes.now _ c.self.invariant.known c.self.invariant.bytes c.args.number c.requires.0 few c.behind_claims-at.result c.behind_claims-at.ensures.0 h.result.coefficients _ h.ensures.coefficients_value (to_z-of_z fits ∙ h.ensures.constant_value)).1
    ∙ ap (λ x. half_space (claim x c.args.number)) c.self.view_is
