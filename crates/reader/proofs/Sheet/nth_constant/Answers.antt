use Rattle.std.proofs.Common.{arith, rules, ap, ◌∙◌, ◌≤◌, length}
use mir.Syntax.{w16}
use mir.Val.{SFits}
use mir.Facts.{to_z-of_z}
use Rattle.nets.specs.HalfSpaces.{HalfSpace}
use Rattle.format.specs.Contents.{half_space, claim}
use Rattle.reader.proofs.Known.{limits, claim_whole, claim_is, claims_count}
use Rattle.reader.proofs.Sheet.nth_constant.Goals as goal

pub behind_claims-at-requires : goal.behind_claims-at-requires
behind_claims-at-requires c =
    omega (arith, (limits c.self.inside.bytes.now _ c.self.invariant.known).2, claims_count c.self.inside.bytes.now _ c.self.invariant.known, ap (λ x. length x.claims) c.self.view_is)

pub bounds-self-inside-low : goal.bounds-self-inside-low
bounds-self-inside-low c =
    let s = c.self.inside in
    let few : c.args.number ≤ s.claims = omega (arith, claims_count s.bytes.now _ c.self.invariant.known, ap (λ x. length x.claims) c.self.view_is) in
    omega (arith, claim_whole s.bytes.now _ c.self.invariant.known c.args.number c.requires.0 few c.behind_claims-at.result c.behind_claims-at.ensures.0)

pub bounds-self-inside-low-2 : goal.bounds-self-inside-low-2
bounds-self-inside-low-2 c =
    let s = c.self.inside in
    let few : c.args.number ≤ s.claims = omega (arith, claims_count s.bytes.now _ c.self.invariant.known, ap (λ x. length x.claims) c.self.view_is) in
    omega (arith, claim_whole s.bytes.now _ c.self.invariant.known c.args.number c.requires.0 few c.behind_claims-at.result c.behind_claims-at.ensures.0)

pub returns : goal.returns
returns c =
    let s = c.self.inside in
    let few : c.args.number ≤ s.claims = omega (arith, claims_count s.bytes.now _ c.self.invariant.known, ap (λ x. length x.claims) c.self.view_is) in
    let fits : SFits w16 c.from.result.0 = search rules in
    to_z-of_z fits
    ∙ c.from.ensures
    ∙ ap (λ (h : HalfSpace). h.constant) (claim_is s.bytes.now _ c.self.invariant.known c.args.number c.requires.0 few c.behind_claims-at.result c.behind_claims-at.ensures.0)
    ∙ ap (λ x. (half_space (claim x c.args.number)).constant) c.self.view_is
