use Rattle.std.proofs.Common.{arith, ap, ◌∙◌, ◌≤◌, length, map, ◌+◌}
use Rattle.signed.specs.Twos.{twos8}
use Rattle.nets.specs.HalfSpaces.{HalfSpace}
use Rattle.format.specs.Contents.{half_space, claim}
use Rattle.format.proofs.Standing.{part_bytes}
use Rattle.reader.proofs.Known.{limits, claim_whole, claim_is, claims_count}
use Rattle.reader.proofs.Sheet.nth_row.Goals as goal

pub behind_claims-at-requires : goal.behind_claims-at-requires
behind_claims-at-requires c =
    omega (arith, (limits c.self.inside.bytes.now _ c.self.invariant.known).2, claims_count c.self.inside.bytes.now _ c.self.invariant.known, ap (λ x. length x.claims) c.self.view_is)

pub slice_bounds-result-end : goal.slice_bounds-result-end
slice_bounds-result-end c =
    let s = c.self.inside in
    let few : c.args.number ≤ s.claims = omega (arith, claims_count s.bytes.now _ c.self.invariant.known, ap (λ x. length x.claims) c.self.view_is) in
    omega (arith, claim_whole s.bytes.now _ c.self.invariant.known c.args.number c.requires.0 few c.behind_claims-at.result c.behind_claims-at.ensures.0)

pub returns-clause-value : goal.returns-clause-value
returns-clause-value c =
    let s = c.self.inside in
    let n = s.extent.places in
    let at = c.behind_claims-at.result in
    let few : c.args.number ≤ s.claims = omega (arith, claims_count s.bytes.now _ c.self.invariant.known, ap (λ x. length x.claims) c.self.view_is) in
    let whole = claim_whole s.bytes.now _ c.self.invariant.known c.args.number c.requires.0 few at c.behind_claims-at.ensures.0 in
    ap (map twos8) (part_bytes s.bytes.now (at + 2) n _ (omega arith) (omega (arith, whole)))
    ∙ ap (λ (h : HalfSpace). h.coefficients) (claim_is s.bytes.now _ c.self.invariant.known c.args.number c.requires.0 few at c.behind_claims-at.ensures.0)
    ∙ ap (λ x. (half_space (claim x c.args.number)).coefficients) c.self.view_is
