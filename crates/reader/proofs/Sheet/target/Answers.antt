use Rattle.std.proofs.Common.{arith, sym, ap, ap₂, ◌∙◌, ◌≡◌, List, ℕ, ◌+◌, length}
use Rattle.amounts.specs.declared.Kind.{Kind}
use Rattle.format.specs.Reading.{byte, words}
use Rattle.reader.specs.declared.Target.{Target}
use Rattle.rows.proofs.Rows.{length-words}
use Rattle.reader.specs.Known.{contents_of}
use Rattle.reader.specs.Targets.{target_shown}
use Rattle.reader.proofs.Known.{target_whole, target_is}
use Rattle.reader.proofs.Views.{kinds-agree}
use Rattle.reader.proofs.Sheet.target.Goals as goal

pub bounds-self-inside-at : goal.bounds-self-inside-at
bounds-self-inside-at c =
    omega (arith, target_whole c.self.inside.bytes.now _ c.self.invariant.known c.target_from-at.result c.target_from-at.ensures.0)

pub tokens_from-requires : goal.tokens_from-requires
tokens_from-requires c =
    (c.self.inside.extent.most_places, omega (arith, target_whole c.self.inside.bytes.now _ c.self.invariant.known c.target_from-at.result c.target_from-at.ensures.0))

pub returns-clause-value : goal.returns-clause-value
returns-clause-value c =
    let s = c.self.inside.bytes.now in
    ap₂ {C = Target} (λ (q : Kind) (m : List ℕ). record { kind = q; tokens = m }) (c.from.ensures ∙ kinds-agree (byte s (c.target_from-at.result + 2))) c.tokens_from.ensures
    ∙ ap target_shown (target_is s _ c.self.invariant.known c.target_from-at.result c.target_from-at.ensures.0)
    ∙ ap (λ x. target_shown x.setting.target) c.self.view_is

pub returns-clause-places : goal.returns-clause-places
returns-clause-places c =
    let s = c.self.inside.bytes.now in
    let at = c.target_from-at in
    let k = c.self.invariant.known in
    let written : length (words s (at.result + 3) c.self.inside.extent.places) ≡ length (contents_of s).setting.target.tokens = ap (λ t. length t.tokens) (target_is s _ k at.result at.ensures.0) in
    sym (ap (λ x. length x.setting.target.tokens) c.self.view_is) ∙ sym written ∙ length-words s (at.result + 3) _ ∙ sym (ap (λ k. k.places) k.counts) ∙ ap (λ x. x.setting.net.places) c.self.view_is
