use Rattle.std.proofs.Common.{arith, ◌∙◌, ap}
use Rattle.nets.specs.HalfSpaces.{sixteen}
use Rattle.reader.proofs.Known.{start_whole, start_is}
use Rattle.reader.proofs.Sheet.start.Goals as goal

pub tokens_from-requires : goal.tokens_from-requires
tokens_from-requires c =
    let s = c.self.inside in
    (s.extent.most_places, omega (arith, start_whole s.bytes.now _ c.self.invariant.known c.behind_transitions-at.result c.behind_transitions-at.ensures.0))

pub returns : goal.returns
returns c =
    let s = c.self.inside in
    c.tokens_from.ensures ∙ ap (sixteen 0) (start_is s.bytes.now _ c.self.invariant.known c.behind_transitions-at.result c.behind_transitions-at.ensures.0) ∙ ap (λ x. sixteen 0 x.setting.start) c.self.view_is
