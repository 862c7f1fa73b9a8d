use Rattle.std.proofs.Common.{arith, ap, ◌∙◌, ◌≤◌, length, ◌+◌}
use Rattle.nets.specs.Nets.{transition}
use Rattle.format.proofs.Standing.{part_bytes}
use Rattle.reader.proofs.Known.{weights_whole, transitions_count}
use Rattle.reader.proofs.Views.{arcs}
use Rattle.reader.proofs.Sheet.nth_arcs.Goals as goal

pub slice_bounds-taken-end : goal.slice_bounds-taken-end
slice_bounds-taken-end c =
    let s = c.self.inside in
    let few : c.args.number ≤ s.extent.transitions = omega (arith, transitions_count s.bytes.now _ c.self.invariant.known, ap (λ x. length x.setting.net.transitions) c.self.view_is) in
    omega (arith, weights_whole s.bytes.now _ c.self.invariant.known c.args.number c.requires.0 few c.behind_transitions-from.result c.behind_transitions-from.ensures.0)

pub slice_bounds-put-end : goal.slice_bounds-put-end
slice_bounds-put-end c =
    let s = c.self.inside in
    let few : c.args.number ≤ s.extent.transitions = omega (arith, transitions_count s.bytes.now _ c.self.invariant.known, ap (λ x. length x.setting.net.transitions) c.self.view_is) in
    omega (arith, weights_whole s.bytes.now _ c.self.invariant.known c.args.number c.requires.0 few c.behind_transitions-from.result c.behind_transitions-from.ensures.0)

pub new-requires : goal.new-requires
new-requires c =
    let s = c.self.inside in
    let n = s.extent.places in
    let at = c.behind_transitions-from.result in
    let few : c.args.number ≤ s.extent.transitions = omega (arith, transitions_count s.bytes.now _ c.self.invariant.known, ap (λ x. length x.setting.net.transitions) c.self.view_is) in
    let whole = weights_whole s.bytes.now _ c.self.invariant.known c.args.number c.requires.0 few at c.behind_transitions-from.ensures.0 in
    let both = arcs s.bytes.now _ c.self.invariant.known c.self.invariant.bytes c.args.number c.requires.0 few at c.behind_transitions-from.ensures.0 _ _ (part_bytes s.bytes.now (at + 2) n _ (omega arith) (omega (arith, whole))) (part_bytes s.bytes.now (at + 2 + n) n _ (omega arith) whole) in
    both.0

pub returns-clause-value : goal.returns-clause-value
returns-clause-value c =
    let s = c.self.inside in
    let n = s.extent.places in
    let at = c.behind_transitions-from.result in
    let few : c.args.number ≤ s.extent.transitions = omega (arith, transitions_count s.bytes.now _ c.self.invariant.known, ap (λ x. length x.setting.net.transitions) c.self.view_is) in
    let whole = weights_whole s.bytes.now _ c.self.invariant.known c.args.number c.requires.0 few at c.behind_transitions-from.ensures.0 in
    c.new.ensures
    ∙ (arcs s.bytes.now _ c.self.invariant.known c.self.invariant.bytes c.args.number c.requires.0 few at c.behind_transitions-from.ensures.0 _ _ (part_bytes s.bytes.now (at + 2) n _ (omega arith) (omega (arith, whole))) (part_bytes s.bytes.now (at + 2 + n) n _ (omega arith) whole)).1
    ∙ ap (λ x. transition x.setting.net c.args.number) c.self.view_is
