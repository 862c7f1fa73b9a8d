-- `crossing_of` meets its contract: what the search finds in the window is a bad marking beside the weights taken, and where it finds nothing none is bad.
use Rattle.std.proofs.Common.{◌≡◌, ◌∙◌, ap, subst, length, take, List, ℕ, Some}
use Rattle.nets.specs.Nets.{◌⊞◌}
use Rattle.nets.specs.HalfSpaces.{sixteen}
use Rattle.search.specs.Searched.{Searched}
use Rattle.crossing.proofs.Crossed.{kept_so, row_so, shown_so}
use Rattle.crossing.proofs.crossing_of.Goals as goal

pub returns-in_err-x : goal.returns-in_err-x
returns-in_err-x c =
    let h = c.args.half_space.now in
    let t = c.args.arcs.now in
    let e = c.window_of-window.ensures.value in
    let same : length t.put ≡ length t.taken = c.taken-taken.ensures.places ∙ ap (λ (w : List ℕ). length w) c.taken-taken.ensures.value in
    rw c.from_residual.ensures (kept_so h t c.requires same (rw (c.coefficients.ensures.value, e.0, e.1) at c.in_err-x.ensures))

pub returns : goal.returns
returns c =
    let h = c.args.half_space.now in
    let t = c.args.arcs.now in
    let x = c.in_ok-x.x in
    let w = c.taken-taken in
    let e = c.window_of-window.ensures.value in
    let same : length t.put ≡ length t.taken = w.ensures.places ∙ ap (λ (u : List ℕ). length u) w.ensures.value in
    let found : Searched c.coefficients.result.now c.window_of-window.result.lo c.window_of-window.result.hi (length c.coefficients.result.now) (Some x) = subst (Searched c.coefficients.result.now c.window_of-window.result.lo c.window_of-window.result.hi (length c.coefficients.result.now)) c.in_ok-x.was c.find.ensures in
    let best = rw (c.coefficients.ensures.value, e.0, e.1) at found in
    let weights = rw w.ensures.value at w.ensures.fit in (
      t.taken ⊞ take (length h.coefficients) x,
      shown_so h t c.requires same weights x best,
      c.beside.ensures ∙ ap (λ (u : List ℕ). sixteen 0 u ⊞ x) w.ensures.value ∙ row_so h t c.requires same weights x best,
    )
