-- `search::look` meets its contract: the search in a table with room, and Tied.antt. A window that ends below its start holds nothing.
use Rattle.std.proofs.Common.{rules, arith, ◌≡◌, ◌≤◌, w32, length, FitsSigned}
use Rattle.std.specs.Prelude.{IfSome}
use Rattle.std.proofs.lemmas.Int.{to_z-of_z}
use Rattle.search.proofs.Tied.{looked}
use Rattle.search.proofs.look.Goals as goal

pub returns : goal.returns
returns c =
    let f : FitsSigned w32 c.longest.result = search rules in
    let t = c.placed-table.result in
    let p = rw (to_z-of_z w32 c.longest.result f) at c.placed-table.ensures in
    let n : length c.fill.new.self ≡ t.size = search rules in
    let l : IfSome c.search.result (λ x. length c.args.k.now ≤ length x) = search rules in
    looked c.args.k.now c.args.window.lo c.args.window.hi c.longest.result t p (length c.fill.new.self) (omega (arith, n, p.fits)) c.search.result l c.search.ensures.led
