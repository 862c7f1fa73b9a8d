-- `search::table::placed` meets its contract: the lowest position that leaves room, and Places.antt.
use Rattle.std.proofs.Common.{rules, pos, ◌+ℤ◌, w32, FitsSigned}
use Rattle.std.proofs.lemmas.Int.{to_z-of_z}
use Rattle.search.proofs.Places.{in_place}
use Rattle.search.specs.Table.{Roomy}
use Rattle.search.proofs.table.placed.Goals as goal

pub returns : goal.returns
returns c =
    let lo = c.args.window.lo in
    let hi = c.args.window.hi in
    let m = c.args.m in
    let s = c.lowest_start-start.result in
    let z = c.max-size.result in
    let start_fits : FitsSigned w32 s = search rules in
    let size_fits : FitsSigned w32 z = search rules in
    let low_fits : FitsSigned w32 (s +ℤ lo) = search rules in
    let high_fits : FitsSigned w32 (s +ℤ hi) = search rules in
    let lo_fits : FitsSigned w32 lo = search rules in
    let hi_fits : FitsSigned w32 hi = search rules in
    let room : Roomy lo hi m s = rw (to_z-of_z w32 m c.ranges.m) at c.lowest_start-start.ensures in
    let one_fits : FitsSigned w32 (s +ℤ pos 1) = search rules in
    let end_fits : FitsSigned w32 ((s +ℤ lo) +ℤ m) = search rules in
    let size = rw (to_z-of_z w32 s start_fits, to_z-of_z w32 lo lo_fits, to_z-of_z w32 m c.ranges.m, to_z-of_z w32 _ one_fits, to_z-of_z w32 _ low_fits, to_z-of_z w32 _ end_fits) at c.max-size.ensures.value in
    rw (to_z-of_z w32 s start_fits, to_z-of_z w32 z size_fits, to_z-of_z w32 lo lo_fits, to_z-of_z w32 hi hi_fits, to_z-of_z w32 _ low_fits, to_z-of_z w32 _ high_fits)
    (in_place lo hi m s z c.requires.length room size)
