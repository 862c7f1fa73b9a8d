-- `pivot_of` meets its contract: the first coefficient that isn't zero is a pivot, or where there is none the constant.
use Prim.Native.Nat.{◌<◌}
use native.Mathlib.Omega.{arith}
use lib.IntN.{ℤ, pos}
use lib.ListN.{length}
use Rattle.std.proofs.Common.{rules, tests}
use Rattle.std.proofs.lemmas.Int.{ints}
use Rattle.std.proofs.lemmas.Iterator.{IsFirst-from_position, YieldsList-from_slice}
use Rattle.std.specs.Option.{MatchOption}
use Rattle.std.specs.List.{HoldsAt, AllWithin}
use Rattle.multiples.proofs.Scaled.{IsZero}
use Rattle.multiples.proofs.Entries.{pivot_row, pivot_constant, zeros_within}
use Rattle.multiples.proofs.pivot_of.Goals as goal
use Rattle.multiples.proofs.pivot_of.Goals.{After-position}

first_of : (c : After-position) → MatchOption c.position.result (AllWithin IsZero c.args.k.now 0 (length c.args.k.now)) (λ i. (i < length c.args.k.now) × HoldsAt (λ z. IsZero z → ⊥) c.args.k.now i × AllWithin IsZero c.args.k.now 0 i)
first_of c =
    IsFirst-from_position c.position.new.self _ c.position.result (λ (z : ℤ). IsZero z → ⊥) IsZero c.position.ensures.ran (YieldsList-from_slice c.args.k.now cc) (λ x q k. search (rules, tests, ints)) (λ x q k. search (rules, tests, ints))

pub returns-in-Some : goal.returns-in-Some
returns-in-Some c =
    let w = rw c.in-Some.is at (first_of (goal.at.returns-in-Some c).After-position) in
    pivot_row c.args.k.now c.args.c c.from.result c.in-Some.place w.0 (omega (arith, ints)) (w.1 (pos 0))

pub returns-in-None : goal.returns-in-None
returns-in-None c =
    let zeros = rw c.in-None.is at (first_of (goal.at.returns-in-None c).After-position) in
    pivot_constant c.args.k.now c.args.c c.unsigned_abs-in-None.result (omega (arith, ints)) (zeros_within c.args.k.now (λ p l. zeros p (pos 0) (omega arith) l))
