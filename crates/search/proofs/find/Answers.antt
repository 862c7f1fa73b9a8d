-- `search::find` meets its contract: the answer for the row of distinct coefficients, put back, is that for the coefficients (Compact.antt), and zeros stand behind them (Rows.antt).
use Rattle.std.proofs.Common.{arith, ◌≡◌, ℕ, List, pos, refl, sym, ap, ◌∙◌, subst, length, replicate, ◌++◌}
use Rattle.std.proofs.Math.Seq.{length-take-le}
use Rattle.search.specs.Searched.{Best}
use Rattle.search.proofs.Rows.{zeros_take, zeros_drop, front_of, found_of, answered}
use Rattle.search.proofs.Compact.{whole, nothing}
use Rattle.search.proofs.find.Goals as goal

pub returns-in_err-y : goal.returns-in_err-y
returns-in_err-y c =
    let k = c.args.k.now in
    let d = c.distinct-m in
    let w = c.args.window in
    let row = front_of d.result (length k) d.new.row (replicate 16 (pos 0)) c.requires.places d.auto.row d.ensures.few in
    let seats = front_of d.result (length k) d.new.places (replicate 16 0) c.requires.places d.auto.places d.ensures.few in
    rw c.from_residual.ensures
    (nothing k d.new.row d.new.places d.result d.ensures (omega (arith, row.0, d.ensures.few)) (omega (arith, seats.0, d.ensures.few)) w.lo w.hi (rw row.1 at c.in_err-y.ensures))

pub spread-requires-clause-places_len : goal.spread-requires-clause-places_len
spread-requires-clause-places_len c =
    let n = length c.args.k.now in
    let d = c.distinct-m in
    let l = c.requires.places in
    let found = found_of d.result n d.new.row (replicate 16 (pos 0)) _ _ _ l d.auto.row d.ensures.few c.in_ok-y.ensures in
    let row = front_of d.result n d.new.row (replicate 16 (pos 0)) l d.auto.row d.ensures.few in
    let seats = front_of d.result n d.new.places (replicate 16 0) l d.auto.places d.ensures.few in (
      ap length seats.1 ∙ length-take-le d.result d.new.places (omega (arith, seats.0, d.ensures.few)) ∙ sym (found.hits.places ∙ length-take-le d.result d.new.row (omega (arith, row.0, d.ensures.few))),
      zeros_take n 16 l ∙ ap (λ (i : ℕ). replicate i 0) (sym (length-take-le n (replicate 16 0) l)),
      found.bound,
    )

pub returns : goal.returns
returns c =
    let k = c.args.k.now in
    let n = length k in
    let d = c.distinct-m in
    let l = c.requires.places in
    let w = c.args.window in
    let x = c.spread.new.x in
    let found = found_of d.result n d.new.row (replicate 16 (pos 0)) _ _ _ l d.auto.row d.ensures.few c.in_ok-y.ensures in
    let row = front_of d.result n d.new.row (replicate 16 (pos 0)) l d.auto.row d.ensures.few in
    let seats = front_of d.result n d.new.places (replicate 16 0) l d.auto.places d.ensures.few in
    let long : length x ≡ n = c.spread.auto.x ∙ length-take-le n (replicate 16 0) l in
    let put = rw seats.1 at c.spread.ensures in
    let best = whole k d.new.row d.new.places d.result d.ensures (omega (arith, row.0, d.ensures.few)) (omega (arith, seats.0, d.ensures.few)) w.lo w.hi x long _ put found in
    subst (λ (z : List ℕ). Best k w.lo w.hi n (x ++ z)) (sym (zeros_drop n 16 l)) (answered k w.lo w.hi n l refl x long best)
