-- `distinct::distinct` meets its contract: a coefficient that is 0 or known is left out, and any other is put behind the row (Keeping.antt).
use Rattle.std.proofs.Common.{◌≡◌, ◌<◌, rules, arith, get_or, length, ℤ, pos, w8, FitsSigned, inl, inr, true, int_eq}
use Rattle.std.proofs.lemmas.Int.{to_z-of_z, ints}
use Rattle.distinct.proofs.Keeping.{among-take, left_out, put}
use Rattle.distinct.proofs.distinct.Goals as goal
use Rattle.distinct.proofs.distinct.Goals.{then-c-ne0+then-not-contains, else-c-ne0, else-c-ne0-via-then-c-ne0+else-not-contains, else-c-ne0-via-else-c-ne0}

same_number : (a b : ℤ) → int_eq a b ≡ true → a ≡ b
same_number a b e = grind arith

pub loop-p-preserved : goal.loop-p-preserved
loop-p-preserved c =
    let a = c.args in
    let l = c.loop-p in
    let k = l.invariant in
    let f : FitsSigned w8 (get_or a.k.now l.p (pos 0)) = search rules in
    let room : l.n < length l.row = omega (arith, k.few) in
    elim c.if-c-ne0.branch [
      | then-c-ne0+then-not-contains w ↦
          rw (w.row-is, w.places-is, w.n-is) (put a.k.now l.row l.places l.n l.p k _ (to_z-of_z w8 _ f) room (omega (arith, k.few)))
      | else-c-ne0 w ↦
          rw (w.row-is, w.places-is, w.n-is)
          (elim w.else-c-ne0.branch [
            | else-c-ne0-via-then-c-ne0+else-not-contains u ↦
                let g = u.if-not-contains.ensures.cases in
                left_out a.k.now l.row l.places l.n l.p k
                (inr (among-take l.row l.n _ (omega arith) (record { at = g.0; below = g.1; is = same_number _ _ (g.2 (pos 0)) })))
            | else-c-ne0-via-else-c-ne0 u ↦
                let z : get_or a.k.now l.p (pos 0) ≡ pos 0 = omega (arith, ints) in
                left_out a.k.now l.row l.places l.n l.p k (inl z)
          ])
    ]
