-- The lowest twin of a claim: the claims that were passed are none.
use Prim.Native.Nat.{ℕ, ◌+◌, ◌≤◌}
use native.Mathlib.Omega.{arith}
use borrow.Author.Count.{below_more}
use Rattle.nets.specs.Reduced.{Twins}
use Rattle.format.specs.Contents.{Contents, half_space, claim}
use Rattle.twins.specs.Answers.{NoTwinBefore}

-- the lowest twin is the first that is met
module _ (x : Contents) (i j : ℕ) where
  pub no_twin_more : NoTwinBefore x i j → (Twins (half_space (claim x i)) (half_space (claim x j)) → ⊥) → NoTwinBefore x i (j + 1)
  unfolding NoTwinBefore
  no_twin_more h strange m some l =
      below_more (λ (m : ℕ). 1 ≤ m → Twins (half_space (claim x i)) (half_space (claim x m)) → ⊥) j (λ m l some. h m some l) (λ some. strange) m l some

pub no_twin_yet : (x : Contents) (i : ℕ) → NoTwinBefore x i 1
unfolding NoTwinBefore
no_twin_yet x i m some l = absurd (omega arith)
