-- The lowest transition that breaks a half space: those before it were found to keep it, one after the other.
use mathlib.Core.Path.{◌≡◌, refl}
use Rattle.std.specs.Prelude.{Some, None}
use mathlib.Core.Bool.{Bool, true, false}
use mathlib.Core.List.{List, [], ◌∷◌}
use Prim.Native.Nat.{ℕ, zero, suc, ◌+◌, ◌≤◌, ◌<◌}
use native.Mathlib.Omega.{arith}
use lib.Dec.{leb}
use borrow.Author.Tests.{leb-true, leb-false}
use lib.ListN.{length}
use lib.IntN.{ℤ}
use Rattle.signed.specs.Linear.{linear}
use Rattle.signed.specs.Parts.{abs_parts, apart}
use Rattle.nets.specs.Nets.{Net, IsTransition, transition}
use Rattle.nets.specs.HalfSpaces.{HalfSpace, Kept, Broken}
use Rattle.format.specs.Formed.{All, IsCoefficient}
use Rattle.remainders.specs.Sums.{sizes, Within}
use Rattle.values.proofs.Bounds.{coefficient_range}
use Rattle.lowest.specs.Lowest.{FirstBroken}

-- the transitions below t keep it
abbrev pub KeptTo : Net → HalfSpace → ℕ → Type 0
KeptTo N h t = (u : ℕ) → 1 ≤ u → u < t → Kept h (transition N u)

pub none_yet : (N : Net) (h : HalfSpace) → KeptTo N h 1
none_yet N h u a b = absurd (omega arith)

pub one_more : (N : Net) (h : HalfSpace) (t : ℕ) → KeptTo N h t → Kept h (transition N t) → KeptTo N h (t + 1)
one_more N h t k l u a b = by (leb t u) refl
  where
    by : (f : Bool) → leb t u ≡ f → Kept h (transition N u)
    by true e = let last : u ≡ t = omega (arith, leb-true t u e) in rw last l
    by false e = k u a (omega (arith, leb-false t u e))

module _ (N : Net) (h : HalfSpace) (t : ℕ) (k : KeptTo N h t) where
  pub all_kept : length N.transitions < t → FirstBroken N h None
  unfolding IsTransition
  all_kept l u i = k u i.0 (omega (arith, i.1))

  pub found_so : 1 ≤ t → t ≤ length N.transitions → Broken h (transition N t) → FirstBroken N h (Some (record { 0 = t }))
  unfolding IsTransition
  found_so a l b = ((a, l), b, (λ u i m. k u i.0 m))

-- coefficients within their range have sizes of at most 100
pub within : (ks : List ℤ) → All IsCoefficient ks → Within (sizes ks)
unfolding All Within
within [] a p = omega arith
within (k ∷ ks) a zero =
    let r = coefficient_range k a.0 in
    omega (arith, abs_parts k, apart k, simp linear at r.0, simp linear at r.1)
within (k ∷ ks) a (suc p) = within ks a.1 p
