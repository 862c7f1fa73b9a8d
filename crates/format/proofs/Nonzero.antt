-- What `some_nonzero` tells: some place has a coefficient other than zero, since a number is zero exactly where its size is.
use mathlib.Core.Path.{◌≡◌, refl, ap}
use mathlib.Core.Logic.{◌↔◌}
use mathlib.Core.Bool.{Bool, true, false, cond}
use mathlib.Core.List.{List, [], ◌∷◌}
use Prim.Native.Nat.{ℕ, zero, suc, ◌<◌}
use native.Mathlib.Omega.{arith}
use lib.Dec.{eqb}
use lib.IntN.{ℤ, pos, negsuc, nat_abs}
use lib.ListN.{length, get_or}
use borrow.Author.Tests.{eqb-false, ne_eqb}
use Rattle.format.specs.Contents.{some_nonzero}

pub size_zero : (k : ℤ) → nat_abs k ≡ 0 → k ≡ pos 0
size_zero (pos n) e = ap pos e
size_zero (negsuc n) e = absurd (omega arith)

-- a place and its coefficient, which isn't zero
abbrev pub HasOther : List ℤ → Type 0
HasOther ks = (p : ℕ) × (p < length ks) × (get_or ks p (pos 0) ≡ pos 0 → ⊥)

has_other : (ks : List ℤ) → some_nonzero ks ≡ true → HasOther ks
unfolding some_nonzero
has_other [] e = absurd (let z : ◌≡◌ {A = ℕ} 0 1 = cc in omega arith)
has_other (k ∷ ks) e = go (eqb (nat_abs k) 0) refl e (has_other ks)
  where
    go : (t : Bool) → eqb (nat_abs k) 0 ≡ t → cond t (some_nonzero ks) true ≡ true → (some_nonzero ks ≡ true → HasOther ks) → HasOther (k ∷ ks)
    go true h e rest = let (p, l, other) = rest e in (suc p, omega arith, other)
    go false h e rest = (0, omega arith, λ is. eqb-false (nat_abs k) 0 h (ap nat_abs is))

some_there : (ks : List ℤ) → HasOther ks → some_nonzero ks ≡ true
unfolding some_nonzero
some_there [] (p, l, other) = absurd (omega arith)
some_there (k ∷ ks) (zero, l, other) = rw (ne_eqb (nat_abs k) 0 λ e. other (size_zero k e))
some_there (k ∷ ks) (suc p, l, other) = go (eqb (nat_abs k) 0) (some_there ks (p, omega arith, other))
  where
    go : (t : Bool) → some_nonzero ks ≡ true → cond t (some_nonzero ks) true ≡ true
    go true e = e
    go false e = refl

pub nonzero_exactly : (ks : List ℤ) → (some_nonzero ks ≡ true) ↔ HasOther ks
nonzero_exactly ks = (has_other ks, some_there ks)
