-- Where the table puts 0 and the window.
use Rattle.std.specs.Prelude.{◌≡◌, Option, Some, None, List, ℕ, ◌+◌, ◌≤◌, ◌<◌, length, get_or, take, ℤ, pos, ◌≤ℤ◌, ◌+ℤ◌, ◌-ℤ◌}
use Rattle.signed.specs.Parts.{positive_part, negative_part}
use Rattle.sums.specs.Sum.{total}
use Rattle.search.specs.Searched.{Hit}
use Rattle.search.specs.declared.table.Table.{Table}

-- how far a step leads at most
pub record Length (m : ℤ) : Type 0 where
  pub least : pos 0 ≤ℤ m
  pub most : m ≤ℤ pos 128

-- no coefficient is larger, of either sign
pub record Longest (ks : List ℤ) (m : ℤ) : Type 0 where
  pub up : (p : ℕ) → positive_part (get_or ks p (pos 0)) ≤ positive_part m
  pub down : (p : ℕ) → negative_part (get_or ks p (pos 0)) ≤ positive_part m
  pub length : Length m

-- what 0 at position s leaves room for, and how high it stands
pub record Roomy (lo hi m s : ℤ) : Type 0 where
  pub low : pos 0 ≤ℤ s
  pub low_lo : pos 0 ≤ℤ (s +ℤ lo)
  pub low_hi : m ≤ℤ (s +ℤ hi)
  pub high : s ≤ℤ pos 19628
  pub high_lo : s ≤ℤ (pos 19628 -ℤ lo)

-- t.window.lo and t.window.hi are the positions of lo and hi; there is room for a step of m below hi and from below lo, and no more than 19,900 positions
pub record Placed (lo hi m : ℤ) (t : Table) : Type 0 where
  pub low : t.window.lo + negative_part lo ≡ t.start + positive_part lo
  pub high : t.window.hi + negative_part hi ≡ t.start + positive_part hi
  pub begin : t.start < t.size
  pub rise : t.window.lo + positive_part m ≤ t.size
  pub fall : positive_part m ≤ t.window.hi
  pub fits : t.size ≤ 19900

-- what `look` answers: the front of x, a number for each coefficient, hits the window lo .. hi of whole numbers, with the least total; or nothing does
pub record Least (ks : List ℤ) (lo hi : ℤ) (x : List ℕ) : Type 0 where
  pub hits : Hit ks lo hi x
  pub least : (z : List ℕ) → Hit ks lo hi z → total x ≤ total z
  pub bound : total x ≤ 19900

abbrev pub Looked : List ℤ → ℤ → ℤ → Option (List ℕ) → Type 0
Looked ks lo hi (Some x) = Least ks lo hi (take (length ks) x)
Looked ks lo hi None = (z : List ℕ) → Hit ks lo hi z → ⊥
