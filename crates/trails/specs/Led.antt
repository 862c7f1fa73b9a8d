-- What the counts that lead to an entry of the queue are, and which of them lead into a window.
use Rattle.std.specs.Prelude.{◌≡◌, Option, Some, None, List, ℕ, ◌+◌, ◌≤◌, ◌<◌, length, get_or, ℤ, pos}
use Rattle.signed.specs.Parts.{positive_part, negative_part}
use Rattle.sums.specs.Sum.{total, dot, ups, downs, Hits}
use Rattle.spreading.specs.State.{Entry}

-- what `trail` answers: counts that lead from `start` to entry h of the queue, as many as its level says, and at most h, and zeros behind them
pub record Trailed (ks : List ℤ) (mark queue : List ℕ) (start h : ℕ) (x : List ℕ) : Type 0 where
  pub leads : get_or queue h 0 + dot (downs ks) x ≡ start + dot (ups ks) x
  pub few : (E : Entry ks mark queue start h) → total x ≤ get_or E.seen.state.L h 0
  pub bound : total x ≤ h
  pub behind : (p : ℕ) → length ks ≤ p → get_or x p 0 ≡ 0

-- the table has room for the start, and for each step towards the window lo .. hi
pub record Room (ks : List ℤ) (size start lo hi : ℕ) : Type 0 where
  pub begin : start < size
  pub rise : (p : ℕ) → lo + positive_part (get_or ks p (pos 0)) ≤ size
  pub fall : (p : ℕ) → negative_part (get_or ks p (pos 0)) ≤ hi + 1

-- what `search` answers: x leads into the window, with the least total, below the number of positions, and is zeros behind the steps; or nothing does
pub record Led (ks : List ℤ) (size start lo hi : ℕ) (x : List ℕ) : Type 0 where
  pub hits : Hits (ups ks) (downs ks) lo hi start x
  pub least : (y : List ℕ) → Hits (ups ks) (downs ks) lo hi start y → total x ≤ total y
  pub bound : total x < size
  pub behind : (p : ℕ) → length ks ≤ p → get_or x p 0 ≡ 0

abbrev pub Leads : List ℤ → ℕ → ℕ → ℕ → ℕ → Option (List ℕ) → Type 0
Leads ks size start lo hi (Some x) = Led ks size start lo hi x
Leads ks size start lo hi None = (y : List ℕ) → Hits (ups ks) (downs ks) lo hi start y → ⊥
