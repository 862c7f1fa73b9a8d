-- What is true of the two areas while a search runs.
use Rattle.std.specs.Prelude.{◌≡◌, List, [], ◌∷◌, ℕ, zero, suc, ◌+◌, ◌≤◌, ◌<◌, length, get_or, ℤ, pos, Option, Some, None}
use Rattle.signed.specs.Parts.{positive_part, negative_part}

-- how many entries are 0
unfoldable pub zeros : List ℕ → ℕ
zeros [] = 0
zeros (zero ∷ xs) = suc (zeros xs)
zeros (suc x ∷ xs) = zeros xs

-- w is one step of place p from v: w = v + k(p)
abbrev pub Step : List ℤ → ℕ → ℕ → ℕ → Type 0
Step ks v p w = w + negative_part (get_or ks p (pos 0)) ≡ v + positive_part (get_or ks p (pos 0))

-- what `next` gives: the position one step away where it lies in the table, and else v itself
pub record Next (v u d size r : ℕ) : Type 0 where
  pub inside : r < size
  pub exact : (w : ℕ) → w + d ≡ v + u → w < size → w ≡ r
  pub moved : (r ≡ v → ⊥) → r + d ≡ v + u

-- v is in the queue below tail
pub record Listed (queue : List ℕ) (tail v : ℕ) : Type 0 where
  pub at : ℕ
  pub below : at < tail
  pub is : get_or queue at 0 ≡ v

-- and at level at most t
pub record Within (queue L : List ℕ) (tail t v : ℕ) : Type 0 where
  pub entry : Listed queue tail v
  pub level : get_or L entry.at 0 ≤ t

-- entry i of the queue was reached by a step from an earlier entry, one level lower, and its mark names the place
pub record From (ks : List ℤ) (mark queue L : List ℕ) (i : ℕ) : Type 0 where
  pub at : ℕ
  pub earlier : at < i
  pub place : ℕ
  pub inside : place < length ks
  pub told : get_or mark (get_or queue i 0) 0 ≡ place + 1
  pub step : Step ks (get_or queue at 0) place (get_or queue i 0)
  pub deeper : get_or L i 0 ≡ get_or L at 0 + 1

-- the first `tail` entries of the queue are the marked positions, by level; the entries below `head` are expanded, and entry `head` by the places below p
pub record State (ks : List ℤ) (mark queue : List ℕ) (head p tail : ℕ) : Type 0 where
  pub L : List ℕ
  pub long : length L ≡ length queue
  pub count : zeros mark + tail ≡ length mark
  pub first : get_or L 0 0 ≡ 0
  pub marked : (i : ℕ) → i < tail → 0 < get_or mark (get_or queue i 0) 0
  pub listed : (v : ℕ) → 0 < get_or mark v 0 → Listed queue tail v
  pub from : (i : ℕ) → 0 < i → i < tail → From ks mark queue L i
  pub sorted : (i j : ℕ) → i ≤ j → j < tail → get_or L i 0 ≤ get_or L j 0
  pub ahead : (j : ℕ) → head < tail → j < tail → get_or L j 0 ≤ get_or L head 0 + 1
  pub done : (i q w : ℕ) → i < head → q < length ks → Step ks (get_or queue i 0) q w → w < length mark → Within queue L tail (get_or L i 0 + 1) w
  pub doing : (q w : ℕ) → q < p → Step ks (get_or queue head 0) q w → w < length mark → Within queue L tail (get_or L head 0 + 1) w

-- the areas fit the table: a place's number fits a byte, with one number to spare, and every position has an entry in the queue
pub record Sizes (ks : List ℤ) (mark queue : List ℕ) : Type 0 where
  pub few : length ks < 255
  pub room : length mark ≤ length queue
  pub narrow : length mark ≤ 20000

-- what `expand` leaves: entry `head` is expanded, and the queue ends at r
pub record Expanded (ks : List ℤ) (mark queue queue₀ : List ℕ) (head tail r : ℕ) : Type 0 where
  pub grows : tail ≤ r
  pub kept : (i : ℕ) → i < tail → get_or queue i 0 ≡ get_or queue₀ i 0
  pub state : State ks mark queue (head + 1) 0 r

-- the queue starts at `start` and ends at `tail`, and the entries below h are expanded
pub record Seen (ks : List ℤ) (mark queue : List ℕ) (start h tail : ℕ) : Type 0 where
  pub some : 0 < tail
  pub first : get_or queue 0 0 ≡ start
  pub state : State ks mark queue h 0 tail

-- and h is one of its entries
pub record Entry (ks : List ℤ) (mark queue : List ℕ) (start h : ℕ) : Type 0 where
  pub tail : ℕ
  pub inside : h < tail
  pub seen : Seen ks mark queue start h tail

-- none of the first h entries lies in the window
abbrev pub Misses : List ℕ → ℕ → ℕ → ℕ → Type 0
Misses queue lo hi h = (i : ℕ) → i < h → lo ≤ get_or queue i 0 → get_or queue i 0 ≤ hi → ⊥

-- what `reach` answers: the first entry that lies in the window, or that all are expanded and none does
pub record First (ks : List ℤ) (mark queue : List ℕ) (start lo hi h : ℕ) : Type 0 where
  pub entry : Entry ks mark queue start h
  pub before : Misses queue lo hi h
  pub low : lo ≤ get_or queue h 0
  pub high : get_or queue h 0 ≤ hi

pub record Spent (ks : List ℤ) (mark queue : List ℕ) (start lo hi : ℕ) : Type 0 where
  pub tail : ℕ
  pub seen : Seen ks mark queue start tail tail
  pub before : Misses queue lo hi tail

abbrev pub Reaches : List ℤ → List ℕ → List ℕ → ℕ → ℕ → ℕ → Option ℕ → Type 0
Reaches ks mark queue start lo hi (Some h) = First ks mark queue start lo hi h
Reaches ks mark queue start lo hi None = Spent ks mark queue start lo hi
