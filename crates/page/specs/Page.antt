-- What a program prints of a sheet, and where.
use Rattle.std.specs.Prelude.{◌≡◌, List, ℕ, ◌≤◌, length, drop, Err, Ok}
use Rattle.format.specs.Read.{Read}
use Rattle.format.specs.Contents.{Contents}
use Rattle.firstline.specs.FirstLine.{refusal_line}
use Rattle.entries.specs.Entries.{IsListing}
use Rattle.listing.specs.Alike.{Alike}

-- what judge prints: a sound sheet's listing, or the line of the sheet's refusal
abbrev pub IsPage : Read Contents → List ℕ → Type 0
IsPage (Ok x) text = IsListing x text
IsPage (Err q) text = text ≡ refusal_line q

-- the first n bytes of an area were written, and behind them it is as it was
pub record Starts (n : ℕ) (old new : List ℕ) : Type 0 where
  pub within : n ≤ length new
  pub behind : drop n new ≡ drop n old

-- two pages
abbrev pub PagesAlike : Read Contents → List ℕ → List ℕ → Type 0
PagesAlike (Ok x) text other = Alike x text other
PagesAlike (Err q) text other = text ≡ other
