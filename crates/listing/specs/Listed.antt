-- The answers of the calls that write a listing or a refusal's line: refusals, and the text's area afterwards.
use Rattle.std.specs.Prelude.{◌≡◌, Bool, true, false, List, ◌++◌, ℕ, length, drop, leb, Err, Ok}
use Rattle.terms.specs.Limits.{areas_fit, text_size}
use Rattle.refusals.specs.declared.Refusal.TheVariants.{SmallArea, SmallText}
use Rattle.format.specs.Read.{Read, choose}
use Rattle.format.specs.Contents.{Contents}
use Rattle.refusals.specs.Refusals.{Check}
use Rattle.firstline.specs.FirstLine.{refused_line}
use Rattle.entries.specs.Entries.{IsListing}

-- the refusals in their order: the sheet's, 13 for a work area, 19 for the text's
abbrev pub room_check : ℕ → ℕ → ℕ → Check
room_check marks queue room = choose (areas_fit marks queue) (choose (leb text_size room) (Ok tt) (Err SmallText)) (Err SmallArea)

abbrev pub listing_check : Read Contents → ℕ → ℕ → ℕ → Check
listing_check (Err r) marks queue room = Err r
listing_check (Ok x) marks queue room = room_check marks queue room

-- the area afterwards: the listing, and behind it what stood there; after a refusal as it was
abbrev pub Lists : Check → Contents → List ℕ → List ℕ → Read ℕ → Type 0
Lists (Ok u) x old new r = (text : List ℕ) × IsListing x text × (r ≡ Ok (length text)) × (new ≡ text ++ drop (length text) old)
Lists (Err q) x old new r = (r ≡ Err q) × (new ≡ old)

abbrev pub IsListed : Read Contents → ℕ → ℕ → List ℕ → List ℕ → Read ℕ → Type 0
IsListed (Err q) marks queue old new r = (r ≡ Err q) × (new ≡ old)
IsListed (Ok x) marks queue old new r = Lists (room_check marks queue (length old)) x old new r

-- a refusal's line: the area is long enough, or 19
abbrev pub RefusalWritten : Bool → List ℕ → List ℕ → List ℕ → Read ℕ → Type 0
RefusalWritten true line old new r = (r ≡ Ok (length line)) × (new ≡ line ++ drop (length line) old)
RefusalWritten false line old new r = (r ≡ Err SmallText) × (new ≡ old)

-- any number and detail, those of a refusal or not
abbrev pub IsRefusalText : ℕ → ℕ → List ℕ → List ℕ → Read ℕ → Type 0
IsRefusalText number detail old new r = RefusalWritten (leb text_size (length old)) (refused_line number detail) old new r
