-- Two pages of one sheet are alike; and areas that are long enough are not refused.
use Rattle.std.specs.Prelude.{Err, Ok}
use mathlib.Core.Path.{◌≡◌, sym, ◌∙◌}
use mathlib.Core.List.{List}
use Prim.Native.Nat.{ℕ, ◌≤◌}
use borrow.Author.Tests.{le-leb}
use Rattle.format.specs.Read.{Read}
use Rattle.format.specs.Contents.{Contents}
use Rattle.listing.specs.Listed.{room_check}
use Rattle.listing.proofs.Alike.{alike}
use Rattle.page.specs.Page.{IsPage, PagesAlike}

pub pages_alike : (y : Read Contents) (t u : List ℕ) → IsPage y t → IsPage y u → PagesAlike y t u
pages_alike (Ok x) t u a b = alike x t u a b
pages_alike (Err q) t u a b = a ∙ sym b

pub all_fit : (m l room : ℕ) → 20000 ≤ m → 20000 ≤ l → 4096 ≤ room → room_check m l room ≡ Ok tt
all_fit m l room a b c = rw (le-leb 20000 m a, le-leb 20000 l b, le-leb 4096 room c)
