-- Where no refusal is given, every area is long enough.
use Rattle.std.specs.Prelude.{Ok}
use mathlib.Core.Path.{◌≡◌}
use Prim.Native.Nat.{ℕ, ◌≤◌}
use lib.Dec.{leb}
use borrow.Author.Tests.{leb-true}
use Rattle.terms.specs.Limits.{areas_fit, text_size}
use Rattle.refusals.specs.declared.Refusal.TheVariants.{SmallArea, SmallText}
use Rattle.pairs.proofs.Order.{held_so, both_fit}
use Rattle.listing.specs.Listed.{room_check}

pub room_passed : (marks queue room : ℕ) → room_check marks queue room ≡ Ok tt → (20000 ≤ marks) × (20000 ≤ queue) × (4096 ≤ room)
room_passed marks queue room e =
    let a = held_so (areas_fit marks queue) _ SmallArea e in
    let b = held_so (leb text_size room) (Ok tt) SmallText a.1 in
    let c = both_fit marks queue a.0 in
    (c.0, c.1, leb-true 4096 room b.0)
