-- What a writer does to the area that it was lent.
use Rattle.std.specs.Prelude.{◌≡◌, List, ℕ, ◌+◌, ◌≤◌, length}
use Rattle.text.specs.declared.Writer.{Writer}
use Rattle.text.specs.Bytes.{Wrote}

-- the bytes bs were written behind what stood there, into the same area
pub record Puts (bs : List ℕ) (old new : Writer) : Type 0 where
  pub same_area : new.area.ghost_name ≡ old.area.ghost_name
  pub same_length : length new.area.now ≡ length old.area.now
  pub wrote : Wrote bs old.area.now old.len new.area.now new.len

-- n bytes more fit into the area
abbrev pub HasRoom : ℕ → Writer → Type 0
HasRoom n w = w.len + n ≤ length w.area.now
