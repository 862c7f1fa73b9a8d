-- What a sheet's answer says: sound with the contents that it encodes, or refused as it is read.
use Rattle.std.specs.Prelude.{◌≡◌, List, ℕ, Err, Ok}
use Rattle.format.specs.Read.{Read}
use Rattle.format.specs.Contents.{Contents}
use Rattle.format.specs.Reading.{reading}
use Rattle.format.specs.Formed.{Formed}
use Rattle.format.specs.Encoding.{encoded}

unfoldable pub Answers : List ℕ → Read Contents → Type 0
Answers s (Ok x) = Formed x × (s ≡ encoded x)
Answers s (Err r) = reading s ≡ Err r
