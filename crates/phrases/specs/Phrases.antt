-- What a claim's line is made of: document 01, "The listing". Fields are parted by one space.
use Rattle.std.specs.Prelude.{List, [], ◌∷◌, ◌++◌, ℕ, Option, None, Some, codes}
use Rattle.terms.specs.declared.Claim.{Claim}
use Rattle.text.specs.Bytes.{decimal}

-- the tokens of a marking, each behind a space
unfoldable pub tokens_text : List ℕ → List ℕ
tokens_text [] = []
tokens_text (m ∷ ms) = (codes " " ++ decimal m) ++ tokens_text ms

-- the lowest earlier twin, or nothing
abbrev pub twin_text : Option Claim → List ℕ
twin_text None = []
twin_text (Some claim) = codes " twin " ++ decimal claim.0
