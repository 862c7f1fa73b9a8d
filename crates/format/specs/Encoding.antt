-- The bytes of a sheet with given contents: document 01, "What the sheet holds".
use Rattle.std.specs.Prelude.{List, [], ◌∷◌, ◌++◌, map, ℕ, ◌-◌, ◌/◌, ◌%◌, length, take, ℤ, pos, negsuc}
use Rattle.nets.specs.Nets.{Marking, Transition}
use Rattle.nets.specs.Verdicts.{Kind, exact, at_or_above, Setting, Target}
use Rattle.format.specs.Contents.{Claim, half_space, Contents}

-- each one's bytes, one after the other
unfoldable pub joined : {A : Type 0} → (A → List ℕ) → List A → List ℕ
joined f [] = []
joined f (x ∷ xs) = f x ++ joined f xs

-- numbers of two bytes are little-endian
abbrev pub word_bytes : ℕ → List ℕ
word_bytes w = (w % 256) ∷ (w / 256) ∷ []

-- two's complement: the number itself, and below zero the number plus 256, or plus 65,536 in two bytes
abbrev pub signed_byte : ℤ → ℕ
signed_byte (pos k) = k
signed_byte (negsuc k) = 255 - k

abbrev pub signed_bytes : ℤ → List ℕ
signed_bytes (pos c) = word_bytes c
signed_bytes (negsuc c) = word_bytes (65535 - c)

abbrev pub kind_byte : Kind → ℕ
kind_byte exact = 0
kind_byte at_or_above = 1

abbrev pub transition_bytes : Transition → List ℕ
transition_bytes t = 0x54 ∷ 0x52 ∷ t.taken ++ t.put

abbrev pub start_bytes : Marking → List ℕ
start_bytes m = 0x4D ∷ 0x4B ∷ joined word_bytes m

abbrev pub target_bytes : Target → List ℕ
target_bytes g = 0x54 ∷ 0x47 ∷ kind_byte g.kind ∷ joined word_bytes g.tokens

abbrev pub claim_bytes : Claim → List ℕ
claim_bytes i = 0x48 ∷ 0x53 ∷ map signed_byte (half_space i).coefficients ++ signed_bytes (half_space i).constant

unfoldable pub setting_bytes : Setting → List ℕ
setting_bytes q = 0x4E ∷ 0x50 ∷ q.net.places ∷ length q.net.transitions ∷ joined transition_bytes q.net.transitions ++ start_bytes q.start ++ target_bytes q.target

unfoldable pub encoded : Contents → List ℕ
encoded x = setting_bytes x.setting ++ joined claim_bytes x.claims

-- where the record of claim i starts: behind the setting and the claims before it
unfoldable pub record_from : Contents → ℕ → ℕ
record_from x i = length (setting_bytes x.setting ++ joined claim_bytes (take (i - 1) x.claims))
