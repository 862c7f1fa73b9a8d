-- The first line of what is printed: the line of counts, or that of a refusal. Document 01, "The listing".
use Rattle.std.specs.Prelude.{List, ◌++◌, ℕ, codes}
use Rattle.refusals.specs.Refusals.{number_of, detail_of}
use Rattle.refusals.specs.declared.Refusal.{Refusal}
use Rattle.text.specs.Bytes.{decimal, newline}

-- a refusal's number and detail
abbrev pub refused_line : ℕ → ℕ → List ℕ
refused_line number detail = (codes "refused " ++ decimal number) ++ (codes " at " ++ decimal detail) ++ newline

abbrev pub refusal_line : Refusal → List ℕ
refusal_line r = refused_line (number_of r) (detail_of r)

-- the counts: places, transitions, claims
abbrev pub counts_line : ℕ → ℕ → ℕ → List ℕ
counts_line n T claims = (codes "places " ++ decimal n) ++ (codes " transitions " ++ decimal T) ++ (codes " claims " ++ decimal claims) ++ newline
