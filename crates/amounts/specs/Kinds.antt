-- The kinds of a target: document 01, "What the sheet holds".
use Rattle.std.specs.Prelude.{cond, ℕ, eqb}
use Rattle.amounts.specs.declared.Kind.{Kind}
use Rattle.amounts.specs.declared.Kind.TheVariants.{Exact, AtOrAbove}

-- kind 0 is one exact marking; kind 1 is every marking at or above it
abbrev pub kind_of_byte : ℕ → Kind
kind_of_byte b = cond (eqb b 0) Exact AtOrAbove
