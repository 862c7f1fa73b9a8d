-- What the check of a part answers, over what the part is read as: what it holds is dropped.
use Rattle.std.specs.Prelude.{Err, Ok}
use Rattle.format.specs.Read.{Read}
use Rattle.refusals.specs.Refusals.{Check}

-- fine, or the refusal
abbrev pub checked : {A : Type 0} → Read A → Check
checked (Ok a) = (Ok tt)
checked (Err r) = Err r
