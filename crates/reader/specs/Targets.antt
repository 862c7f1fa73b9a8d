-- A target as sixteen numbers and a kind.
use Rattle.amounts.specs.declared.Kind.{Kind}
use Rattle.amounts.specs.declared.Kind.TheVariants.{Exact, AtOrAbove}
use Rattle.nets.specs.HalfSpaces.{sixteen}
use Rattle.nets.specs.Verdicts as verdicts
use Rattle.reader.specs.declared.Target.{Target}

abbrev pub kind_is : verdicts.Kind → Kind
kind_is verdicts.exact = Exact
kind_is verdicts.at_or_above = AtOrAbove

abbrev pub target_shown : verdicts.Target → Target
target_shown g = record { kind = kind_is g.kind; tokens = sixteen 0 g.tokens }
