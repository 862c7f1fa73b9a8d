-- What the calls answer for the net, the start and the target of a sheet: the sheet's refusal, then 12, then the numbers, sixteen of them and zero beyond place n.
use Rattle.std.specs.Prelude.{List, ℕ, length}
use Rattle.terms.specs.Limits.{among}
use Rattle.terms.specs.declared.Transition.{Transition}
use Rattle.refusals.specs.Refusals.{Check}
use Rattle.refusals.specs.declared.Refusal.TheVariants.{NotATransition}
use Rattle.nets.specs.Nets as nets
use Rattle.nets.specs.HalfSpaces.{sixteen}
use Rattle.format.specs.Read.{Read, ◌>>=◌, map_ok, need}
use Rattle.format.specs.Contents.{Contents}
use Rattle.reader.specs.Numbered.{transition_numbered}
use Rattle.reader.specs.Targets.{target_shown}
use Rattle.reader.specs.declared.Target.{Target}
use Rattle.sheet.specs.declared.Weights.{Weights}

-- whether transition t is there: the sheet's own refusal, then 12
abbrev pub transition_check : Read Contents → Transition → Check
transition_check y t = y >>= λ x. need (among t.0 (length x.setting.net.transitions)) (NotATransition t)

-- the weights of transition t
abbrev pub weights_shown : nets.Transition → Weights
weights_shown t = record { taken = sixteen 0 t.taken; put = sixteen 0 t.put }

unfoldable pub weights_of : Read Contents → Transition → Read Weights
weights_of y t = y >>= λ x. map_ok weights_shown (transition_numbered x t)

-- the start
abbrev pub start_of : Read Contents → Read (List ℕ)
start_of y = map_ok (λ x. sixteen 0 x.setting.start) y

-- kind and target
abbrev pub target_of : Read Contents → Read Target
target_of y = map_ok (λ x. target_shown x.setting.target) y
