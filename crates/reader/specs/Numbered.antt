-- What a sheet has under a number: claims and transitions are numbered from 1.
use Rattle.std.specs.Prelude.{length, Ok, Err}
use Rattle.terms.specs.Limits.{among}
use Rattle.terms.specs.declared.Claim as terms
use Rattle.terms.specs.declared.Transition as numbers
use Rattle.refusals.specs.declared.Refusal.TheVariants.{NotAClaim, NotATransition}
use Rattle.nets.specs.Nets.{Transition, transition}
use Rattle.nets.specs.HalfSpaces.{HalfSpace}
use Rattle.format.specs.Read.{Read, choose}
use Rattle.format.specs.Contents.{Contents, half_space, claim}

-- 11: claim number 0 or above the count
abbrev pub claim_numbered : Contents → terms.Claim → Read HalfSpace
claim_numbered x i = choose (among i.0 (length x.claims)) (Ok (half_space (claim x i.0))) (Err (NotAClaim i))

-- 12: transition number 0 or above T
abbrev pub transition_numbered : Contents → numbers.Transition → Read Transition
transition_numbered x t = choose (among t.0 (length x.setting.net.transitions)) (Ok (transition x.setting.net t.0)) (Err (NotATransition t))
