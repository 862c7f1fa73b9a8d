-- What the calls answer for a claim: the sheet's refusal, then 11, then the claim.
use Rattle.terms.specs.declared.Claim.{Claim}
use Rattle.nets.specs.HalfSpaces.{HalfSpace}
use Rattle.format.specs.Read.{Read, ◌>>=◌}
use Rattle.format.specs.Checked.{checked}
use Rattle.format.specs.Contents.{Contents}
use Rattle.refusals.specs.Refusals.{Check}
use Rattle.reader.specs.Numbered.{claim_numbered}

unfoldable pub claim_check : Read Contents → Claim → Check
claim_check y i = y >>= λ x. checked (claim_numbered x i)

-- coefficients and constant of claim i
unfoldable pub half_space_of : Read Contents → Claim → Read HalfSpace
half_space_of y i = y >>= λ x. claim_numbered x i
