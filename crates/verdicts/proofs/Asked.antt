-- Where nothing is refused, what is judged is what the sheet has under the claim's number.
use Rattle.std.proofs.Common.{◌≡◌, refl, sym, List, ℕ, ◌++◌, drop, replicate, true, Ok}
use Rattle.terms.specs.Limits.{areas_fit}
use Rattle.terms.specs.declared.Claim.{Claim}
use Rattle.nets.specs.HalfSpaces.{HalfSpace}
use Rattle.format.specs.Read.{Read}
use Rattle.format.specs.Contents.{Contents}
use Rattle.judged.specs.declared.Verdict.{Verdict}
use Rattle.judged.specs.Judges.{Judges}
use Rattle.pairs.specs.Pairs.{area_after}
use Rattle.reader.specs.Numbered.{claim_numbered}
use Rattle.verdicts.specs.Judged.{verdict_check, IsJudged}

module _ (i : Claim) (marks queue : ℕ) (y : Read Contents) (x : Contents) (h : HalfSpace) (a : Ok x ≡ y) (b : Ok h ≡ claim_numbered x i) (fit : areas_fit marks queue ≡ true) where
  pub judged_so : (v : Verdict) → Judges x.setting h v → IsJudged y i marks queue (Ok v)
  judged_so v j = rw (sym a, sym b, fit) j

  pub wiped_so : (part old : List ℕ) → part ≡ replicate 20000 0 → part ++ drop 20000 old ≡ area_after (verdict_check y i marks queue) old
  wiped_so part old e = rw (sym a, sym b, fit, e) refl
