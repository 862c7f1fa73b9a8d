-- `put_line` meets its contract: the claim's verdict and its twin, in the words of the definition.
use mathlib.Core.Path.{refl, sym, ap, ◌∙◌, subst}
use mathlib.Core.List.{List, ◌++◌}
use Prim.Native.Nat.{ℕ}
use native.Mathlib.Omega.{arith}
use lib.Chars.{codes}
use Rattle.nets.specs.HalfSpaces.{HalfSpace}
use Rattle.format.specs.Contents.{half_space, claim}
use Rattle.reader.specs.declared.Counts.{Counts}
use Rattle.text.specs.Bytes.{decimal, newline}
use Rattle.text.specs.Writing.{Puts}
use Rattle.judged.specs.Judges.{Judges}
use Rattle.judged.specs.declared.Verdict.{Verdict}
use Rattle.phrases.specs.Phrases.{twin_text}
use Rattle.lines.specs.Lines.{answer_text, claim_line, Brief}
use Rattle.entries.specs.Entries.{IsLine}
use Rattle.entries.proofs.Lined.{limits, twin_small, brief, same_text}
use Rattle.entries.proofs.put_line.Goals as goal
use Rattle.entries.proofs.put_line.Goals.{After-counts}

judged : (c : After-counts) → Judges c.args.sheet.now.setting (half_space (claim c.args.sheet.now c.args.number)) c.judge-verdict.result
judged c = subst (λ (h : HalfSpace). Judges c.args.sheet.now.setting h c.judge-verdict.result) c.nth_half_space.ensures.value c.judge-verdict.ensures

pub put_claim-requires : goal.put_claim-requires
put_claim-requires c =
    let x = c.args.sheet.now in
    let f = c.counts.ensures.formed in
    let few = limits x f in
    let places = ap (λ (k : Counts). k.places) c.counts.ensures.value in
    let r = judged c in
    record { brief = (omega (arith, places, few.0), omega (arith, few.2, c.requires.known.1), subst Brief (sym r.2) (brief x f _ r.0 r.1), twin_small x f c.args.number c.first_twin-twin.result c.requires.known.1 c.first_twin-twin.ensures); room = c.requires.room }

pub returns-clause-line : goal.returns-clause-line
returns-clause-line c =
    let x = c.args.sheet.now in
    let i = c.args.number in
    let t = c.first_twin-twin in
    let r = judged (goal.at.returns-clause-line c).After-counts in
    let words = ap (λ (k : Counts). answer_text c.judge-verdict.result k.places) c.counts.ensures.value ∙ ap (λ (v : Verdict). answer_text v x.setting.net.places) r.2 ∙ same_text x c.counts.ensures.formed _ r.0 r.1 in
    let is = ap (λ (u : List ℕ). (codes "claim " ++ decimal i) ++ codes " " ++ u ++ twin_text t.result ++ newline) words in
    let told : IsLine x i (claim_line i r.0 t.result) = record { verdict = r.0; is_verdict = r.1; twin = t.result; is_twin = t.ensures; is = refl } in
    (claim_line i r.0 t.result, told, subst (λ (bs : List ℕ). Puts bs c.args.writer.now c.put_claim.new.writer) is c.put_claim.ensures.0)
