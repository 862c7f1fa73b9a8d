-- Two listings of one sheet differ in the choice among bad markings alone: a claim has one verdict but for that, and one twin's number.
use Rattle.std.specs.Prelude.{Err, Ok}
use mathlib.Core.Path.{◌≡◌, refl, sym, ap, ap₂, ◌∙◌, subst}
use mathlib.Core.Bool.{Bool, true, false}
use mathlib.Core.List.{List, ◌++◌}
use Prim.Native.Nat.{ℕ, zero, suc, ◌≤◌}
use native.Mathlib.Omega.{arith}
use lib.Dec.{leb}
use lib.ListN.{length}
use Rattle.terms.specs.Limits.{text_size}
use Rattle.nets.specs.Verdicts.{Verdict, start_outside, target_inside, broken, proof, IsVerdict, SameBut}
use Rattle.nets.proofs.OneVerdict.{one_verdict}
use Rattle.format.specs.Read.{Read}
use Rattle.format.specs.Contents.{Contents, half_space, claim}
use Rattle.refusals.specs.Refusals.{Check}
use Rattle.twins.specs.Answers.{IsTwinNumber}
use Rattle.twins.proofs.OneAnswer.{one_number}
use Rattle.firstline.specs.FirstLine.{refused_line}
use Rattle.lines.specs.Lines.{claim_line}
use Rattle.entries.specs.Entries.{IsLine, AreLines, IsListing, counts_of_sheet}
use Rattle.listing.specs.Listed.{IsListed, Lists, IsRefusalText, RefusalWritten, room_check}
use Rattle.listing.specs.Alike.{LineAlike, LinesAlike, Alike, Unbroken, AnswersAlike, both_refused, both_listed}

module _ (x : Contents) where
  line_alike : (i : ℕ) (a b : List ℕ) → IsLine x i a → IsLine x i b → LineAlike i a b
  line_alike i a b p q =
      record {
        verdict = p.verdict;
        another = q.verdict;
        same = one_verdict x.setting (half_space (claim x i)) p.verdict q.verdict p.is_verdict q.is_verdict;
        twin = p.twin;
        numbered = λ j e. (subst (IsTwinNumber x i) e p.is_twin).some;
        is = p.is;
        other_is = q.is ∙ ap (claim_line i q.verdict) (one_number x i q.twin p.twin q.is_twin p.is_twin);
      }

  lines_alike : (i : ℕ) (t u : List ℕ) → AreLines x i t → AreLines x i u → LinesAlike i t u
  unfolding AreLines LinesAlike
  lines_alike zero t u a b = (a, b)
  lines_alike (suc i) t u a b = (a.0, a.1, b.0, b.1, lines_alike i a.0 b.0 a.2 b.2, line_alike (suc i) a.1 b.1 a.3 b.3, a.4, b.4)

  pub alike : (t u : List ℕ) → IsListing x t → IsListing x u → Alike x t u
  alike t u a b =
      record {
        lines = a.lines;
        other_lines = b.lines;
        alike = lines_alike (length x.claims) a.lines b.lines a.are b.are;
        is = a.is;
        other_is = b.is;
      }

  -- where no claim is broken nothing is left to choose
  same_verdict : (i : ℕ) → Unbroken x i → (v w : Verdict) → IsVerdict x.setting (half_space (claim x i)) v → SameBut v w → v ≡ w
  unfolding SameBut Unbroken
  same_verdict i none start_outside start_outside a s = refl
  same_verdict i none start_outside target_inside a s = absurd s
  same_verdict i none start_outside (broken t m) a s = absurd s
  same_verdict i none start_outside proof a s = absurd s
  same_verdict i none target_inside start_outside a s = absurd s
  same_verdict i none target_inside target_inside a s = refl
  same_verdict i none target_inside (broken t m) a s = absurd s
  same_verdict i none target_inside proof a s = absurd s
  same_verdict i none (broken t m) w a s = absurd (none t m a)
  same_verdict i none proof start_outside a s = absurd s
  same_verdict i none proof target_inside a s = absurd s
  same_verdict i none proof (broken t m) a s = absurd s
  same_verdict i none proof proof a s = refl

  line_equal : (i : ℕ) (a b : List ℕ) → Unbroken x i → IsLine x i a → IsLine x i b → a ≡ b
  unfolding line_alike
  line_equal i a b none p q =
      let l = line_alike i a b p q in
      l.is ∙ ap (λ (v : Verdict). claim_line i v l.twin) (same_verdict i none p.verdict q.verdict p.is_verdict l.same) ∙ sym l.other_is

  lines_equal : (i : ℕ) → ((k : ℕ) → 1 ≤ k → k ≤ i → Unbroken x k) → (t u : List ℕ) → AreLines x i t → AreLines x i u → t ≡ u
  unfolding AreLines
  lines_equal zero none t u a b = a ∙ sym b
  lines_equal (suc i) none t u a b =
      let before = lines_equal i (λ k l m. none k l (omega arith)) a.0 b.0 a.2 b.2 in
      let line = line_equal (suc i) a.1 b.1 (none (suc i) (omega arith) (omega arith)) a.3 b.3 in
      a.4 ∙ ap₂ (λ (f g : List ℕ). f ++ g) before line ∙ sym b.4

  pub alike_equal : ((k : ℕ) → 1 ≤ k → k ≤ length x.claims → Unbroken x k) → (t u : List ℕ) → IsListing x t → IsListing x u → t ≡ u
  alike_equal none t u a b =
      a.is ∙ ap (λ (ls : List ℕ). counts_of_sheet x ++ ls) (lines_equal (length x.claims) none a.lines b.lines a.are b.are) ∙ sym b.is

-- two answers to one call
lists_alike : (k : Check) (x : Contents) (old new new_too : List ℕ) (r s : Read ℕ) → Lists k x old new r → Lists k x old new_too s → AnswersAlike (Ok x) old new new_too r s
lists_alike (Ok u) x old new new_too r s a b = both_listed x refl a.0 b.0 (alike x a.0 b.0 a.1 b.1) a.2 b.2 a.3 b.3
lists_alike (Err q) x old new new_too r s a b = both_refused q a.0 b.0 a.1 b.1

pub answers_alike : (y : Read Contents) (marks queue : ℕ) (old new new_too : List ℕ) (r s : Read ℕ) → IsListed y marks queue old new r → IsListed y marks queue old new_too s → AnswersAlike y old new new_too r s
answers_alike (Err q) marks queue old new new_too r s a b = both_refused q a.0 b.0 a.1 b.1
answers_alike (Ok x) marks queue old new new_too r s a b = lists_alike (room_check marks queue (length old)) x old new new_too r s a b

-- a refusal's line leaves nothing to choose
written_once : (t : Bool) (line old new new_too : List ℕ) (r s : Read ℕ) → RefusalWritten t line old new r → RefusalWritten t line old new_too s → (r ≡ s) × (new ≡ new_too)
written_once true line old new new_too r s a b = (a.0 ∙ sym b.0, a.1 ∙ sym b.1)
written_once false line old new new_too r s a b = (a.0 ∙ sym b.0, a.1 ∙ sym b.1)

pub one_refusal_text : (number detail : ℕ) (old new new_too : List ℕ) (r s : Read ℕ) → IsRefusalText number detail old new r → IsRefusalText number detail old new_too s → (r ≡ s) × (new ≡ new_too)
one_refusal_text number detail old new new_too r s a b = written_once (leb text_size (length old)) (refused_line number detail) old new new_too r s a b
