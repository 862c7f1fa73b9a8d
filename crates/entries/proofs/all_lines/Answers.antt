-- `all_lines` meets its contract: before a claim the lines of the claims before it stand behind the line of counts, in at most 125 bytes each.
use mathlib.Core.Path.{◌≡◌, refl, sym, ap, subst}
use mathlib.Core.List.{List, [], ◌++◌}
use Prim.Native.Nat.{ℕ, ◌+◌, ◌-◌, ◌≤◌}
use native.Mathlib.Omega.{arith}
use lib.Chars.{codes}
use lib.ListN.{length, length-append}
use Rattle.format.specs.Contents.{Contents}
use Rattle.format.specs.Formed.{Formed}
use Rattle.reader.specs.declared.Counts.{Counts}
use Rattle.text.specs.Bytes.{decimal, newline}
use Rattle.text.specs.Writing.{Puts}
use Rattle.text.specs.declared.Writer.{Writer}
use Rattle.text.proofs.Writing.{puts_then, puts_nothing, wrote_all}
use Rattle.phrases.proofs.Texts.{two_digits}
use Rattle.firstline.specs.FirstLine.{counts_line}
use Rattle.entries.specs.Entries.{AreLines, IsListing, counts_of_sheet}
use Rattle.entries.proofs.Lined.{limits, lines_none, one_more}
use Rattle.entries.proofs.all_lines.Goals as goal
use Rattle.entries.proofs.all_lines.Goals.{else-loop-number-test, then-loop-number-test+else-number-number-end}

-- the line of counts has at most 35 bytes
short : (x : Contents) → Formed x → length (counts_of_sheet x) ≤ 35
short x f =
    let b = limits x f in
    let n = decimal x.setting.net.places in
    let t = decimal (length x.setting.net.transitions) in
    let m = decimal (length x.claims) in
    omega (arith, two_digits x.setting.net.places (omega (arith, b.0)), two_digits (length x.setting.net.transitions) (omega (arith, b.1)), two_digits (length x.claims) (omega (arith, b.2)), length-append (codes "places " ++ n ++ (codes " transitions " ++ t) ++ (codes " claims " ++ m)) newline, length-append (codes "places " ++ n ++ (codes " transitions " ++ t)) (codes " claims " ++ m), length-append (codes "places " ++ n) (codes " transitions " ++ t))

pub put_counts-requires : goal.put_counts-requires
put_counts-requires c =
    let e = c.new-writer.ensures.empty in
    let x = c.args.sheet.now in
    let line = ap (λ (k : Counts). length (counts_line k.places k.transitions k.claims)) c.counts-counts.ensures.value in
    omega (arith, line, short x c.counts-counts.ensures.formed, c.requires, ap length e.0, e.1)

pub loop-number-init : goal.loop-number-init
loop-number-init c = (omega arith, omega arith, omega arith, ([], lines_none c.args.sheet.now, puts_nothing c.put_counts.new.writer))

pub put_line-requires : goal.put_line-requires
put_line-requires c =
    let l = c.loop-number in
    let x = c.args.sheet.now in
    let e = c.new-writer.ensures.empty in
    let k = c.counts-counts.ensures in
    let line = ap (λ (k : Counts). length (counts_line k.places k.transitions k.claims)) k.value in
    let few = ap (λ (k : Counts). k.claims) k.value in
    let p = c.put_counts.ensures in
    let q = l.invariant.3.2 in
    let b = limits x k.formed in
    record { known = (l.invariant.0, omega (arith, c.loop-number-test.true, few)); room = omega (arith, line, short x k.formed, c.requires, l.invariant.2, c.loop-number-test.true, few, ap length e.0, e.1, p.same_length, p.wrote.ends, q.same_length, b.2) }

pub loop-number-preserved : goal.loop-number-preserved
loop-number-preserved c =
    let l = c.loop-number in
    let w = c.put_line in
    let x = c.args.sheet.now in
    let few = ap (λ (k : Counts). k.claims) c.counts-counts.ensures.value in
    let same : l.number ≡ l.number + 1 - 1 = omega arith in (
      omega arith,
      omega (arith, c.loop-number-test.true, few),
      omega (arith, l.invariant.0, l.invariant.2, w.ensures.most),
      subst (λ (n : ℕ). (bs : List ℕ) × AreLines x n bs × Puts bs c.put_counts.new.writer w.new.writer) same (one_more x l.number c.put_counts.new.writer l.writer w.new.writer l.invariant.0 l.invariant.3 w.ensures.line),
    )

pub returns : goal.returns
returns c =
    let x = c.args.sheet.now in
    let a = c.args in
    let l = c.loop-number in
    let f = c.put_counts in
    let value = c.counts-counts.ensures.value in
    let few = ap (λ (k : Counts). k.claims) value in
    let written : ℕ → Writer → Type 0 = λ n w. (bs : List ℕ) × AreLines x n bs × Puts bs f.new.writer w in
    let none_left : l.number ≡ length x.claims + 1 → l.number - 1 ≡ length x.claims = λ e. omega (arith, e) in
    let p : written (length x.claims) c.loop-number-test.writer =
    elim c.loop-number-test.branch [
      | else-loop-number-test w ↦ subst (written (length x.claims)) (sym w.writer-is) (subst (λ (n : ℕ). written n l.writer) (none_left (omega (arith, w.loop-number-test.false, few, l.invariant.1))) l.invariant.3)
      | then-loop-number-test+else-number-number-end w ↦ subst (written (length x.claims)) (sym w.writer-is) (subst (λ (n : ℕ). written n w.put_line.new.writer) (omega (arith, few)) (one_more x l.number f.new.writer l.writer w.put_line.new.writer l.invariant.0 l.invariant.3 w.put_line.ensures.line))
    ] in
    let bs = counts_of_sheet x ++ p.0 in
    let told : IsListing x bs = record { lines = p.0; are = p.1; is = refl } in
    let first : Puts (counts_of_sheet x) c.new-writer.result f.new.writer = subst (λ (k : Counts). Puts (counts_line k.places k.transitions k.claims) c.new-writer.result f.new.writer) value f.ensures in
    let put = puts_then (counts_of_sheet x) p.0 c.new-writer.result f.new.writer c.loop-number-test.writer first p.2 in
    let wrote = wrote_all bs a.text.now c.text-1.given.0 c.new-arg-1.given c.new-writer.result c.loop-number-test.writer c.len.result c.new-writer.ensures.same_area c.new-writer.ensures.empty put c.len.ensures c.text-1.given.1.1 in
    (bs, told, wrote)
