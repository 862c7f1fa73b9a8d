-- Pieces written one behind the other are the pieces joined.
use mathlib.Core.Path.{◌≡◌, refl, sym, ap, ap₂, ◌∙◌, subst}
use mathlib.Core.List.{List, [], ◌++◌, append_assoc, append-nil}
use Prim.Native.Nat.{ℕ, ◌+◌, ◌-◌, ◌≤◌}
use native.Mathlib.Omega.{arith}
use lib.ListN.{length, take, drop, length-append, take-append-drop}
use lib.Seq.{drop-drop}
use borrow.Rule.Slice.PartMut.{put_mid}
use Rattle.std.proofs.lemmas.Slice.{take-put_mid, drop-put_mid}
use Rattle.std.specs.Borrow.{GName}
use Rattle.text.specs.Bytes.{Wrote}
use Rattle.text.specs.declared.Writer.{Writer}
use Rattle.text.specs.Writing.{Puts}

later : (m n : ℕ) → m ≤ n → (new old : List ℕ) → drop m new ≡ drop m old → drop n new ≡ drop n old
later m n l new old e =
    let k : m + (n - m) ≡ n = omega arith in
    ap (λ (j : ℕ). drop j new) (sym k) ∙ sym (drop-drop (n - m) m new) ∙ ap (drop (n - m)) e ∙ drop-drop (n - m) m old ∙ ap (λ (j : ℕ). drop j old) k

pub wrote_then : (a b old mid new : List ℕ) (at m end : ℕ) → Wrote a old at mid m → Wrote b mid m new end → Wrote (a ++ b) old at new end
wrote_then a b old mid new at m end p q =
    record {
      ends = omega (arith, p.ends, q.ends, length-append a b);
      is = q.is ∙ ap (λ (l : List ℕ). l ++ b) p.is ∙ append_assoc (take at old) a b;
      behind = q.behind ∙ later m end (omega (arith, q.ends)) mid old p.behind;
    }

pub wrote_nothing : (old : List ℕ) (at : ℕ) → Wrote [] old at old at
wrote_nothing old at = record { ends = omega arith; is = sym (append-nil (take at old)); behind = refl }

-- a part of the area that was copied over
pub wrote_part : (bs old part : List ℕ) (at : ℕ) → at + length bs ≤ length old → part ≡ bs → Wrote bs old at (put_mid at (at + length bs - at) old part) (at + length bs)
wrote_part bs old part at l e = record { ends = refl; is = take-put_mid at (at + length bs - at) old part (at + length bs) (ap (λ (xs : List ℕ). at + length xs) (sym e)) (omega arith) ∙ ap (λ (xs : List ℕ). take at old ++ xs) e; behind = drop-put_mid at (at + length bs - at) old part (at + length bs) (omega arith) (omega arith) (ap length e ∙ omega arith) }

pub puts_then : (a b : List ℕ) (x y z : Writer) → Puts a x y → Puts b y z → Puts (a ++ b) x z
puts_then a b x y z p q =
    record {
      same_area = q.same_area ∙ p.same_area;
      same_length = q.same_length ∙ p.same_length;
      wrote = wrote_then a b x.area.now y.area.now z.area.now x.len y.len z.len p.wrote q.wrote;
    }

pub puts_nothing : (x : Writer) → Puts [] x x
puts_nothing x = record { same_area = refl; same_length = refl; wrote = wrote_nothing x.area.now x.len }

-- what the lender of an area finds in it once its writer is gone: `same` is what is known of the area under the writer's last name for it
pub wrote_all : (bs old new : List ℕ) (lent : GName) (x y : Writer) (end : ℕ) → x.area.ghost_name ≡ lent → (x.area.now ≡ old) × (x.len ≡ 0) → Puts bs x y → end ≡ y.len → (lent ≡ y.area.ghost_name → new ≡ y.area.now) → Wrote bs old 0 new end
wrote_all bs old new lent x y end named empty p at same =
    let w : Wrote bs x.area.now x.len y.area.now y.len = p.wrote in
    let v : Wrote bs old 0 y.area.now y.len = subst (λ (xs : List ℕ). Wrote bs xs 0 y.area.now y.len) empty.0 (subst (λ (n : ℕ). Wrote bs x.area.now n y.area.now y.len) empty.1 w) in
    let u : Wrote bs old 0 new y.len = subst (λ (xs : List ℕ). Wrote bs old 0 xs y.len) (sym (same (sym named ∙ sym p.same_area))) v in
    subst (λ (n : ℕ). Wrote bs old 0 new n) (sym at) u

-- a text that was written from the start on: its length, and what stands behind it
pub length_written : (bs old new : List ℕ) (end : ℕ) → Wrote bs old 0 new end → end ≡ length bs
length_written bs old new end w = omega (arith, w.ends)

pub whole : (bs old new : List ℕ) (end : ℕ) → Wrote bs old 0 new end → new ≡ bs ++ drop (length bs) old
whole bs old new end w = sym (take-append-drop end new) ∙ ap₂ (λ (a b : List ℕ). a ++ b) w.is (w.behind ∙ ap (λ (n : ℕ). drop n old) (length_written bs old new end w))
