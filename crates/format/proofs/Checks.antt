-- What a check's answer tells of the part that it checked: it is fine exactly where the part is sound, and it passes a refusal on.
use Rattle.std.specs.Prelude.{Err, Ok}
use mathlib.Core.Path.{◌≡◌, refl, sym, ap, ◌∙◌}
use Rattle.refusals.specs.declared.Refusal.{Refusal}
use Rattle.format.specs.Read.{Read, ◌>>=◌, ◌>>◌}
use Rattle.format.proofs.Parts.{never_both}
use Rattle.format.specs.Checked.{checked}
use Rattle.refusals.specs.Refusals.{Check}

pub fine : {A : Type 0} (x : Read A) → checked x ≡ (Ok tt) → (a : A) × (x ≡ Ok a)
fine (Ok a) e = (a, refl)
fine (Err r) e = absurd (never_both r tt e)

pub turned : {A : Type 0} (x : Read A) {r : Refusal} → checked x ≡ Err r → x ≡ Err r
turned (Ok a) {r = r} e = absurd (never_both r tt (sym e))
turned (Err q) e = cc

-- one part after another: a refusal stops there, and behind a fine part the rest decides
module _ {A B : Type 0} (x : Read A) {k : Check} (is : k ≡ checked x) where
  pub stop_then : {r : Refusal} (y : Read B) → k ≡ Err r → k ≡ checked (x >> y)
  stop_then y e = e ∙ ap (λ (x : Read A). checked (x >> y)) (sym (turned x (sym is ∙ e)))

  pub stop_bind : {r : Refusal} (f : A → Read B) → k ≡ Err r → k ≡ checked (x >>= f)
  stop_bind f e = e ∙ ap (λ (x : Read A). checked (x >>= f)) (sym (turned x (sym is ∙ e)))

  pub go_then : (y : Read B) → k ≡ (Ok tt) → (x >> y) ≡ y
  go_then y e = ap (λ (x : Read A). x >> y) (fine x (sym is ∙ e)).1

  pub go_bind : (f : A → Read B) (e : k ≡ (Ok tt)) → (x >>= f) ≡ f (fine x (sym is ∙ e)).0
  go_bind f e = ap (λ (x : Read A). x >>= f) (fine x (sym is ∙ e)).1

-- a value that follows changes no answer
pub then_sound : {A B : Type 0} (x : Read A) (b : B) → checked (x >> Ok b) ≡ checked x
then_sound (Ok a) b = refl
then_sound (Err r) b = refl

pub map_sound : {A B : Type 0} (x : Read A) (f : A → B) → checked (x >>= λ a. Ok (f a)) ≡ checked x
map_sound (Ok a) f = refl
map_sound (Err r) f = refl
