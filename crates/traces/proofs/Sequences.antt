-- A fine list is a firing sequence of the net, and every firing sequence that stays within 65,535 and is no longer than 64 can be fired as a list.
use Rattle.std.specs.Prelude.{Ok}
use mathlib.Core.Path.{◌≡◌, refl, sym, ap, ◌∙◌, subst}
use mathlib.Core.List.{List, [], ◌∷◌}
use Prim.Native.Nat.{ℕ, ◌≤◌}
use lib.ListN.{length, take, drop}
use Rattle.terms.specs.Limits.{most_firings}
use Rattle.nets.specs.Nets as nets
use Rattle.nets.specs.Nets.{Ends}
use Rattle.format.specs.Contents.{Contents}
use Rattle.format.specs.Formed.{Formed}
use Rattle.firing.specs.Table.{StaysWithin}
use Rattle.walk.specs.Walk.{walked}
use Rattle.walk.specs.declared.Marking.{Marking}
use Rattle.walk.proofs.Walks.{numbers, walk_ends, walk_follows}
use Rattle.traces.specs.Traces.{Traced}
use Rattle.traces.specs.Traces.{list_of}
use Rattle.traces.proofs.Lists.{steps}
use Rattle.traces.proofs.Exactly.{fine_exactly, fine_walked}

same_numbers : (ts : List ℕ) → numbers (steps ts) ≡ ts
same_numbers [] = refl
same_numbers (t ∷ ts) = ap (λ (us : List ℕ). t ∷ us) (same_numbers ts)

-- a sound sheet's net
module _ (x : Contents) (f : Formed x) (list : List ℕ) (m : Marking) (long : length m.tokens ≡ 16) where
  abbrev net : nets.Net
  net = x.setting.net

  abbrev n : ℕ
  n = net.places

  abbrev after : List ℕ
  after = (list_of (Ok x) list m).marking.tokens

  led_to : (list_of (Ok x) list m).answer ≡ (Ok tt) → after ≡ (walked (Ok x) (steps list) m).tokens
  led_to e = ap (λ (a : Traced). a.marking.tokens) (fine_walked list m (Ok x) e)

  pub list_ends : (list_of (Ok x) list m).answer ≡ (Ok tt) → Ends net (take n m.tokens) list (take n after) × (drop n after ≡ drop n m.tokens)
  list_ends e =
      let (w, b) = walk_ends x f (steps list) m long ((fine_exactly list m (Ok x)).0 e).each_fine in
      (subst (λ z. Ends net (take n m.tokens) z (take n after)) (same_numbers list) (subst (λ (z : List ℕ). Ends net (take n m.tokens) (numbers (steps list)) (take n z)) (sym (led_to e)) w), ap (drop n) (led_to e) ∙ b)

  pub list_follows : (e : nets.Marking) → length list ≤ most_firings → Ends net (take n m.tokens) list e → StaysWithin net (take n m.tokens) list
      → ((list_of (Ok x) list m).answer ≡ (Ok tt)) × (take n after ≡ e)
  list_follows e few h l =
      let (a, b) = walk_follows x f (steps list) m e long (subst (λ z. Ends net (take n m.tokens) z e) (sym (same_numbers list)) h) (subst (λ z. StaysWithin net (take n m.tokens) z) (sym (same_numbers list)) l) in
      let g : (list_of (Ok x) list m).answer ≡ (Ok tt) = (fine_exactly list m (Ok x)).1 (record { contents = x; is_read = refl; few = few; each_fine = a }) in
      (g, ap (take n) (led_to g) ∙ b)
