-- Where the contents of a sound sheet stand: records of one kind follow one another, so the one with number i stands i sizes behind the first, by induction.
use Rattle.std.specs.Prelude.{Ok}
use mathlib.Core.Path.{◌≡◌, refl, sym, ap, ◌∙◌, subst}
use mathlib.Core.Bool.{true}
use mathlib.Core.Logic.{⊎_elim}
use mathlib.Core.List.{List, [], ◌∷◌}
use Prim.Native.Nat.{ℕ, zero, suc, ◌+◌, ◌*◌, ◌≤◌, ◌<◌}
use native.Mathlib.Nat.{suc-mul}
use native.Mathlib.Omega.{arith}
use lib.Dec.{leb}
use lib.ListN.{length, get_or}
use borrow.Author.Tests.{leb-true, leb-false}
use Rattle.terms.specs.Limits.{most_claims}
use Rattle.nets.specs.Nets.{Transition}
use Rattle.nets.specs.Verdicts.{Setting}
use Rattle.format.specs.Contents.{Claim, Contents}
use Rattle.format.specs.Reading.{byte, words, transition_size, claim_size, Size, size_of, head_of, transition_in, transitions_at, target_in, claim_in, claim_due, claims_at, transitions_from, start_from, target_from, claims_from, setting_of, front_of, claims_of, reading}
use Rattle.format.proofs.Parts.{parts, then_first, choose_either}
use Rattle.format.proofs.Sound.{head_sound, transition-sound, start_sound, target_sound, due_sound}

-- the one with number i stands i sizes behind the first
abbrev pub Stand : {A : Type 0} → (ℕ → A) → ℕ → ℕ → List A → Type 0
Stand {A} held at size xs = (d : A) (i : ℕ) → i < length xs → get_or xs i d ≡ held (at + i * size)

pub stand-cons : {A : Type 0} (held : ℕ → A) (at size : ℕ) (x : A) (xs : List A) → x ≡ held at → Stand held (at + size) size xs → Stand held at size (x ∷ xs)
stand-cons held at size x xs e all d zero h = e ∙ ap held (omega arith)
stand-cons held at size x xs e all d (suc i) h = all d i (omega arith) ∙ ap held (omega (arith, suc-mul i size))

-- TR
pub record TransitionsSound (s : List ℕ) (n at k : ℕ) (ts : List Transition) : Type 0 where
  pub count : length ts ≡ k
  pub whole : at ≤ length s → at + k * transition_size n ≤ length s
  pub each : (d : Transition) (i : ℕ) → i < k → get_or ts i d ≡ transition_in s n (at + i * transition_size n)

pub transitions_sound : (s : List ℕ) (n at k : ℕ) (ts : List Transition) → transitions_at s n at k ≡ Ok ts → TransitionsSound s n at k ts
unfolding transitions_at
transitions_sound s n at zero ts e =
    let p : [] ≡ ts = cc in
    subst (TransitionsSound s n at 0) p (record { count = refl; whole = omega arith; each = λ d i h. absurd (omega arith) })
transitions_sound s n at (suc k) ts e =
    let (t, e₁, (us, e₂, all)) = simp parts at e in
    let (here, whole) = transition-sound s n at t e₁ in
    let rest = transitions_sound s n (at + transition_size n) k us e₂ in
    let p : t ∷ us ≡ ts = cc in
    subst (TransitionsSound s n at (suc k)) p (record {
      count = omega arith;
      whole = λ h. omega (arith, rest.whole whole, suc-mul k (transition_size n));
      each = λ d i h. stand-cons (transition_in s n) at (transition_size n) t us here (λ d j l. rest.each d j (omega arith)) d i (omega arith);
    })

-- HS
pub record ClaimsSound (s : List ℕ) (n at more : ℕ) (is : List Claim) : Type 0 where
  pub most : length is ≤ more
  pub whole : at ≤ length s → at + length is * claim_size n ≡ length s
  pub each : Stand (claim_in s n) at (claim_size n) is

pub claims_done : (s : List ℕ) (n at more : ℕ) (is : List Claim) → leb (length s) at ≡ true → [] ≡ is → ClaimsSound s n at more is
claims_done s n at more is e p =
    let done : length s ≤ at = leb-true (length s) at e in
    subst (ClaimsSound s n at more) p (record { most = omega arith; whole = omega arith; each = λ d i h. absurd (omega arith) })

pub claims_sound : (s : List ℕ) (n at more : ℕ) (is : List Claim) → claims_at s n at more ≡ Ok is → ClaimsSound s n at more is
unfolding claims_at
claims_sound s n at zero is e =
    ⊎_elim
    (λ done. claims_done s n at 0 is done.0 (cc))
    (λ due.
    let (i, e₁) = then_first (claim_due s n at 0) (Ok []) is due.1 in
    absurd (omega (arith, (due_sound s n at 0 i e₁).2)))
    (choose_either _ _ _ _ e)
claims_sound s n at (suc more) is e =
    ⊎_elim
    (λ done. claims_done s n at (suc more) is done.0 (cc))
    (λ due.
    let (i, e₁, (js, e₂, all)) = simp parts at due.1 in
    let (here, whole, some) = due_sound s n at (suc more) i e₁ in
    let rest = claims_sound s n (at + claim_size n) more js e₂ in
    let p : i ∷ js ≡ is = cc in
    subst (ClaimsSound s n at (suc more)) p (record {
      most = omega arith;
      whole = λ h. omega (arith, rest.whole whole, suc-mul (length js) (claim_size n));
      each = stand-cons (claim_in s n) at (claim_size n) i js here rest.each;
    }))
    (choose_either _ _ _ _ e)

-- TR to TG
pub record SettingSound (s : List ℕ) (z : Size) (q : Setting) : Type 0 where
  pub places : q.net.places ≡ z.n
  pub count : length q.net.transitions ≡ z.T
  pub transitions : (d : Transition) (i : ℕ) → i < z.T → get_or q.net.transitions i d ≡ transition_in s z.n (transitions_from + i * transition_size z.n)
  pub start : q.start ≡ words s (start_from z + 2) z.n
  pub target : q.target ≡ target_in s z.n (target_from z)
  pub whole : claims_from z ≤ length s

pub setting-sound : (s : List ℕ) (z : Size) (q : Setting) → setting_of s z ≡ Ok q → SettingSound s z q
unfolding setting_of
setting-sound s z q e =
    let (ts, e₁, (m, e₂, (g, e₃, here))) = simp parts at e in
    let all = transitions_sound s z.n transitions_from z.T ts e₁ in
    let (target, whole) = target_sound s z.n (target_from z) g e₃ in
    let p : record { net = record { places = z.n; transitions = ts }; start = m; target = g } ≡ q = cc in
    subst (SettingSound s z) p (record {
      places = refl;
      count = all.count;
      transitions = all.each;
      start = (start_sound s z.n (start_from z) m e₂).0;
      target = target;
      whole = whole;
    })

-- n and T as they stand in the sheet
abbrev pub size_in : List ℕ → Size
size_in s = size_of (byte s 2) (byte s 3)

pub front_sound : (s : List ℕ) (q : Setting) → front_of s ≡ Ok q → (head_of s ≡ Ok (size_in s)) × (setting_of s (size_in s) ≡ Ok q) × (claims_from (size_in s) ≤ length s)
unfolding front_of
front_sound s q e =
    let (z, e₁, f₁) = simp parts at e in
    let p : z ≡ size_in s = (head_sound s z e₁).size in
    let f : setting_of s (size_in s) ≡ Ok q = ap (setting_of s) (sym p) ∙ f₁ in
    (e₁ ∙ ap Ok p, f, (setting-sound s (size_in s) q f).whole)

-- one claim or more
pub some_left : (at k size end : ℕ) → at + k * size ≡ end → at < end → 1 ≤ k
some_left at zero size end e h = absurd (omega arith)
some_left at (suc k) size end e h = omega arith

pub claims_of-sound : (s : List ℕ) (z : Size) (is : List Claim) → claims_of s z ≡ Ok is → (claims_from z < length s) × ClaimsSound s z.n (claims_from z) most_claims is
unfolding claims_of
claims_of-sound s z is e =
    ⊎_elim
    (λ no_byte. absurd (let z : ◌≡◌ {A = ℕ} 0 1 = cc no_byte.1 in omega arith))
    (λ left. (leb-false (length s) (claims_from z) left.0, claims_sound s z.n (claims_from z) most_claims is left.1))
    (choose_either _ _ _ _ e)

-- the sheet
pub record PartsSound (s : List ℕ) (x : Contents) : Type 0 where
  pub head : head_of s ≡ Ok (size_in s)
  pub setting : setting_of s (size_in s) ≡ Ok x.setting
  pub claims : claims_of s (size_in s) ≡ Ok x.claims

pub parts_sound : (s : List ℕ) (x : Contents) → reading s ≡ Ok x → PartsSound s x
unfolding reading
parts_sound s x e =
    let (z, e₁, (q, e₂, (is, e₃, all))) = simp parts at e in
    let p : z ≡ size_in s = (head_sound s z e₁).size in
    let r : record { setting = q; claims = is } ≡ x = cc in
    subst (PartsSound s) r (record { head = e₁ ∙ ap Ok p; setting = ap (setting_of s) (sym p) ∙ e₂; claims = ap (claims_of s) (sym p) ∙ e₃ })

pub record Held (s : List ℕ) (x : Contents) : Type 0 where
  pub places : x.setting.net.places ≡ (size_in s).n
  pub transitions : length x.setting.net.transitions ≡ (size_in s).T
  pub some_place : 1 ≤ (size_in s).n
  pub most_places : (size_in s).n ≤ 16
  pub most_transitions : (size_in s).T ≤ 64
  pub some_claim : 1 ≤ length x.claims
  pub claims_limit : length x.claims ≤ 32
  pub each_transition : (d : Transition) (i : ℕ) → i < (size_in s).T → get_or x.setting.net.transitions i d ≡ transition_in s (size_in s).n (transitions_from + i * transition_size (size_in s).n)
  pub start : x.setting.start ≡ words s (start_from (size_in s) + 2) (size_in s).n
  pub target : x.setting.target ≡ target_in s (size_in s).n (target_from (size_in s))
  pub each_claim : (d : Claim) (i : ℕ) → i < length x.claims → get_or x.claims i d ≡ claim_in s (size_in s).n (claims_from (size_in s) + i * claim_size (size_in s).n)
  pub end : claims_from (size_in s) + length x.claims * claim_size (size_in s).n ≡ length s

pub held : (s : List ℕ) (x : Contents) → reading s ≡ Ok x → Held s x
held s x e =
    let parts = parts_sound s x e in
    let head = head_sound s (size_in s) parts.head in
    let setting = setting-sound s (size_in s) x.setting parts.setting in
    let (left, claims) = claims_of-sound s (size_in s) x.claims parts.claims in
    let end = claims.whole setting.whole in
    record {
      places = setting.places;
      transitions = setting.count;
      some_place = head.some;
      most_places = head.places;
      most_transitions = head.transitions;
      some_claim = some_left _ _ _ _ end left;
      claims_limit = claims.most;
      each_transition = setting.transitions;
      start = setting.start;
      target = setting.target;
      each_claim = claims.each;
      end = end;
    }
