-- The reader accepts exactly the encodings of formed contents: each record is read exactly where its bytes stand, the records stand one after the other, and the last ends the sheet.
use Rattle.std.specs.Prelude.{Err, Ok}
use mathlib.Core.Path.{◌≡◌, refl, sym, ap, ◌∙◌, subst}
use mathlib.Core.Logic.{◌↔◌, ⊎_elim}
use mathlib.Core.List.{List, [], ◌∷◌, ◌++◌}
use Prim.Native.Nat.{ℕ, ◌*◌, ◌≤◌, ◌<◌}
use native.Mathlib.Omega.{arith}
use lib.Dec.{leb}
use lib.ListN.{length, length-append}
use borrow.Author.Tests.{leb-false, lt-leb}
use Rattle.refusals.specs.declared.Refusal.TheVariants.{NoClaim}
use Rattle.terms.specs.Limits.{most_claims}
use Rattle.nets.specs.Nets.{Transition}
use Rattle.nets.specs.Verdicts.{Setting}
use Rattle.format.specs.Contents.{Claim, Contents}
use Rattle.format.specs.Reading.{Size, size_of, head_size, transition_size, start_from, target_from, claims_from, setting_of, claims_at, claims_of, reading}
use Rattle.format.specs.Formed.{All, IsSheet, Row, IsTokens, FormedTransition, FormedSetting, Formed}
use Rattle.format.specs.Encoding.{joined, transition_bytes, start_bytes, target_bytes, claim_bytes, setting_bytes, encoded}
use Rattle.format.proofs.Everywhere.{length-joined}
use Rattle.format.proofs.Standing.{Stands, stands-append, stands_left, stands_right, stands_whole, whole_stands}
use Rattle.format.proofs.Parts.{parts, sound_same, never_both, choose_either}
use Rattle.format.proofs.Fields.{length-words}
use Rattle.format.proofs.Records.{head_bytes, length-transition, head_exactly, start_exactly, target_exactly}
use Rattle.format.proofs.Lists.{transitions_exactly, ClaimsStand, claims_read, claims_sound}

abbrev pub size_in : Setting → Size
size_in q = size_of q.net.places (length q.net.transitions)

-- TR to TG
abbrev pub body_bytes : Setting → List ℕ
body_bytes q = joined transition_bytes q.net.transitions ++ start_bytes q.start ++ target_bytes q.target

pub record SettingStands (s : List ℕ) (q : Setting) : Type 0 where
  pub transitions : All (FormedTransition q.net.places) q.net.transitions
  pub start : Row q.net.places IsTokens q.start
  pub target : Row q.net.places IsTokens q.target.tokens
  pub stand : Stands s head_size (body_bytes q)

pub length_transitions : (n : ℕ) (ts : List Transition) → All (FormedTransition n) ts → length (joined transition_bytes ts) ≡ length ts * transition_size n
length_transitions n ts f = length-joined (FormedTransition n) transition_bytes (transition_size n) (length-transition n) ts f

pub length-setting : (q : Setting) → FormedSetting q → length (setting_bytes q) ≡ claims_from (size_in q)
unfolding setting_bytes
length-setting q f =
    let n : ℕ = q.net.places in
    let a : List ℕ = joined transition_bytes q.net.transitions in
    let b : List ℕ = start_bytes q.start in
    omega
    (arith, length-append (a ++ b) (target_bytes q.target), length-append a b, length_transitions n q.net.transitions f.transitions, length-words n q.start f.start, length-words n q.target.tokens f.target)

module _ (s : List ℕ) (small : IsSheet s) where
  pub setting_read : (z : Size) (q : Setting) → setting_of s z ≡ Ok q → (z ≡ size_in q) × SettingStands s q
  unfolding setting_of
  setting_read z q e =
      let (ts, et, (m, em, (g, eg, all))) = simp parts at e in
      let a = (transitions_exactly s z.n head_size z.T ts).0 et in
      let b = (start_exactly s small z.n (start_from z) m).0 em in
      let c = (target_exactly s small z.n (target_from z) g).0 eg in
      let count : z.T ≡ length ts = sym a.0 in
      let to : length (joined transition_bytes ts) ≡ z.T * transition_size z.n = length_transitions z.n ts a.1 ∙ ap (λ (k : ℕ). k * transition_size z.n) a.0 in
      let two : Stands s head_size (joined transition_bytes ts ++ start_bytes m) =
      stands-append s head_size (start_from z) (joined transition_bytes ts) (start_bytes m) (omega arith) a.2 b.1 in
      let three : Stands s head_size (joined transition_bytes ts ++ start_bytes m ++ target_bytes g) =
      stands-append s head_size (target_from z) (joined transition_bytes ts ++ start_bytes m) (target_bytes g)
      (omega (arith, length-append (joined transition_bytes ts) (start_bytes m), length-words z.n m b.0)) two c.1 in
      subst (λ (q : Setting). (z ≡ size_in q) × SettingStands s q) (sound_same all)
      (λ i. record { n = z.n; T = count i }, record { transitions = a.1; start = b.0; target = c.0; stand = three })

  pub setting-sound : (q : Setting) → SettingStands s q → setting_of s (size_in q) ≡ Ok q
  unfolding setting_of
  setting-sound q w =
      let z : Size = size_in q in
      let ts : List Transition = q.net.transitions in
      let a : List ℕ = joined transition_bytes ts in
      let b : List ℕ = start_bytes q.start in
      let c : List ℕ = target_bytes q.target in
      let to : length a ≡ z.T * transition_size z.n = length_transitions z.n ts w.transitions in
      let two : Stands s head_size (a ++ b) = stands_left s head_size (a ++ b) c w.stand in
      let hc : Stands s (target_from z) c =
      stands_right s head_size (target_from z) (a ++ b) c (omega (arith, length-append a b, length-words z.n q.start w.start)) w.stand in
      let hb : Stands s (start_from z) b = stands_right s head_size (start_from z) a b (omega arith) two in
      simp parts (
        ts,
        (transitions_exactly s z.n head_size z.T ts).1 (refl, w.transitions, stands_left s head_size a b two),
        (
          q.start,
          (start_exactly s small z.n (start_from z) q.start).1 (w.start, hb),
          (q.target, (target_exactly s small z.n (target_from z) q.target).1 (w.target, hc), refl),
        ),
      )

  -- HS
  some_claim : (n at more : ℕ) (is : List Claim) → at < length s → ClaimsStand s n at more is → 1 ≤ length is
  unfolding joined
  some_claim n at more [] h w = absurd (omega (arith, w.end))
  some_claim n at more (i ∷ is) h w = omega arith

  some_byte : (n at more : ℕ) (is : List Claim) → 1 ≤ length is → ClaimsStand s n at more is → at < length s
  unfolding joined
  some_byte n at more [] h w = absurd (omega arith)
  some_byte n at more (i ∷ is) h w = w.stand.0

  pub claims_exactly : (z : Size) (is : List Claim) → (claims_of s z ≡ Ok is) ↔ ((1 ≤ length is) × ClaimsStand s z.n (claims_from z) most_claims is)
  unfolding claims_of
  claims_exactly z is = (
    λ e. ⊎_elim
        (λ w. absurd (never_both (NoClaim (length s)) is w.1))
        (λ w. let c = claims_read s small z.n (claims_from z) most_claims is w.1 in
        (some_claim z.n (claims_from z) most_claims is (leb-false (length s) (claims_from z) w.0) c, c))
        (choose_either (leb (length s) (claims_from z)) (Err (NoClaim (length s))) (claims_at s z.n (claims_from z) most_claims) is e),
    λ w. rw (lt-leb (length s) (claims_from z) (some_byte z.n (claims_from z) most_claims is w.0 w.1))
        (claims_sound s small z.n (claims_from z) most_claims is w.1),
  )

  pub read_formed : (x : Contents) → reading s ≡ Ok x → Formed x × (s ≡ encoded x)
  unfolding reading encoded setting_bytes
  read_formed x e =
      let (z, ez, (q, eq, (is, ei, all))) = simp parts at e in
      let (p, front) = setting_read z q eq in
      let head = (head_exactly s (size_in q)).0 (ez ∙ ap Ok p) in
      let claims = (claims_exactly (size_in q) is).0 (subst (λ (z : Size). claims_of s z ≡ Ok is) p ei) in
      let f : FormedSetting q = record { places = head.0; count = head.1; transitions = front.transitions; start = front.start; target = front.target } in
      let one : Stands s 0 (setting_bytes q) = stands-append s 0 head_size (head_bytes (size_in q)) (body_bytes q) refl head.2 front.stand in
      let both : Stands s 0 (setting_bytes q ++ joined claim_bytes is) =
      stands-append s 0 (claims_from (size_in q)) (setting_bytes q) (joined claim_bytes is) (omega (arith, length-setting q f)) one claims.1.stand in
      let end : length s ≤ length (setting_bytes q ++ joined claim_bytes is) =
      omega (arith, length-append (setting_bytes q) (joined claim_bytes is), length-setting q f, claims.1.end) in
      subst (λ (x : Contents). Formed x × (s ≡ encoded x)) (sound_same all) (
        record { setting = f; some = claims.0; most = claims.1.most; claims = claims.1.each },
        stands_whole s (setting_bytes q ++ joined claim_bytes is) both end,
      )

  pub reads_back : (x : Contents) → Formed x → s ≡ encoded x → reading s ≡ Ok x
  unfolding reading encoded setting_bytes
  reads_back x f e =
      let q : Setting = x.setting in
      let is : List Claim = x.claims in
      let z : Size = size_in q in
      let there : Stands s 0 (setting_bytes q ++ joined claim_bytes is) = whole_stands s (setting_bytes q ++ joined claim_bytes is) e in
      let one : Stands s 0 (setting_bytes q) = stands_left s 0 (setting_bytes q) (joined claim_bytes is) there in
      let size : length (setting_bytes q) ≡ claims_from z = length-setting q f.setting in
      let front : SettingStands s q = record {
        transitions = f.setting.transitions;
        start = f.setting.start;
        target = f.setting.target;
        stand = stands_right s 0 head_size (head_bytes z) (body_bytes q) refl one;
      } in
      let claims : ClaimsStand s z.n (claims_from z) most_claims is = record {
        most = f.most;
        each = f.claims;
        stand = stands_right s 0 (claims_from z) (setting_bytes q) (joined claim_bytes is) (omega arith) there;
        end = omega (arith, length-append (setting_bytes q) (joined claim_bytes is), ap length e);
      } in
      simp parts (
        z,
        (head_exactly s z).1 (f.setting.places, f.setting.count, stands_left s 0 (head_bytes z) (body_bytes q) one),
        (q, setting-sound q front, (is, (claims_exactly z is).1 (f.some, claims), refl)),
      )

pub formed : (s : List ℕ) (x : Contents) → IsSheet s → reading s ≡ Ok x → Formed x
formed s x small e = (read_formed s small x e).0

pub accepted_exactly : (s : List ℕ) (x : Contents) → IsSheet s → (reading s ≡ Ok x) ↔ (Formed x × (s ≡ encoded x))
accepted_exactly s x small = (λ e. read_formed s small x e, λ w. reads_back s small x w.0 w.1)
