-- The whole sheet from its parts: where each is read, the counts are those of what was read.
use Rattle.std.specs.Prelude.{Err, Ok}
use mathlib.Core.Path.{◌≡◌, refl, sym, ap, ap₂, ◌∙◌}
use mathlib.Core.List.{List}
use Prim.Native.Nat.{ℕ}
use native.Mathlib.Omega.{arith}
use lib.ListN.{length}
use Rattle.nets.specs.Verdicts.{Setting}
use Rattle.format.specs.Read.{Read, map_ok, ◌>>=◌}
use Rattle.format.specs.Contents.{Claim, Contents}
use Rattle.refusals.specs.declared.Refusal.{Refusal}
use Rattle.format.specs.Reading.{Size, size_of, head_of, setting_of, front_of, claims_of, reading}
use Rattle.format.specs.Checked.{checked}
use Rattle.format.proofs.Checks.{fine}
use Rattle.format.proofs.Places.{setting-sound, front_sound, size_in}
use Rattle.reader.specs.declared.Counts.{Counts}
use Rattle.reader.specs.Answers.{counts_of, net_size}
use Rattle.reader.specs.Known.{Known, contents_of}

counted : (q : Setting) (z : Size) (n : ℕ) (x : Read (List Claim)) → q.net.places ≡ z.n → length q.net.transitions ≡ z.T → map_ok length x ≡ Ok n → map_ok counts_of (x >>= λ is. Ok (record { setting = q; claims = is })) ≡ Ok (record { places = z.n; transitions = z.T; claims = n })
counted q z n (Ok is) p t e =
    let c : length is ≡ n = cc in
    rw (p, t, c)
counted q z n (Err r) p t e = absurd (let z : ◌≡◌ {A = ℕ} 0 1 = cc in omega arith)

pub scanned : (s : List ℕ) (z : Size) (n : ℕ) → head_of s ≡ Ok z → checked (setting_of s z) ≡ Ok tt → map_ok length (claims_of s z) ≡ Ok n → map_ok counts_of (reading s) ≡ Ok (record { places = z.n; transitions = z.T; claims = n })
unfolding reading
scanned s z n head setting claims =
    let q = fine (setting_of s z) setting in
    let h = setting-sound s z q.0 q.1 in
    rw (head, q.1) (counted q.0 z n (claims_of s z) h.places h.count claims)

-- behind them the claims' refusal is the sheet's
pub claims_stop : (s : List ℕ) (z : Size) {r : Refusal} → head_of s ≡ Ok z → checked (setting_of s z) ≡ Ok tt → map_ok length (claims_of s z) ≡ Err r → map_ok counts_of (reading s) ≡ Err r
unfolding reading
claims_stop s z {r = r} head setting e =
    let q = fine (setting_of s z) setting in
    rw (head, q.1) (by_claims q.0 (claims_of s z) e)
  where
    by_claims : (q : Setting) (y : Read (List Claim)) → map_ok length y ≡ Err r → map_ok counts_of (y >>= λ is. Ok (record { setting = q; claims = is })) ≡ Err r
    by_claims q (Ok is) e = absurd (let z : ◌≡◌ {A = ℕ} 0 1 = cc in omega arith)
    by_claims q (Err p) e = cc

-- NP to TG are read where the head and what follows it are
pub front_read : (s : List ℕ) (z : Size) → head_of s ≡ Ok z → checked (setting_of s z) ≡ Ok tt → map_ok net_size (front_of s) ≡ Ok z
unfolding front_of
front_read s z head setting =
    let q = fine (setting_of s z) setting in
    let h = setting-sound s z q.0 q.1 in
    rw (head, q.1) (ap Ok (ap₂ size_of h.places h.count))

pub front_told : (s : List ℕ) (z : Size) → map_ok net_size (front_of s) ≡ Ok z → (head_of s ≡ Ok z) × (checked (setting_of s z) ≡ Ok tt)
front_told s z e = by_front (front_of s) refl e
  where
    by_front : (y : Read Setting) → front_of s ≡ y → map_ok net_size y ≡ Ok z → (head_of s ≡ Ok z) × (checked (setting_of s z) ≡ Ok tt)
    by_front (Ok q) f e =
        let (head, setting, _) = front_sound s q f in
        let h = setting-sound s (size_in s) q setting in
        let told : net_size q ≡ z = cc in
        let same : size_in s ≡ z = sym (ap₂ size_of h.places h.count) ∙ told in
        (head ∙ ap Ok same, ap (λ z. checked (setting_of s z)) (sym same) ∙ ap checked setting)
    by_front (Err r) f e = absurd (let z : ◌≡◌ {A = ℕ} 0 1 = cc in omega arith)

-- and the sheet's refusal is theirs where they have one
pub front_stops : (s : List ℕ) {r : Refusal} → map_ok net_size (front_of s) ≡ Err r → map_ok counts_of (reading s) ≡ Err r
unfolding front_of reading
front_stops s {r = r} e = by_head (head_of s) e
  where
    by_setting : (z : Size) (y : Read Setting) → map_ok net_size y ≡ Err r → map_ok counts_of (y >>= λ q. claims_of s z >>= λ is. Ok (record { setting = q; claims = is })) ≡ Err r
    by_setting z (Ok q) e = absurd (let z : ◌≡◌ {A = ℕ} 0 1 = cc in omega arith)
    by_setting z (Err q) e = cc

    by_head : (y : Read Size) → map_ok net_size (y >>= λ z. setting_of s z) ≡ Err r → map_ok counts_of (y >>= λ z. setting_of s z >>= λ q. claims_of s z >>= λ is. Ok (record { setting = q; claims = is })) ≡ Err r
    by_head (Ok z) e = by_setting z (setting_of s z) e
    by_head (Err q) e = cc

-- counts that are told of a sheet are those of what it holds
pub known_from : (s : List ℕ) (k : Counts) → Ok k ≡ map_ok counts_of (reading s) → Known s k
unfolding contents_of
known_from s k e = by_reading (reading s) refl e
  where
    by_reading : (y : Read Contents) → reading s ≡ y → Ok k ≡ map_ok counts_of y → Known s k
    by_reading (Ok x) r e =
        let holds : contents_of s ≡ x = rw r in
        let c : counts_of x ≡ k = cc in
        record { is_read = r ∙ ap Ok (sym holds); counts = ap counts_of holds ∙ c }
    by_reading (Err r) q e = absurd (let z : ◌≡◌ {A = ℕ} 0 1 = cc in omega arith)
