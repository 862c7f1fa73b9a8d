-- Where each claim's record stands, and its bytes: a sheet that is read is the encoding, where records of one size follow one another behind the setting, so in front of claim i + 1 stand the setting and i claims.
use Rattle.std.specs.Prelude.{Ok}
use mathlib.Core.Path.{◌≡◌, ap, ap₂, ◌∙◌, subst}
use mathlib.Core.List.{List, [], ◌∷◌, ◌++◌, append_assoc}
use Prim.Native.Nat.{ℕ, suc, ◌+◌, ◌-◌, ◌*◌, ◌≤◌, ◌<◌}
use native.Mathlib.Numerals.{add-one}
use native.Mathlib.Omega.{arith}
use lib.ListN.{length, take, drop, get_or, length-append}
use lib.Seq.{split_at, length-take-le, take_at, drop_at}
use Rattle.format.specs.Contents.{Claim, no_claim, Contents, claim}
use Rattle.format.specs.Reading.{byte, claim_size, size_of, claims_from, reading}
use Rattle.format.specs.Formed.{All, IsSheet, FormedClaim}
use Rattle.format.specs.Encoding.{joined, claim_bytes, setting_bytes, encoded, record_from}
use Rattle.format.proofs.Everywhere.{all_left, all_right, length-joined, joined-append}
use Rattle.format.proofs.Places.{size_in, held}
use Rattle.format.proofs.Records.{length-claim}
use Rattle.format.proofs.Accepted.{length-setting, read_formed}

-- the record of claim i + 1, in a sheet s that holds x
pub record RecordStands (s : List ℕ) (x : Contents) (i : ℕ) : Type 0 where
  pub from : record_from x (i + 1) ≡ claims_from (size_in s) + i * claim_size (byte s 2)
  pub fits : claims_from (size_in s) + i * claim_size (byte s 2) + claim_size (byte s 2) ≤ length s
  pub bytes : take (claim_size (byte s 2)) (drop (claims_from (size_in s) + i * claim_size (byte s 2)) s) ≡ claim_bytes (claim x (i + 1))

-- from every byte, the sheet
pub sheet_of : (s : List ℕ) → ((i : ℕ) → get_or s i 0 < 256) → IsSheet s
unfolding All
sheet_of [] small = tt
sheet_of (b ∷ s) small = (small 0, sheet_of s (λ i. small (suc i)))

-- what stands between two lists
pub between : {A : Type 0} (s front part rest : List A) (at size : ℕ) → s ≡ front ++ (part ++ rest) → length front ≡ at → length part ≡ size → (at + size ≤ length s) × (take size (drop at s) ≡ part)
between s front part rest at size e f p = (
  omega (arith, simp length-append at (ap length e)),
  rw (e, drop_at front (part ++ rest) at f, take_at part rest size p),
)

pub record_stands : (s : List ℕ) (x : Contents) → IsSheet s → reading s ≡ Ok x → (i : ℕ) → i < length x.claims → RecordStands s x i
unfolding All joined encoded record_from claim
record_stands s x sheet e i h =
    let (f, whole) = read_formed s sheet x e in
    let inside = held s x e in
    let n : ℕ = byte s 2 in
    let first : List Claim = take i x.claims in
    let this : Claim = get_or x.claims i no_claim in
    let others : List Claim = drop (suc i) x.claims in
    let split : x.claims ≡ first ++ (this ∷ others) = split_at x.claims i no_claim h in
    let each : All (FormedClaim n) (first ++ (this ∷ others)) = subst (λ (n : ℕ). All (FormedClaim n) (first ++ (this ∷ others))) inside.places (subst (All (FormedClaim x.setting.net.places)) split f.claims) in
    let front : List ℕ = setting_bytes x.setting ++ joined claim_bytes first in
    let cut : s ≡ front ++ (claim_bytes this ++ joined claim_bytes others) =
    whole ∙ ap (λ (is : List Claim). setting_bytes x.setting ++ joined claim_bytes is) split ∙ simp (joined-append, append_assoc) in
    let setting : length (setting_bytes x.setting) ≡ claims_from (size_in s) =
    length-setting x.setting f.setting ∙ ap₂ (λ (n T : ℕ). claims_from (size_of n T)) inside.places inside.transitions in
    let claims : length (joined claim_bytes first) ≡ i * claim_size n =
    length-joined (FormedClaim n) claim_bytes (claim_size n) (length-claim n) first (all_left (FormedClaim n) first (this ∷ others) each) ∙ ap (λ (k : ℕ). k * claim_size n) (length-take-le i x.claims (omega arith)) in
    let to : length front ≡ claims_from (size_in s) + i * claim_size n = omega (arith, length-append (setting_bytes x.setting) (joined claim_bytes first)) in
    let size : length (claim_bytes this) ≡ claim_size n = length-claim n this (all_right (FormedClaim n) first (this ∷ others) each).0 in
    let (fits, bytes) = between s front (claim_bytes this) (joined claim_bytes others) (claims_from (size_in s) + i * claim_size n) (claim_size n) cut to size in
    let before : i + 1 - 1 ≡ i = omega arith in
    record { from = rw before to; fits = fits; bytes = rw (add-one i) bytes }
