-- The sheet, record by record: document 01, "What the sheet holds" and "Numbers that say no".
use Rattle.refusals.specs.declared.Refusal.{Refusal}
use Rattle.refusals.specs.declared.Refusal.TheVariants as refused
use Rattle.std.specs.Prelude.{Bool, List, [], ◌∷◌, map, ℕ, zero, suc, ◌+◌, ◌*◌, leb, ltb, eqb, ℤ, length, get_or, Err, Ok}
use Rattle.signed.specs.Twos.{twos8, twos16}
use Rattle.terms.specs.Limits.{places_fit, transitions_fit, weight_fits, coefficient_fits, constant_fits, kind_fits, most_claims}
use Rattle.nets.specs.Nets.{Marking, Transition}
use Rattle.nets.specs.Verdicts.{Kind, exact, at_or_above, Target, Setting}
use Rattle.format.specs.Read.{Read, ◌>>=◌, ◌>>◌, need, choose}
use Rattle.format.specs.Contents.{Claim, some_nonzero, Contents}

-- Byte places count from 0. Numbers of two bytes are little-endian.
abbrev pub byte : List ℕ → ℕ → ℕ
byte s at = get_or s at 0

abbrev pub word : List ℕ → ℕ → ℕ
word s at = byte s at + 256 * byte s (at + 1)

abbrev pub signed_word : List ℕ → ℕ → ℤ
signed_word s at = twos16 (byte s at) (byte s (at + 1))

-- n bytes, and n numbers of two bytes, from `at` on
unfoldable pub bytes : List ℕ → ℕ → ℕ → List ℕ
bytes s at zero = []
bytes s at (suc n) = byte s at ∷ bytes s (at + 1) n

unfoldable pub words : List ℕ → ℕ → ℕ → List ℕ
words s at zero = []
words s at (suc n) = word s at ∷ words s (at + 2) n

-- At a record: two bytes left (1), the mark (2); its length (1); details are its first byte.
unfoldable pub marked_at : List ℕ → ℕ → ℕ → ℕ → Read (Unit {0})
marked_at s at first second = do
  need (leb (at + 2) (length s)) (refused.Cut at)
  need (eqb (byte s at) first) (refused.Mark at)
  need (eqb (byte s (at + 1)) second) (refused.Mark at)

unfoldable pub whole_at : List ℕ → ℕ → ℕ → Read (Unit {0})
whole_at s at size = need (leb (at + size) (length s)) (refused.Cut at)

unfoldable pub opened_at : List ℕ → ℕ → ℕ → ℕ → ℕ → Read (Unit {0})
opened_at s at first second size = do
  marked_at s at first second
  whole_at s at size

-- fields of one byte, in order: the first that does not fit is refused, and the detail is that byte's place
unfoldable pub each_fits : (ℕ → Bool) → (ℕ → Refusal) → List ℕ → ℕ → ℕ → Read (Unit {0})
each_fits fits refusal s at zero = Ok tt
each_fits fits refusal s at (suc n) = do
  need (fits (byte s at)) (refusal at)
  each_fits fits refusal s (at + 1) n

-- the bytes of each record, its mark among them
abbrev pub head_size : ℕ
head_size = 4

abbrev pub transition_size : ℕ → ℕ
transition_size n = 2 + 2 * n

abbrev pub start_size : ℕ → ℕ
start_size n = 2 + 2 * n

abbrev pub target_size : ℕ → ℕ
target_size n = 3 + 2 * n

abbrev pub claim_size : ℕ → ℕ
claim_size n = 4 + n

-- NP (4E 50): n and T
pub record Size : Type 0 where
  pub n : ℕ
  pub T : ℕ

abbrev pub size_of : ℕ → ℕ → Size
size_of n T = record { n = n; T = T }

unfoldable pub head_of : List ℕ → Read Size
head_of s = do
  opened_at s 0 0x4E 0x50 head_size
  need (places_fit (byte s 2)) (refused.Size 2)
  need (transitions_fit (byte s 3)) (refused.Size 3)
  Ok (size_of (byte s 2) (byte s 3))

-- TR (54 52): n weights taken, then n weights put
abbrev pub transition_in : List ℕ → ℕ → ℕ → Transition
transition_in s n at = record { taken = bytes s (at + 2) n; put = bytes s (at + 2 + n) n }

unfoldable pub transition_at : List ℕ → ℕ → ℕ → Read Transition
transition_at s n at = do
  opened_at s at 0x54 0x52 (transition_size n)
  each_fits weight_fits refused.Weight s (at + 2) (2 * n)
  Ok (transition_in s n at)

unfoldable pub transitions_at : List ℕ → ℕ → ℕ → ℕ → Read (List Transition)
transitions_at s n at zero = Ok []
transitions_at s n at (suc k) = do
  t ← transition_at s n at
  ts ← transitions_at s n (at + transition_size n) k
  Ok (t ∷ ts)

-- MK (4D 4B): the start tokens
unfoldable pub start_at : List ℕ → ℕ → ℕ → Read Marking
start_at s n at = do
  opened_at s at 0x4D 0x4B (start_size n)
  Ok (words s (at + 2) n)

-- TG (54 47): the kind byte, then the target tokens
abbrev pub kind_of : ℕ → Kind
kind_of b = choose (eqb b 0) exact at_or_above

abbrev pub target_in : List ℕ → ℕ → ℕ → Target
target_in s n at = record { kind = kind_of (byte s (at + 2)); tokens = words s (at + 3) n }

unfoldable pub target_at : List ℕ → ℕ → ℕ → Read Target
target_at s n at = do
  opened_at s at 0x54 0x47 (target_size n)
  need (kind_fits (byte s (at + 2))) (refused.Kind (at + 2))
  Ok (target_in s n at)

-- HS (48 53), behind its mark: n coefficients, then the constant
abbrev pub claim_in : List ℕ → ℕ → ℕ → Claim
claim_in s n at = record { coefficients = map twos8 (bytes s (at + 2) n); constant = signed_word s (at + 2 + n) }

unfoldable pub claim_at : List ℕ → ℕ → ℕ → Read Claim
claim_at s n at = do
  whole_at s at (claim_size n)
  each_fits (λ b. coefficient_fits (twos8 b)) refused.Coefficient s (at + 2) n
  need (constant_fits (signed_word s (at + 2 + n))) (refused.Constant (at + 2 + n))
  need (some_nonzero (claim_in s n at).coefficients) (refused.AllZero at)
  Ok (claim_in s n at)

-- Where a claim is due its mark must stand; where no `more` may come that is 8; then come its length and fields.
unfoldable pub claim_due : List ℕ → ℕ → ℕ → ℕ → Read Claim
claim_due s n at more = do
  marked_at s at 0x48 0x53
  need (ltb 0 more) (refused.TooManyClaims at)
  claim_at s n at

-- the claims to the sheet's end, of which `more` may still come
unfoldable pub claims_at : List ℕ → ℕ → ℕ → ℕ → Read (List Claim)
claims_at s n at zero = choose (leb (length s) at) (Ok []) (claim_due s n at zero >> Ok [])
claims_at s n at (suc more) = choose (leb (length s) at) (Ok []) do
  i ← claim_due s n at (suc more)
  is ← claims_at s n (at + claim_size n) more
  Ok (i ∷ is)

-- where the records stand
abbrev pub transitions_from : ℕ
transitions_from = head_size

abbrev pub start_from : Size → ℕ
start_from z = transitions_from + z.T * transition_size z.n

abbrev pub target_from : Size → ℕ
target_from z = start_from z + start_size z.n

abbrev pub claims_from : Size → ℕ
claims_from z = target_from z + target_size z.n

-- TR to TG, and NP to TG
unfoldable pub setting_of : List ℕ → Size → Read Setting
setting_of s z = do
  ts ← transitions_at s z.n transitions_from z.T
  m ← start_at s z.n (start_from z)
  g ← target_at s z.n (target_from z)
  Ok (record { net = record { places = z.n; transitions = ts }; start = m; target = g })

unfoldable pub front_of : List ℕ → Read Setting
front_of s = do
  z ← head_of s
  setting_of s z

-- one claim or more: no byte after TG is 9, with the sheet's length
unfoldable pub claims_of : List ℕ → Size → Read (List Claim)
claims_of s z = choose (leb (length s) (claims_from z)) (Err (refused.NoClaim (length s))) (claims_at s z.n (claims_from z) most_claims)

-- the sheet
unfoldable pub reading : List ℕ → Read Contents
reading s = do
  z ← head_of s
  q ← setting_of s z
  is ← claims_of s z
  Ok (record { setting = q; claims = is })
