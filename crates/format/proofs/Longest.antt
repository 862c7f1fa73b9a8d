-- The longest sheet has 2,889 bytes: each count is at most its limit, and small numbers reach every limit.
use mathlib.Core.Path.{◌≡◌, refl}
use Prim.Native.Nat.{ℕ, zero, suc, ◌*◌, ◌≤◌}
use native.Mathlib.Nat.{mul-le-mul}
use native.Mathlib.Omega.{arith}
use lib.IntN.{pos}
use lib.ListN.{length, replicate, length-append}
use borrow.Author.Tests.{leb-true}
use Rattle.nets.specs.Nets.{Transition}
use Rattle.nets.specs.Verdicts.{exact}
use Rattle.format.specs.Contents.{Claim, some_nonzero, Contents}
use Rattle.format.specs.Reading.{transition_size, claim_size}
use Rattle.format.specs.Formed.{All, Row, IsWeight, IsTokens, IsCoefficient, FormedTransition, FormedClaim, Formed}
use Rattle.format.specs.Encoding.{joined, claim_bytes, setting_bytes, encoded}
use Rattle.format.proofs.Everywhere.{length-joined}
use Rattle.format.proofs.Sound.{places_fit_lem}
use Rattle.format.proofs.Records.{length-claim}
use Rattle.format.proofs.Accepted.{length-setting}

pub at_most_longest : {x : Contents} → Formed x → length (encoded x) ≤ 2889
unfolding encoded
at_most_longest {x} f =
    let n : ℕ = x.setting.net.places in
    let T : ℕ = length x.setting.net.transitions in
    let c : ℕ = length x.claims in
    let places : n ≤ 16 = (places_fit_lem n f.setting.places).1 in
    let count : T ≤ 64 = leb-true T 64 f.setting.count in
    let transition : transition_size n ≤ 34 = omega arith in
    let claim : claim_size n ≤ 20 = omega arith in
    let ts : T * transition_size n ≤ 64 * 34 = mul-le-mul count transition in
    let is : c * claim_size n ≤ 32 * 20 = mul-le-mul f.most claim in
    omega
    (arith, length-append (setting_bytes x.setting) (joined claim_bytes x.claims), length-setting x.setting f.setting, length-joined (FormedClaim n) claim_bytes (claim_size n) (length-claim n) x.claims f.claims)

-- every count at its limit
idle : Transition
idle = record { taken = replicate 16 0; put = replicate 16 0 }

everywhere : Claim
everywhere = record { coefficients = replicate 16 (pos 1); constant = pos 0 }

unfoldable pub longest : Contents
unfolding idle everywhere
longest =
    record {
      setting = record {
        net = record { places = 16; transitions = replicate 64 idle };
        start = replicate 16 0;
        target = record { kind = exact; tokens = replicate 16 0 };
      };
      claims = replicate 32 everywhere;
    }

all_replicate : {A : Type 0} (P : A → Type 0) (n : ℕ) (a : A) → P a → All P (replicate n a)
unfolding All
all_replicate P zero a p = tt
all_replicate P (suc n) a p = (p, all_replicate P n a p)

row : {A : Type 0} (P : A → Type 0) (a : A) → P a → Row 16 P (replicate 16 a)
row P a p = record { places = refl; each = all_replicate P 16 a p }

pub longest-formed : Formed longest
unfolding longest idle everywhere some_nonzero
longest-formed =
    record {
      setting = record {
        places = refl;
        count = refl;
        transitions = all_replicate (FormedTransition 16) 64 idle (record { taken = row IsWeight 0 refl; put = row IsWeight 0 refl });
        start = row IsTokens 0 (omega arith);
        target = row IsTokens 0 (omega arith);
      };
      some = omega arith;
      most = omega arith;
      claims = all_replicate (FormedClaim 16) 32 everywhere (record { coefficients = row IsCoefficient (pos 1) refl; constant = refl; nonzero = refl });
    }

pub longest_reaches : length (encoded longest) ≡ 2889
unfolding encoded setting_bytes joined longest idle everywhere
longest_reaches = refl
