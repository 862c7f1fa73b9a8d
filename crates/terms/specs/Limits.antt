-- Which values a field may hold: document 01, "What the sheet holds".
use Rattle.std.specs.Prelude.{Bool, cond, false, ℕ, leb, ℤ, pos, negsuc}
use Rattle.std.specs.Int.Signed.{le_z, lt_z}

-- n, 1 to 16, and T, 0 to 64
abbrev pub places_fit : ℕ → Bool
places_fit n = cond (leb 1 n) (leb n 16) false

abbrev pub transitions_fit : ℕ → Bool
transitions_fit t = leb t 64

-- weights, 0 to 9
abbrev pub weight_fits : ℕ → Bool
weight_fits w = leb w 9

-- coefficients, -100 to 100
abbrev pub coefficient_fits : ℤ → Bool
coefficient_fits k = cond (lt_z k (negsuc 99)) false (le_z k (pos 100))

-- the constant, -5,000 to 5,000
abbrev pub constant_fits : ℤ → Bool
constant_fits c = cond (lt_z c (negsuc 4999)) false (le_z c (pos 5000))

-- kinds, 0 and 1
abbrev pub kind_fits : ℕ → Bool
kind_fits k = leb k 1

-- claims, at most 32
abbrev pub most_claims : ℕ
most_claims = 32

-- the entries of a work area
abbrev pub area_size : ℕ
area_size = 20000

abbrev pub areas_fit : ℕ → ℕ → Bool
areas_fit marks queue = cond (leb area_size marks) (leb area_size queue) false

-- a number counted from 1, of so many
abbrev pub among : ℕ → ℕ → Bool
among i count = cond (leb 1 i) (leb i count) false

-- the entries of an area for a listing's text
abbrev pub text_size : ℕ
text_size = 4096

-- the tokens that a place of a walk's marking may hold
abbrev pub most_tokens : ℕ
most_tokens = 65535

-- the firings of a list, at most 64 (a limit that 02 brings)
abbrev pub most_firings : ℕ
most_firings = 64
