-- What the calls answer for how many places, transitions and claims a sheet has: the sheet's refusal, or the number that its contents have.
use Rattle.std.specs.Prelude.{ℕ, length}
use Rattle.format.specs.Read.{Read, map_ok}
use Rattle.format.specs.Contents.{Contents}

-- n
abbrev pub how_many_places : Read Contents → Read ℕ
how_many_places y = map_ok (λ x. x.setting.net.places) y

-- T
abbrev pub how_many_transitions : Read Contents → Read ℕ
how_many_transitions y = map_ok (λ x. length x.setting.net.transitions) y

-- the number of HS records
abbrev pub how_many_claims : Read Contents → Read ℕ
how_many_claims y = map_ok (λ x. length x.claims) y
