-- How many places, transitions and claims contents have.
use Rattle.std.specs.Prelude.{ℕ, length}
use Rattle.nets.specs.Verdicts.{Setting}
use Rattle.format.specs.Contents.{Contents}
use Rattle.format.specs.Reading.{Size, size_of}
use Rattle.reader.specs.declared.Counts.{Counts}

-- the net's own size
abbrev pub net_size : Setting → Size
net_size q = size_of q.net.places (length q.net.transitions)

abbrev pub counts_of : Contents → Counts
counts_of x = record { places = x.setting.net.places; transitions = length x.setting.net.transitions; claims = length x.claims }

-- numbers as counts
abbrev pub told : ℕ → ℕ → ℕ → Counts
told n T claims = record { places = n; transitions = T; claims = claims }
