-- A sheet that was read: what it holds, and that the counts are those of its contents.
use Rattle.std.specs.Prelude.{◌≡◌, List, [], ℕ, Ok, Err}
use Rattle.nets.specs.Verdicts.{exact}
use Rattle.format.specs.Read.{Read}
use Rattle.format.specs.Contents.{Contents}
use Rattle.format.specs.Formed.{IsSheet}
use Rattle.format.specs.Reading.{reading}
use Rattle.reader.specs.Answers.{counts_of}
use Rattle.reader.specs.declared.Counts.{Counts}

-- nothing where it was refused
abbrev pub contents_or_none : Read Contents → Contents
contents_or_none (Ok x) = x
contents_or_none (Err r) = record { setting = record { net = record { places = 0; transitions = [] }; start = []; target = record { kind = exact; tokens = [] } }; claims = [] }

unfoldable pub contents_of : List ℕ → Contents
contents_of s = contents_or_none (reading s)

pub record Known (s : List ℕ) (k : Counts) : Type 0 where
  pub is_read : reading s ≡ Ok (contents_of s)
  pub counts : counts_of (contents_of s) ≡ k

-- and it is made of bytes
pub record IsRead (s : List ℕ) (k : Counts) : Type 0 where
  pub known : Known s k
  pub bytes : IsSheet s
