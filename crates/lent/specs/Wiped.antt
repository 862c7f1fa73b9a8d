-- What a lent area holds afterwards: document 01, "Numbers that say no".
use Rattle.std.specs.Prelude.{◌≡◌, List, ◌++◌, ℕ, drop, replicate}

-- the first n entries are 0 afterwards, and the others as they were
abbrev pub Wiped : ℕ → List ℕ → List ℕ → Type 0
Wiped n old new = new ≡ replicate n 0 ++ drop n old
