-- From the queue to the answer for a window: the first entry that lies in it, in breadth-first order, has the least total, and where none does nothing hits.
use mathlib.Core.Path.{◌≡◌, sym}
use mathlib.Core.List.{List}
use Prim.Native.Nat.{ℕ, ◌+◌, ◌≤◌, ◌<◌}
use native.Mathlib.Decide.{dec_lt}
use native.Mathlib.Omega.{arith}
use lib.IntN.{ℤ, pos}
use lib.ListN.{length, get_or, length-map, get_or-map}
use Rattle.signed.specs.Parts.{positive_part, negative_part}
use Rattle.sums.specs.Sum.{total, ups, downs, Hits}
use Rattle.spreading.specs.State.{Within, State, Seen, Misses, First, Spent}
use Rattle.spreading.proofs.Queue.{inside}
use Rattle.trails.specs.Led.{Trailed, Room, Led}
use Rattle.trails.proofs.Theory.{Closed, at_least}

module _ (ks : List ℤ) (m q : List ℕ) (lo hi start h tail : ℕ) (O : Room ks (length m) start lo hi) (F : Seen ks m q start h tail) (before : Misses q lo hi h) where
  abbrev S : State ks m q h 0 tail
  S = F.state

  abbrev R : ℕ → ℕ → Type 0
  R t v = Within q S.L tail t v

  held : (t v : ℕ) → R t v → v < length m
  held t v r = let e = r.entry in inside m v (rw e.is at (S.marked e.at e.below))

  onward : (t v p w : ℕ) → (r : R t v) → r.entry.at < h → p < length ks → w + get_or (downs ks) p 0 ≡ v + get_or (ups ks) p 0 → w < length m → R (t + 1) w
  onward t v p w r b pl s l =
      let e = r.entry in
      let d = S.done e.at p w b pl (rw e.is (omega (arith, get_or-map negative_part ks p (pos 0), get_or-map positive_part ks p (pos 0)))) l in
      record { entry = d.entry; level = omega (arith, d.level, r.level) }

  -- the entries that T asks about are expanded
  closed : (T : ℕ) → ((t v : ℕ) → t + 1 < T → (r : R t v) → r.entry.at < h) → ((t v : ℕ) → t < T → R t v → lo ≤ v → v ≤ hi → ⊥) → Closed (ups ks) (downs ks) lo hi T R
  closed T expanded out =
      record {
        room = λ p. omega (arith, O.fall p, get_or-map negative_part ks p (pos 0));
        rise = λ t v p w b r l g s. onward t v p w r (expanded t v b r) (omega (arith, inside (ups ks) p (omega arith), length-map ks positive_part)) s (omega (arith, O.rise p, get_or-map positive_part ks p (pos 0)));
        fall = λ t v p w b r l g s. onward t v p w r (expanded t v b r) (omega (arith, inside (downs ks) p (omega arith), length-map ks negative_part)) s (omega (arith, held t v r));
        misses = out;
      }

  here : R 0 start
  here = record { entry = record { at = 0; below = F.some; is = F.first }; level = omega (arith, S.first) }

  missed : (t v : ℕ) → (r : R t v) → r.entry.at < h → lo ≤ v → v ≤ hi → ⊥
  missed t v r b a c = before r.entry.at b (omega (arith, r.entry.is)) (omega (arith, r.entry.is))

  -- all entries are expanded and none lies in the window: nothing leads into it
  pub none : tail ≤ h → (y : List ℕ) → Hits (ups ks) (downs ks) lo hi start y → ⊥
  none e y g =
      let all : (t v : ℕ) → (r : R t v) → r.entry.at < h = λ t v r. omega (arith, r.entry.below) in
      omega (arith, at_least (ups ks) (downs ks) lo hi (total y + 1) R (closed (total y + 1) (λ t v b r. all t v r) (λ t v b r. missed t v r (all t v r))) start y here g)

  -- an entry of a level below that of entry h stands before it
  sooner : h < tail → (t v : ℕ) → t < get_or S.L h 0 → (r : R t v) → r.entry.at < h
  sooner l t v b r = go (dec_lt r.entry.at h)
    where
      go : Dec (r.entry.at < h) → r.entry.at < h
      go (yes k) = k
      go (no k) = absurd (omega (arith, r.level, S.sorted h r.entry.at (omega arith) r.entry.below))

  -- counts that lead into the window are at least as many as the level of entry h
  pub least : h < tail → (y : List ℕ) → Hits (ups ks) (downs ks) lo hi start y → get_or S.L h 0 ≤ total y
  least l y g =
      at_least (ups ks) (downs ks) lo hi (get_or S.L h 0) R
      (closed (get_or S.L h 0) (λ t v b r. sooner l t v (omega arith) r) (λ t v b r. missed t v r (sooner l t v b r))) start y here g

-- the table's size and the steps ks are those that the search began with; ks' and m are what it left of them
module _ (ks ks' : List ℤ) (m q : List ℕ) (size start lo hi : ℕ) (same : ks' ≡ ks) (long : length m ≡ size) (O : Room ks size start lo hi) where
  room : Room ks' (length m) start lo hi
  room = rw (same, long) O

  pub led : (h : ℕ) (x : List ℕ) → First ks' m q start lo hi h → Trailed ks' m q start h x → Led ks size start lo hi x
  led h x G t =
      let E = G.entry in
      rw (sym same, sym long)
      record {
        hits = record { least = omega (arith, t.leads, G.low); most = omega (arith, t.leads, G.high) };
        least = λ y g. omega (arith, t.few E, least ks' m q lo hi start h E.tail room E.seen G.before E.inside y g);
        bound = omega (arith, t.bound, E.inside, E.seen.state.count);
        behind = t.behind;
      }

  pub nothing : Spent ks' m q start lo hi → (y : List ℕ) → Hits (ups ks) (downs ks) lo hi start y → ⊥
  nothing X = rw (sym same) (none ks' m q lo hi start X.tail X.tail room X.seen X.before (omega arith))
