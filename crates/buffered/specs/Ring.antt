-- What sixteen places hold as a queue.
use Rattle.std.specs.Prelude.{ℕ, zero, suc, ◌%◌, List, [], ◌∷◌, slice_index}
use Rattle.buffered.specs.declared.ring.Ring.{Ring}

-- so many from a place on, round by round
abbrev pub held_from : List ℕ → ℕ → ℕ → List ℕ
held_from places head zero = []
held_from places head (suc n) = slice_index places (head % 16) ∷ held_from places (suc head) n

abbrev pub queue : Ring → List ℕ
queue r = held_from r.places r.head r.len
