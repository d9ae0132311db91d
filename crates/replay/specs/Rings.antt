-- What a ring of the replay is made of.
use Rattle.std.specs.Prelude.{ℕ, List}
use Rattle.error.specs.Numbers.{Ending}
use Rattle.input.specs.View.{Making}
use Rattle.buffered.specs.Buffered.{ring_manner}

-- a source with these characters and that ending, of which none was given yet
abbrev pub ring_of : List ℕ → Ending → Making
ring_of chars finish = record { manner = ring_manner; chars = chars; finish = finish; given = 0 }
