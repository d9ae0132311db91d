-- Rooms before a fetch.
use Rattle.std.specs.Prelude.{ℕ, List, replicate}

-- so many bytes that nothing was written to
unfoldable pub untouched : ℕ → List ℕ
untouched size = replicate size 0xEE

-- the size of the usual room
abbrev pub usual_size : ℕ
usual_size = 70000
