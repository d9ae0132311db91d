-- The characters of a decimal number.
use Rattle.std.specs.Prelude.{ℕ, Bool, ◌||◌, ◌==◌}
use Rattle.reader.specs.Chars.{digit}

-- digits, a point and a minus
abbrev pub decimal : ℕ → Bool
decimal c = digit c || (c == 0x2E || c == 0x2D)
