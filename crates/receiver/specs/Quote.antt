-- The characters up to a quote.
use Rattle.std.specs.Prelude.{ℕ, Bool, not, ◌&&◌, ◌==◌}
use Rattle.char_traits.specs.Chars.{breakz}

-- neither the quote nor a breakz
abbrev pub until_quote : ℕ → ℕ → Bool
until_quote quote c = not (c == quote) && not (breakz c)
