-- NUL is not among the characters up to a quote.
use Rattle.std.specs.Prelude.{◌≡◌, ℕ, Bool, true, false, not, ◌&&◌, ◌==◌, refl}
use Rattle.receiver.specs.Quote.{until_quote}

pub until_nul : (quote : ℕ) → until_quote quote 0 ≡ false
until_nul quote = go (not (0 == quote))
  where
    go : (b : Bool) → (b && false) ≡ false
    go true = refl
    go false = refl
