-- An input that was read to its end.
use Rattle.std.specs.Prelude.{◌≡◌, ℕ, List, []}
use Rattle.input.specs.declared.Closing.{Closing}
use Rattle.input.specs.View.{View}
use Rattle.input.specs.Calls.{closing_number, closing_of}

-- all that was ahead is taken
pub record Drained {H : Type 0} (chars : List ℕ) (v w : View H) : Type 0 where
  pub all : chars ≡ v.ahead
  pub none_ahead : w.ahead ≡ []
  pub ending : w.ending ≡ v.ending

-- and the closing is that of the ending
pub record ReadOut {H : Type 0} (chars : List ℕ) (closing : Closing) (v : View H) : Type 0 where
  pub all : chars ≡ v.ahead
  pub told : closing_number closing ≡ closing_number (closing_of [] v.ending)
