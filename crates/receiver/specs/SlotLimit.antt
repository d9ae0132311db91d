-- The most slots that packets may have, cited by name and law, so that it can move.
use Rattle.std.specs.Prelude.{ℕ, ◌*◌, ◌≤◌}
use Rattle.std.proofs.Common.{arith}
use Rattle.error.specs.Limit.{text_limit}

unfoldable pub slot_limit : ℕ
slot_limit = 16000

-- so many characters fit a text, at four bytes each
pub slots_fit : (n : ℕ) → n ≤ slot_limit → 4 * n ≤ text_limit
unfolding slot_limit text_limit
slots_fit n h = omega arith
