-- The fault of ill-formed bytes has its place after the characters before them.
use Rattle.std.specs.Prelude.{◌≡◌, ℕ, Bool, true, false}
use Rattle.std.proofs.Common.{sym}
use Rattle.error.specs.Numbers.{PlacedAt}
use Rattle.source.specs.Steps.{Placed}
use Rattle.source.specs.TextsLaws.{text_counts}
use Rattle.source.specs.Bytes.{bytes_ahead, bytes_given, bytes_ending, end_after}
use Rattle.source.specs.declared.bytes.ByteChars.{ByteChars}

followed_placed : (ill : Bool) (count n : ℕ) → count ≡ n → PlacedAt (end_after ill count) n
followed_placed true count n e = e
followed_placed false count n e = tt

pub bytes_placed : (s : ByteChars) → Placed (bytes_ending s) (bytes_given s) (bytes_ahead s)
bytes_placed s = followed_placed s.ends_ill _ _ (sym (text_counts s.front))
