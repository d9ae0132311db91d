-- Bytes that were found to be a text.
use Rattle.std.proofs.Common.{ℕ, List, [], IsUtf8, ap, arith}
use Rattle.std.proofs.lemmas.Str.{encodes-chars, scalars-chars, IsCharBoundary-start, IsUtf8-nil}
use Rattle.utf8.specs.Checking.{IsText, ChecksText, text, too_long, ill_formed}
use Rattle.text_bytes.specs.Bytes.{IsPlace}

pub found_text : (bytes : List ℕ) → ChecksText bytes (0, []) → IsText bytes
found_text bytes (text is e) = is
found_text bytes (too_long h e) = absurd (omega (arith, ap (λ (a : ℕ × List ℕ). a.0) e))
found_text bytes (ill_formed place h f i e) = absurd (omega (arith, ap (λ (a : ℕ × List ℕ). a.0) e))

pub starts : (bytes : List ℕ) → IsUtf8 bytes → IsPlace bytes 0
starts bytes u = record { formed = encodes-chars bytes u; characters = scalars-chars bytes u; boundary = IsCharBoundary-start bytes u }

pub starts_empty : IsPlace [] 0
starts_empty = starts [] IsUtf8-nil
