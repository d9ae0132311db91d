-- The lines of a text.
use Rattle.std.specs.Prelude.{◌≡◌, ℕ, ◌+◌, ◌<◌, ◌≤◌, true, false, cond, ◌&&◌, List, [], ◌∷◌, length, take, drop, ◌==◌, slice_index}
use Rattle.char_traits.specs.Chars.{line_break, printable}

-- b-break: carriage return and line feed together, or one of them alone; 0 where no break stands
abbrev pub break_width : List ℕ → ℕ
break_width [] = 0
break_width (c ∷ []) = cond (line_break c) 1 0
break_width (c ∷ d ∷ cs) = cond (c == 0x0D && d == 0x0A) 2 (cond (line_break c) 1 0)

-- a line's characters, and these with its break
pub record Cuts (chars : List ℕ) (len whole : ℕ) : Type 0 where
  pub within : len ≤ length chars
  pub plain : (k : ℕ) → k < len → line_break (slice_index chars k) ≡ false
  pub ends : len < length chars → line_break (slice_index chars len) ≡ true
  pub with_break : whole ≡ len + break_width (drop len chars)
  pub inside : whole ≤ length chars
  pub moves : 0 < length chars → 0 < whole

-- a line's characters, and what stands after its break
pub record Splits (chars line rest : List ℕ) : Type 0 where
  pub whole : ℕ
  pub cuts : Cuts chars (length line) whole
  pub line_is : line ≡ take (length line) chars
  pub rest_is : rest ≡ drop whole chars

-- what a panel may draw: a printable character as it is, any other as the replacement character
abbrev pub drawing_of : ℕ → ℕ
drawing_of c = cond (printable c) c 0xFFFD
