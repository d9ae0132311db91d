-- The words of a text.
use Rattle.std.specs.Prelude.{◌≡◌, ℕ, Bool, true, false, List, [], ◌∷◌, Some, None, Option}
use Rattle.std.specs.Borrow.{Bor}
use Rattle.std.specs.List.{filter, slice_split}
use Rattle.std.specs.Char.{is_ascii_whitespace}
use Rattle.std.specs.Str.Iter.{split_ascii_whitespace_text}
use Rattle.std.specs.declared.str.SplitAsciiWhitespace.{SplitAscii}

abbrev pub has_any : List ℕ → Bool
has_any [] = false
has_any (b ∷ bytes) = true

-- what stands between white space, where anything does
abbrev pub words_of : List ℕ → List (List ℕ)
words_of text = filter has_any (slice_split is_ascii_whitespace text)

-- the words that are yet to come
abbrev pub words_left : SplitAscii → List (List ℕ)
words_left words = words_of (split_ascii_whitespace_text words)

-- the first of the words is taken, or there is none
abbrev pub TakesWord : List (List ℕ) → Option (Bor (List ℕ)) → List (List ℕ) → Type 0
TakesWord words None rest = (words ≡ []) × (rest ≡ [])
TakesWord words (Some word) rest = words ≡ word.now ∷ rest
