-- Characters in the bytes of a text.
use Rattle.std.specs.Prelude.{◌≡◌, ℕ, ◌+◌, ◌-◌, ◌≤◌, Bool, true, false, ◌&&◌, List, [], ◌∷◌, length, take, drop, ◌==◌, slice_index_or}
use Rattle.std.proofs.Math.Utf8.{encodes, scalars}
use Rattle.std.specs.Str.{IsCharBoundary, chars}

-- well-formed bytes, and a place between two of their characters
pub record IsPlace (text : List ℕ) (at : ℕ) : Type 0 where
  pub formed : encodes (chars text) ≡ text
  pub characters : scalars (chars text) ≡ true
  pub boundary : IsCharBoundary text at

-- the characters from a place on
abbrev pub ahead_at : List ℕ → ℕ → List ℕ
ahead_at text at = chars (drop at text)

-- the characters wanted are there, first of those ahead
abbrev pub begins : List ℕ → List ℕ → Bool
begins [] ahead = true
begins (c ∷ wanted) [] = false
begins (c ∷ wanted) (a ∷ ahead) = a == c && begins wanted ahead

-- a byte three times, from a place on
pub record Thrice (text : List ℕ) (at byte : ℕ) : Type 0 where
  pub long : at + 3 ≤ length text
  pub first : slice_index_or text at 0 ≡ byte
  pub second : slice_index_or text (at + 1) 0 ≡ byte
  pub third : slice_index_or text (at + 2) 0 ≡ byte

-- bounds in their order, each between two characters
pub record Cut (text : List ℕ) (start end : ℕ) : Type 0 where
  pub order : start ≤ end
  pub from : IsCharBoundary text start
  pub to : IsCharBoundary text end

-- what is between such bounds
pub record IsPart (text : List ℕ) (start end : ℕ) (bytes : List ℕ) : Type 0 where
  pub cut : Cut text start end
  pub all : bytes ≡ take (end - start) (drop start text)
