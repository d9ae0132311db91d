-- A place in a text, and later places in the same text.
use Rattle.std.specs.Prelude.{◌≡◌, ℕ, ◌<◌, ◌≤◌, List, [], ◌∷◌, length, drop, Option, MatchOption}
use Rattle.error.specs.Limit.{text_limit}
use Rattle.text_bytes.specs.declared.cursor.Cursor.{Cursor}
use Rattle.text_bytes.specs.Bytes.{ahead_at}

-- all of the bytes
abbrev pub text_of : Cursor → List ℕ
text_of x = x.text.now

-- how many bytes lie before the place
abbrev pub place_of : Cursor → ℕ
place_of x = x.place

-- the characters from the place on
abbrev pub ahead_from : Cursor → List ℕ
ahead_from x = ahead_at x.text.now x.place

-- all of a text is ahead
pub record IsStart (bytes : List ℕ) (x : Cursor) : Type 0 where
  pub text : x.text.now ≡ bytes
  pub place : x.place ≡ 0
  pub short : length bytes ≤ text_limit

-- it stands in these bytes, at this place
pub record IsAt (bytes : List ℕ) (n : ℕ) (x : Cursor) : Type 0 where
  pub text : x.text.now ≡ bytes
  pub place : x.place ≡ n

-- a place further on in one text, or the same place
pub record IsLater (x y : Cursor) : Type 0 where
  pub text : y.text.now ≡ x.text.now
  pub order : x.place ≤ y.place

-- a character, and the place after it
pub record StepsTo (x : Cursor) (c : ℕ) (y : Cursor) : Type 0 where
  pub text : y.text.now ≡ x.text.now
  pub first : ahead_from x ≡ c ∷ ahead_from y
  pub onward : x.place < y.place

abbrev pub ShowsFirst : Cursor → Option (ℕ × Cursor) → Type 0
ShowsFirst x r = MatchOption r (ahead_from x ≡ []) (λ found. StepsTo x found.0 found.1)

-- so many characters on, or at the end
pub record IsPast (x : Cursor) (n : ℕ) (y : Cursor) : Type 0 where
  pub text : y.text.now ≡ x.text.now
  pub ahead : ahead_from y ≡ drop n (ahead_from x)
