-- What a longest front is, and a fetch of all of a run.
use Rattle.std.specs.Prelude.{◌≡◌, ℕ, ◌+◌, ◌<◌, ◌≤◌, Bool, true, List, length, take, drop, slice_index}
use Rattle.std.proofs.Math.Utf8.{encodes}
use mathlib.Core.List.{IsPrefix}
use Rattle.char_traits.specs.Chars.{plain_safe}
use Rattle.utf8.specs.Room.{overlay}
use Rattle.input.specs.View.{View}
use Rattle.runs.specs.declared.Fetched.{Fetched}

-- the first characters of what is ahead, as many as there can be of which this holds
pub record LongestFront (Holds : ℕ → Type 0) (ahead run : List ℕ) : Type 0 where
  pub front : IsPrefix run ahead
  pub holds : Holds (length run)
  pub longest : (n : ℕ) → n ≤ length ahead → Holds n → n ≤ length run

-- a run goes on with each of the first n, by it and the character after it, which is NUL at the end
abbrev pub GoesOn : (ℕ → ℕ → Bool) → List ℕ → ℕ → Type 0
GoesOn go ahead n = (i : ℕ) → i < n → go (slice_index ahead i) (slice_index ahead (i + 1)) ≡ true

-- each of the first n is of the class
abbrev pub OfClass : (ℕ → Bool) → List ℕ → ℕ → Type 0
OfClass class ahead n = (i : ℕ) → i < n → class (slice_index ahead i) ≡ true

-- each of the first n may stand in a plain scalar, a : only before one that may
pub record Plain (in_flow : Bool) (ahead : List ℕ) (n : ℕ) : Type 0 where
  pub safe : OfClass (plain_safe in_flow) ahead n
  pub colons : (i : ℕ) → i < n → slice_index ahead i ≡ 0x3A
      → plain_safe in_flow (slice_index ahead (i + 1)) ≡ true

-- the bytes of the first n are so many at most
abbrev pub Fits : ℕ → List ℕ → ℕ → Type 0
Fits free cs n = length (encodes (take n cs)) ≤ free

-- all of a run was taken and appended
pub record FetchesAll {H : Type 0} (run room : List ℕ) (filled : ℕ) (r : Fetched) (left : List ℕ)
    (v w : View H) : Type 0 where
  pub count : r.count ≡ length run
  pub fills : r.filled ≡ filled + length (encodes run)
  pub bytes : left ≡ overlay room filled (encodes run)
  pub ahead : w.ahead ≡ drop (length run) v.ahead
