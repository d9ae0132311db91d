-- Line ends.
use Rattle.std.specs.Prelude.{◌≡◌, ℕ, suc, ◌+◌, ◌<◌, ◌≤◌, Bool, true, false, cond, ◌&&◌, List, [], ◌∷◌, length, drop, Option, ◌==◌, slice_index}
use Rattle.char_traits.specs.Chars.{breakz, digit}
use Rattle.input.specs.View.{View}
use Rattle.input.specs.Calls.{first_of}
use Rattle.input.specs.Tests.{start_marker, marker_in}
use Rattle.runs.specs.Runs.{at_hash}

-- whether a document start stands after so many characters
abbrev pub start_at : List ℕ → ℕ → Bool
start_at ahead place = start_marker (marker_in (λ n. slice_index (drop place ahead) n))

-- whether a # stands there
abbrev pub hash_at : List ℕ → ℕ → Bool
hash_at ahead place = at_hash (drop place ahead)

-- how many of some characters end a line
abbrev pub line_ends : List ℕ → ℕ
line_ends [] = 0
line_ends (c ∷ cs) = cond (breakz c) (suc (line_ends cs)) (line_ends cs)

-- no line end is passed, and the next character is told
pub record WithinLine {H : Type 0} (r : Option ℕ) (v w : View H) : Type 0 where
  pub ends : line_ends w.ahead ≡ line_ends v.ahead
  pub fewer : length w.ahead ≤ length v.ahead
  pub next : r ≡ first_of w.ahead

-- digits stand from a place to another, where none stands
pub record DigitsEnd (bytes : List ℕ) (from end : ℕ) : Type 0 where
  pub within : end ≤ length bytes
  pub digits : (k : ℕ) → from ≤ k → k < end → digit (slice_index bytes k) ≡ true
  pub stops : end < length bytes → digit (slice_index bytes end) ≡ false

-- a setpoint begins at a place: a digit after : and a space
abbrev pub setpoint_at : List ℕ → ℕ → Bool
setpoint_at bytes at =
    slice_index bytes at == 0x3A
    && (slice_index bytes (at + 1) == 0x20 && digit (slice_index bytes (at + 2)))

-- no setpoint begins before a place
abbrev pub NoSetpoint : List ℕ → ℕ → Type 0
NoSetpoint bytes place = (k : ℕ) → k < place → setpoint_at bytes k ≡ false

-- the digits of the first setpoint, or the end where there is none
pub data SetpointEnd (bytes : List ℕ) (end : ℕ) : Type 0 where
  after : (place : ℕ) → NoSetpoint bytes place → setpoint_at bytes place ≡ true
      → DigitsEnd bytes (place + 2) end → SetpointEnd bytes end
  none : NoSetpoint bytes (length bytes) → end ≡ length bytes → SetpointEnd bytes end
