-- Lines of a text.
use Rattle.std.specs.Prelude.{◌≡◌, ℕ, ◌+◌, ◌<◌, ◌≤◌, List, [], ◌∷◌, length, take, drop, Some, None, Option, ◌≢◌, slice_index}
use Rattle.std.specs.Borrow.{Bor}
use Rattle.protocol.specs.Commands.{IsLine}
use Rattle.protocol.specs.declared.command.Command.{Command}

-- A line from a place of a text: up to its first line feed, which belongs to no line, or to the
-- end.
pub record LineFrom (text : List ℕ) (from end next : ℕ) : Type 0 where
  pub starts : from ≤ end
  pub inside : end ≤ length text
  pub unbroken : (k : ℕ) → from ≤ k → k < end → slice_index text k ≢ 10
  pub ends : end < length text → (slice_index text end ≡ 10) × (next ≡ end + 1)
  pub last : end ≡ length text → next ≡ end

-- the first line feed of a text, if there is one
abbrev pub IsLineFeed : List ℕ → Option ℕ → Type 0
IsLineFeed text None = (k : ℕ) → k < length text → slice_index text k ≢ 10
IsLineFeed text (Some end) =
    (end < length text) × (slice_index text end ≡ 10)
    × ((k : ℕ) → k < end → slice_index text k ≢ 10)

-- the first line of a text is taken, and what is after it is left, or there is no line in an empty
-- text
abbrev pub TakesLine : List ℕ → Option (Bor (List ℕ)) → List ℕ → Type 0
TakesLine text None rest = (text ≡ []) × (rest ≡ [])
TakesLine text (Some line) rest =
    (0 < length text) × (next : ℕ) × LineFrom text 0 (length line.now) next
    × (line.now ≡ take (length line.now) text) × (rest ≡ drop next text)

-- these lines are taken, one after the other, and each is a command that asks for no new input
abbrev pub Passes : List ℕ → List (Bor (List ℕ)) → List ℕ → Type 0
Passes text [] rest = rest ≡ text
Passes text (line ∷ lines) rest =
    (left : List ℕ) × TakesLine text (Some line) left
    × ((command : Command) × IsLine line.now command × (command ≢ Command.New))
    × Passes left lines rest

-- some lines are
abbrev pub PassesSome : List ℕ → List ℕ → Type 0
PassesSome text rest = (lines : List (Bor (List ℕ))) × Passes text lines rest

-- lines are taken up to the first that asks for a new input, which is told, and what is after it is
-- left; where there is none, all are, and nothing is left
abbrev pub Leaves : List ℕ → Option (Bor (List ℕ)) → List ℕ → Type 0
Leaves text None rest = (rest ≡ []) × PassesSome text rest
Leaves text (Some line) rest =
    (left : List ℕ) × PassesSome text left × TakesLine left (Some line) rest
    × IsLine line.now Command.New
