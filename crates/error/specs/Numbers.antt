-- The table of refusals: the number of each, with its values.
use Rattle.std.specs.Prelude.{◌≡◌, ℕ, List, [], ◌∷◌, Some, None, Ok, Err, Option, Result}
use Rattle.error.specs.declared.FaultKind.{FaultKind}
use Rattle.error.specs.declared.FaultKind.TheVariants.{InputIo, InputDecoding}
use Rattle.error.specs.declared.Fault.{Fault}
use Rattle.error.specs.declared.Refusal.{Refusal}
use Rattle.error.specs.declared.Refusal.TheVariants.{TooLong, IllFormed, NotACharacter, NarrowWindow, CommentNotSeparated, BeyondRoom, RoomFull, Source}

abbrev pub kind_number : FaultKind → ℕ
kind_number InputIo = 8
kind_number InputDecoding = 9

-- a fault comes with its place
abbrev pub fault_number : Fault → ℕ × List ℕ
fault_number fault = (kind_number fault.kind, fault.place ∷ [])

-- an ill-formed text comes with the place of its first bad character
abbrev pub number : Refusal → ℕ × List ℕ
number TooLong = (1, [])
number (IllFormed place) = (2, place ∷ [])
number NotACharacter = (3, [])
number NarrowWindow = (4, [])
number CommentNotSeparated = (5, [])
number BeyondRoom = (6, [])
number RoomFull = (7, [])
number (Source fault) = fault_number fault

-- how a source ends: clean, or with a fault
abbrev pub Ending : Type 0
Ending = Result (Unit {0}) Fault

abbrev pub clean : Ending
clean = Ok tt

abbrev pub fault_of : Ending → Option Fault
fault_of (Ok done) = None
fault_of (Err fault) = Some fault

-- a clean ending has the number 0
abbrev pub ending_number : Ending → ℕ × List ℕ
ending_number (Ok done) = (0, [])
ending_number (Err fault) = fault_number fault

-- a fault's place is the number of characters that were given before it
abbrev pub PlacedAt : Ending → ℕ → Type 0
PlacedAt (Ok done) n = Unit {0}
PlacedAt (Err fault) n = fault.place ≡ n

-- an answer that may be refused: 0 where it is not, with what `given` says of it
abbrev pub outcome : {T : Type 0} → (T → List ℕ) → Result T Refusal → ℕ × List ℕ
outcome given (Ok x) = (0, given x)
outcome given (Err refusal) = number refusal
