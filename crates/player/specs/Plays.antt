-- What a line of answer says of the input before its call, v, and after it, w, and of the rooms
-- before, x, and after, y.
use Rattle.std.specs.Prelude.{◌≡◌, ℕ, Bool, true, false, cond, List, [], Option, decimal, ◌==◌, slice_range}
use Rattle.input.specs.View.{View}
use Rattle.input.specs.Tests.{Shown}
use Rattle.calls.specs.declared.call.Answer.{Answer}
use Rattle.calls.specs.declared.call.Call.{Call}
use Rattle.calls.specs.declared.call.NoClass.{NoClass}
use Rattle.calls.specs.Entries.{Entry, Means, filled_after}
use Rattle.calls.specs.Kinds.{kind_of}
use Rattle.protocol.specs.declared.names.Probe.{Probe}
use Rattle.protocol.specs.Answers.{answer_text, part_text, steps_text, line_of}
use Rattle.protocol.specs.Values.{truth_name}
use Rattle.player.specs.declared.rooms.Rooms.{Rooms}
use Rattle.player.specs.Rooms.{next_bytes, next_filled, IsLastRoom}

-- no character is in a class that no line can name
abbrev pub no_member : NoClass → ℕ → Bool
no_member class c = false

-- a call with its room, its answer, and what it left in its room
abbrev pub entry : Call NoClass → List ℕ → ℕ → Answer → List ℕ → Entry NoClass
entry call room filled answer left =
    record { call = call; room = room; filled = filled; answer = answer; left = left }

-- the bytes that were appended to the room
abbrev pub appended_bytes : Entry NoClass → List ℕ
appended_bytes e = slice_range e.left e.filled (filled_after e.filled e.answer)

-- A call of an input that shows this went as the language of calls says, and its line tells its
-- answer.
pub record AnswersCall {H : Type 0} (s : Shown) (e : Entry NoClass) (line : List ℕ) (v w : View H)
    : Type 0 where
  pub means : Means no_member s e.call e v w
  pub tells : line ≡ line_of (answer_text e.answer (appended_bytes e))

-- a fetch has the room that is next, and another call has none
abbrev pub room_of : Call NoClass → Rooms → List ℕ
room_of call x = cond (kind_of call).fetches (next_bytes x.next) []

abbrev pub filled_of : Call NoClass → Rooms → ℕ
filled_of call x = cond (kind_of call).fetches (next_filled x.next) 0

-- the room of a fetch becomes the last, and another call leaves the rooms as they were
abbrev pub RoomsGo : Bool → List ℕ → Rooms → Rooms → Type 0
RoomsGo true left x y = IsLastRoom left y
RoomsGo false left x y = y ≡ x

-- the line that a call is answered with
pub record Plays {H : Type 0} (s : Shown) (call : Call NoClass) (line : List ℕ) (x y : Rooms)
    (v w : View H) : Type 0 where
  pub answer : Answer
  pub left : List ℕ
  pub goes : AnswersCall s (entry call (room_of call x) (filled_of call x) answer left) line v w
  pub rooms : RoomsGo (kind_of call).fetches left x y

-- the line that a probe is answered with, of an input that has a source which was stepped so often,
-- or none, and lends these parts
abbrev pub Probes : {H : Type 0} → Option ℕ → (ℕ → ℕ → Option (List ℕ) → Type 0) → Probe
    → List ℕ → View H → Type 0
Probes stepped Lends Probe.Buflen line v = line ≡ line_of (decimal v.window)
Probes stepped Lends Probe.Bufmaxlen line v = line ≡ line_of (decimal v.manner.most)
Probes stepped Lends Probe.BufIsEmpty line v = line ≡ line_of (truth_name (v.window == 0))
Probes stepped Lends (Probe.SliceBorrowed start end) line v =
    (part : Option (List ℕ)) × Lends start end part × (line ≡ line_of (part_text part))
Probes stepped Lends Probe.Steps line v = line ≡ line_of (steps_text stepped)
