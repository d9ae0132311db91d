-- What is answered to a command that asks nothing of an input.
use Rattle.std.specs.Prelude.{◌≡◌, ℕ, Bool, List, [], Result}
use Rattle.error.specs.declared.Refusal.{Refusal}
use Rattle.protocol.specs.Answers.{line_of, reply_text, test_text}
use Rattle.protocol.specs.Digits.{bytes_text}
use Rattle.protocol.specs.declared.answer.Reply.{Reply}
use Rattle.protocol.specs.declared.command.Command.{Command}
use Rattle.protocol.specs.declared.command.Command.TheVariants.{Silent, Bad, New, Class, Room, RoomBytes, Call, Probe}
use Rattle.player.specs.declared.rooms.Rooms.{Rooms}
use Rattle.player.specs.Predicates.{holds_of, AnswersClass}
use Rattle.player.specs.Rooms.{last_room, Asked}

-- the line, where the desk has these rooms; with no input, a call or a probe is told so
abbrev pub AsideLine : Command → Rooms → List ℕ → Type 0
AsideLine Silent rooms line = line ≡ []
AsideLine New rooms line = line ≡ []
AsideLine Bad rooms line = line ≡ line_of (reply_text Reply.Bad)
AsideLine (Class predicate code) rooms line =
    (r : Result Bool Refusal) × AnswersClass (holds_of predicate) code r
    × (line ≡ line_of (test_text r))
AsideLine (Room size filled) rooms line = line ≡ line_of (reply_text Reply.Done)
AsideLine RoomBytes rooms line = line ≡ line_of (bytes_text (last_room rooms))
AsideLine (Call call) rooms line = line ≡ line_of (reply_text Reply.NoInput)
AsideLine (Probe probe) rooms line = line ≡ line_of (reply_text Reply.NoInput)

-- only a line that asks for a room changes the rooms
abbrev pub AsideRooms : Command → Rooms → Rooms → Type 0
AsideRooms (Room size filled) x y = Asked size filled x y
AsideRooms command x y = y ≡ x
