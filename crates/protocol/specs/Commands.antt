-- The command that a line is.
use Rattle.std.specs.Prelude.{◌≡◌, ℕ, Bool, true, false, slice_index, ◌==◌, ◌≢◌, ◌⊎◌, List, [], ◌∷◌, Option, codes}
use Rattle.std.specs.Option.{unwrap_or}
use Rattle.std.specs.Str.{IsUtf8}
use Rattle.protocol.specs.Words.{words_of}
use Rattle.protocol.specs.Forms.{Form, Is, Count, Code, Size, Parses}
use Rattle.protocol.specs.Names.{call_forms, probe_forms, predicate_name}
use Rattle.protocol.specs.declared.command.Command.{Command}

-- the words of a command; a line that says nothing, a bad one and a new input's have none here
abbrev pub forms : Command → List Form
forms Command.Silent = []
forms Command.Bad = []
forms Command.New = []
forms (Command.Class predicate c) =
    Is (codes "class") ∷ Is (predicate_name predicate) ∷ Code c ∷ []
forms (Command.Room size filled) = Is (codes "room") ∷ Size size ∷ Count filled ∷ []
forms Command.RoomBytes = Is (codes "room_bytes") ∷ []
forms (Command.Call call) = call_forms call
forms (Command.Probe probe) = probe_forms probe

-- the command that the words are, or none where they are no command's
abbrev pub ReadsCommand : List (List ℕ) → Option Command → Type 0
ReadsCommand words command = Parses forms words command

-- a word that begins with a number sign makes its line a comment
abbrev pub is_comment : List ℕ → Bool
is_comment name = slice_index name 0 == 35

-- the command of a line with this name and these words after it
pub record Asks (name : List ℕ) (words : List (List ℕ)) (command : Command) : Type 0 where
  pub comment : is_comment name ≡ true → command ≡ Command.Silent
  pub new : name ≡ codes "new" → command ≡ Command.New
  pub known : is_comment name ≡ false → name ≢ codes "new"
      → (read : Option Command) × ReadsCommand (name ∷ words) read
      × (command ≡ unwrap_or read Command.Bad)

-- the command of a text with these words
abbrev pub AsksOf : List (List ℕ) → Command → Type 0
AsksOf [] command = command ≡ Command.Silent
AsksOf (name ∷ words) command = Asks name words command

-- the command that a line is; what is no text is bad
abbrev pub IsLine : List ℕ → Command → Type 0
IsLine line command =
    (IsUtf8 line × AsksOf (words_of line) command) ⊎ ((IsUtf8 line → ⊥) × (command ≡ Command.Bad))
