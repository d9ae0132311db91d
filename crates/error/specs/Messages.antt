-- What is printed of a refusal: its words, its place if it has one, and its number.
use Rattle.std.specs.Prelude.{ℕ, List, [], ◌++◌, codes, decimal}
use Rattle.error.specs.declared.FaultKind.{FaultKind}
use Rattle.error.specs.declared.FaultKind.TheVariants.{InputIo, InputDecoding}
use Rattle.error.specs.declared.Refusal.{Refusal}
use Rattle.error.specs.declared.Refusal.TheVariants.{TooLong, IllFormed, NotACharacter, NarrowWindow, CommentNotSeparated, BeyondRoom, RoomFull, Source}
use Rattle.error.specs.Numbers.{number}

abbrev pub kind_words : FaultKind → List ℕ
kind_words InputIo = codes "the line failed"
kind_words InputDecoding = codes "the source's bytes or codes are no text"

abbrev pub words : Refusal → List ℕ
words TooLong = codes "too long"
words (IllFormed place) = codes "not UTF-8"
words NotACharacter = codes "a compared number is no character"
words NarrowWindow = codes "the window is too small for this test"
words CommentNotSeparated = codes "a comment must be separated by a blank"
words BeyondRoom = codes "the filled count lies beyond the room"
words RoomFull = codes "the next character does not fit the room"
words (Source fault) = kind_words fault.kind

abbrev pub place_words : Refusal → List ℕ
place_words TooLong = []
place_words (IllFormed place) = codes " at byte " ++ decimal place
place_words NotACharacter = []
place_words NarrowWindow = []
place_words CommentNotSeparated = []
place_words BeyondRoom = []
place_words RoomFull = []
place_words (Source fault) = codes " at character " ++ decimal fault.place

abbrev pub message : Refusal → List ℕ
message refusal =
    words refusal
    ++ (place_words refusal
    ++ (codes " (refusal " ++ (decimal (number refusal).0 ++ codes ")")))
