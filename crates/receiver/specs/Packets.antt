-- What packets are as a source.
use Rattle.std.specs.Prelude.{ℕ, ◌+◌, cond, List, [], ◌∷◌, length, Some, None, Option}
use Rattle.std.proofs.Math.Utf8.{scalar}
use Rattle.error.specs.Numbers.{Ending}
use Rattle.source.specs.Starts.{Starts}
use Rattle.source.specs.Codes.{stated_end}
use Rattle.receiver.specs.declared.packets.Packets.{Packets}

-- the characters of slots, without the gaps; each `char` of a program is a character
abbrev pub slot_chars : List (Option ℕ) → List ℕ
slot_chars [] = []
slot_chars (None ∷ slots) = slot_chars slots
slot_chars (Some c ∷ slots) = cond (scalar c) (c ∷ slot_chars slots) (slot_chars slots)

abbrev pub packets_ahead : Packets → List ℕ
packets_ahead p = slot_chars p.slots.now

abbrev pub packets_given : Packets → ℕ
packets_given p = p.given

abbrev pub packets_ending : Packets → Ending
packets_ending p = stated_end p.ending (p.given + length (packets_ahead p))

abbrev pub PacketsStart : Packets → List ℕ → Ending → Type 0
PacketsStart p chars finish =
    Starts (packets_ahead p) (packets_ending p) (packets_given p) chars finish
