-- What each predicate says of a character.
use Rattle.std.specs.Prelude.{◌≡◌, ℕ, Bool, Ok, Err, Result}
use Rattle.std.specs.Char.{IsScalar}
use Rattle.error.specs.declared.Refusal.{Refusal}
use Rattle.error.specs.declared.Refusal.TheVariants.{NotACharacter}
use Rattle.char_traits.specs.Chars.{z, line_break, breakz, blank, blank_or_breakz, digit, alpha, hex, flow, bom, yaml_non_break, printable, yaml_non_space, anchor, word, uri, tag}
use Rattle.protocol.specs.declared.names.Predicate.{Predicate}

abbrev pub holds_of : Predicate → ℕ → Bool
holds_of Predicate.Z = z
holds_of Predicate.Break = line_break
holds_of Predicate.Breakz = breakz
holds_of Predicate.Blank = blank
holds_of Predicate.BlankOrBreakz = blank_or_breakz
holds_of Predicate.Digit = digit
holds_of Predicate.Alpha = alpha
holds_of Predicate.Hex = hex
holds_of Predicate.Flow = flow
holds_of Predicate.Bom = bom
holds_of Predicate.NonBreak = yaml_non_break
holds_of Predicate.Printable = printable
holds_of Predicate.NonSpace = yaml_non_space
holds_of Predicate.Anchor = anchor
holds_of Predicate.Word = word
holds_of Predicate.Uri = uri
holds_of Predicate.Tag = tag

-- whether the predicate holds of the character of a code, or that the code is no character's
abbrev pub AnswersClass : (ℕ → Bool) → ℕ → Result Bool Refusal → Type 0
AnswersClass holds code r =
    (IsScalar code → r ≡ Ok (holds code)) × ((IsScalar code → ⊥) → r ≡ Err NotACharacter)
