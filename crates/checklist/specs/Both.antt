-- One text, read by card and by cable.
use Rattle.std.specs.Prelude.{◌≡◌, ℕ, List, []}
use Rattle.std.proofs.Math.Utf8.{encodes}
use Rattle.std.specs.Str.{chars}
use Rattle.error.specs.Numbers.{clean, number}
use Rattle.input.specs.declared.Closing.{Closing}
use Rattle.input.specs.View.{IsNew, View}
use Rattle.input.specs.Calls.{closing_number}
use Rattle.utf8.specs.Checking.{ChecksText}
use Rattle.buffered.specs.Fallible.{failing_view}
use Rattle.str_input.specs.Text.{text_view}
use Rattle.checklist.specs.declared.both.Sides.{Sides}
use Rattle.checklist.specs.declared.both.Unread.{Unread}
use Rattle.checklist.specs.declared.both.Unread.TheVariants.{Refused, Memory}

-- all of the text is ahead, and the ending is clean
pub record AllAhead {H : Type 0} (bytes : List ℕ) (v : View H) : Type 0 where
  pub new : IsNew v
  pub all : v.ahead ≡ chars bytes
  pub finish : v.ending ≡ clean

-- by card and by cable
pub record OnBoth (bytes : List ℕ) (x : Sides) : Type 0 where
  pub text : encodes (chars bytes) ≡ bytes
  pub card : AllAhead bytes (text_view x.card)
  pub cable : AllAhead bytes (failing_view x.cable)

-- the characters of both are the same, they are the text, byte for byte, and both closings say whole
pub record WholeText (bytes card : List ℕ) (card_closing : Closing) (cable : List ℕ)
    (cable_closing : Closing) : Type 0 where
  pub same : card ≡ cable
  pub all : encodes card ≡ bytes
  pub card_whole : closing_number card_closing ≡ (0, [])
  pub cable_whole : closing_number cable_closing ≡ (0, [])

-- bytes that are no text are refused; want of memory says nothing of them
abbrev pub RefusedFor : List ℕ → Unread → Type 0
RefusedFor bytes (Refused refusal) = ChecksText bytes (number refusal)
RefusedFor bytes (Memory e) = Unit {0}
