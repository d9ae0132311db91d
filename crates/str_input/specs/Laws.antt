-- What holds of every text as an input.
use Rattle.std.proofs.Common.{◌≤◌, length, drop, refl, ap, arith, length-drop}
use Rattle.std.proofs.lemmas.Bool.{false≢true}
use lib.Utf8.{encodes}
use Rattle.std.proofs.lemmas.Str.{encodes-chars, scalars-chars}
use Rattle.input.specs.View.{IsSound}
use Rattle.input.specs.Tests.{IsFaithful}
use Rattle.str_input.specs.declared.str_input.StrInput.{StrInput}
use Rattle.str_input.specs.Text.{ahead_of, text_view, text_shown}
use Rattle.text_bytes.specs.Cursors.{text_of, place_of}
use Rattle.text_bytes.proofs.Places.{rest_is_text}
use Rattle.text_bytes.proofs.Fronts.{begins_found}

pub ahead_short : (x : StrInput) → length (encodes (ahead_of x)) ≤ length (text_of x.at)
ahead_short x =
    let text = text_of x.at in
    let place = place_of x.at in
    let spelt = encodes-chars (drop place text) (rest_is_text text place x.at.placed) in
    omega (arith, ap length spelt, length-drop place text)

pub text_sound : (x : StrInput) → IsSound (text_view x)
text_sound x =
    let text = text_of x.at in
    let place = place_of x.at in
    record {
      characters = scalars-chars (drop place text) (rest_is_text text place x.at.placed);
      short = omega (arith, ahead_short x, x.short);
      waits = λ _. refl;
      steps = λ e. absurd (false≢true e);
    }

pub text_faithful : (x : StrInput) → IsFaithful (text_shown x) (text_view x)
text_faithful x =
    record {
      at = λ n h. refl;
      at_end = λ h. refl;
      matches = λ wanted h plain. begins_found wanted (ahead_of x) plain;
      marker = λ h. refl;
    }

pub text_wide : (x : StrInput) → 16 ≤ 128
text_wide x = omega arith
