-- What is ahead of a place in a text is a text again, and each character is given or ahead.
use Rattle.std.specs.Prelude.{◌≡◌, ◌+◌, ◌≤◌, true, length, take, IsUtf8}
use Rattle.std.proofs.Common.{sym, ap, ◌∙◌, arith, length-append, length-drop, take-append-drop}
use Rattle.std.proofs.Math.Utf8.{encodes, scalars}
use Rattle.std.specs.Str.{chars}
use Rattle.std.proofs.lemmas.Str.{IsUtf8-take, IsUtf8-drop, chars-append}
use Rattle.std.proofs.lemmas.Str.{encodes-chars, scalars-chars}
use Rattle.error.specs.Limit.{text_limit}
use Rattle.source.specs.declared.text.TextChars.{TextChars}
use Rattle.source.specs.Texts.{text_rest, text_ahead, text_given, text_count}

is_text : (s : TextChars) → IsUtf8 s.text.now
is_text s = (chars s.text.now, (s.characters, s.formed))

pub rest_is_text : (s : TextChars) → IsUtf8 (text_rest s)
rest_is_text s = IsUtf8-drop s.text.now s.place (is_text s) s.boundary

pub text_characters : (s : TextChars) → scalars (text_ahead s) ≡ true
text_characters s = scalars-chars (text_rest s) (rest_is_text s)

pub text_short : (s : TextChars) → length (encodes (text_ahead s)) ≤ text_limit
text_short s =
    let l = ap length (encodes-chars (text_rest s) (rest_is_text s)) in
    let d = length-drop s.place s.text.now in
    omega (arith, s.short)

pub text_counts : (s : TextChars) → text_given s + length (text_ahead s) ≡ text_count s
text_counts s =
    let front = take s.place s.text.now in
    let u = IsUtf8-take s.text.now s.place (is_text s) s.boundary in
    sym (length-append (chars front) (text_ahead s))
    ∙ ap length (sym (chars-append front (text_rest s) u))
    ∙ ap (λ xs. length (chars xs)) (take-append-drop s.place s.text.now)
