-- What a new ring over a text has ahead.
use Rattle.std.proofs.Common.{◌≡◌, ℕ, List}
use Rattle.std.proofs.Math.Utf8.{encodes}
use Rattle.std.proofs.lemmas.Str.{chars_from_encodes}
use Rattle.std.specs.Str.{chars}
use Rattle.source.specs.declared.text.TextChars.{TextChars}
use Rattle.source.specs.Texts.{text_ahead}
use Rattle.source.specs.TextsLaws.{text_characters}

pub text_all : (s : TextChars) (bytes : List ℕ) → encodes (text_ahead s) ≡ bytes → text_ahead s ≡ chars bytes
text_all s bytes e = chars_from_encodes (text_ahead s) bytes (text_ahead s, (text_characters s, e)) e
