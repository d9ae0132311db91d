-- How the classes lie to each other.
use Rattle.std.specs.Prelude.{◌≡◌, ℕ, Bool, true, false}
use Rattle.char_traits.specs.Chars.{z, line_break, breakz, blank, blank_or_breakz, digit, word, alpha, hex, flow, bom, printable, yaml_non_break, yaml_non_space, anchor, uri, tag}

-- every character of the first is one of the second
abbrev pub Within : (ℕ → Bool) → (ℕ → Bool) → Type 0
Within p q = (c : ℕ) → p c ≡ true → q c ≡ true

-- no character is in both
abbrev pub Apart : (ℕ → Bool) → (ℕ → Bool) → Type 0
Apart p q = (c : ℕ) → p c ≡ true → q c ≡ false

pub record Ties : Type 0 where
  pub break_breakz : Within line_break breakz
  pub z_breakz : Within z breakz
  pub break_printable : Within line_break printable
  pub blank_non_break : Within blank yaml_non_break
  pub digit_hex : Within digit hex
  pub hex_word : Within hex word
  pub word_alpha : Within word alpha
  pub alpha_uri : Within alpha uri
  pub uri_non_space : Within uri yaml_non_space
  pub tag_anchor : Within tag anchor
  pub flow_non_space : Within flow yaml_non_space
  pub non_space_non_break : Within yaml_non_space yaml_non_break
  pub non_break_printable : Within yaml_non_break printable
  pub blank_breakz : Apart blank breakz
  pub non_break_breakz : Apart yaml_non_break breakz
  pub non_space_blank_or_breakz : Apart yaml_non_space blank_or_breakz
  pub alpha_flow : Apart alpha flow
  pub anchor_flow : Apart anchor flow
  pub z_printable : Apart z printable
  pub bom_non_break : Apart bom yaml_non_break
