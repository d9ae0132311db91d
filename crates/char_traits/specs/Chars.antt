-- The classes of characters, from the productions of YAML 1.2.2. A character is its number.
use Rattle.std.specs.Prelude.{ℕ, ◌-◌, Bool, cond, not, ◌&&◌, ◌||◌, ◌==◌}
use Rattle.std.specs.Int.{is_in_range}

-- NUL, which the reader also shows past the end
abbrev pub z : ℕ → Bool
z c = c == 0x00

-- b-char: line feed, carriage return
abbrev pub line_break : ℕ → Bool
line_break c = c == 0x0A || c == 0x0D

abbrev pub breakz : ℕ → Bool
breakz c = line_break c || z c

-- s-white: space, tab
abbrev pub blank : ℕ → Bool
blank c = c == 0x20 || c == 0x09

abbrev pub blank_or_breakz : ℕ → Bool
blank_or_breakz c = blank c || breakz c

-- ns-dec-digit: 0 to 9
abbrev pub digit : ℕ → Bool
digit c = is_in_range 0x30 0x39 c

-- ns-ascii-letter: A to Z, a to z
abbrev pub letter : ℕ → Bool
letter c = is_in_range 0x41 0x5A c || is_in_range 0x61 0x7A c

-- ns-word-char: a digit, a letter, -
abbrev pub word : ℕ → Bool
word c = digit c || (letter c || c == 0x2D)

-- a word character or _, which YAML does not have here
abbrev pub alpha : ℕ → Bool
alpha c = word c || c == 0x5F

-- ns-hex-digit: 0 to 9, A to F, a to f
abbrev pub hex : ℕ → Bool
hex c = digit c || (is_in_range 0x41 0x46 c || is_in_range 0x61 0x66 c)

-- the value of a hexadecimal digit
abbrev pub hex_value : ℕ → ℕ
hex_value c = cond (digit c) (c - 0x30) (cond (is_in_range 0x41 0x46 c) (c - 0x37) (c - 0x57))

-- c-flow-indicator: , [ ] { }
abbrev pub flow : ℕ → Bool
flow c = c == 0x2C || (c == 0x5B || (c == 0x5D || (c == 0x7B || c == 0x7D)))

-- c-byte-order-mark
abbrev pub bom : ℕ → Bool
bom c = c == 0xFEFF

-- c-printable
abbrev pub printable : ℕ → Bool
printable c =
    (c == 0x09 || (c == 0x0A || (c == 0x0D || is_in_range 0x20 0x7E c)))
    || (c == 0x85
    || (is_in_range 0xA0 0xD7FF c
    || (is_in_range 0xE000 0xFFFD c || is_in_range 0x10000 0x10FFFF c)))

-- nb-char: c-printable without b-char and c-byte-order-mark
abbrev pub yaml_non_break : ℕ → Bool
yaml_non_break c = printable c && (not (line_break c) && not (bom c))

-- ns-char: nb-char without s-white
abbrev pub yaml_non_space : ℕ → Bool
yaml_non_space c = yaml_non_break c && not (blank c)

-- ns-anchor-char: ns-char without c-flow-indicator
abbrev pub anchor : ℕ → Bool
anchor c = yaml_non_space c && not (flow c)

-- ! # $ & ' ( ) * + , . / : ; = ? @ [ ] _ ~
abbrev pub uri_mark : ℕ → Bool
uri_mark c =
    (c == 0x21 || (is_in_range 0x23 0x24 c || (is_in_range 0x26 0x2C c || is_in_range 0x2E 0x2F c)))
    || ((is_in_range 0x3A 0x3B c || (c == 0x3D || is_in_range 0x3F 0x40 c))
    || (c == 0x5B || (c == 0x5D || (c == 0x5F || c == 0x7E))))

-- ns-uri-char, where a % may also stand alone
abbrev pub uri : ℕ → Bool
uri c = word c || (uri_mark c || c == 0x25)

-- ns-tag-char: ns-uri-char without ! and c-flow-indicator
abbrev pub tag : ℕ → Bool
tag c = uri c && (not (c == 0x21) && not (flow c))

-- the classes of a line that may have any character but its end, and of one that is printable
abbrev pub not_breakz : ℕ → Bool
not_breakz c = not (breakz c)

abbrev pub printable_not_breakz : ℕ → Bool
printable_not_breakz c = printable c && not (breakz c)

-- ns-plain-safe, which YAML has from ns-char: no blank and no breakz and, in flow, no flow indicator
abbrev pub plain_safe : Bool → ℕ → Bool
plain_safe in_flow c = not (blank_or_breakz c) && not (in_flow && flow c)
