-- How far a run is known to go on, by the bytes of a text.
use Rattle.std.specs.Prelude.{◌≡◌, ℕ, ◌+◌, ◌<◌, ◌≤◌, Bool, false, cond, not, ◌&&◌, ◌||◌, List, length, drop, ◌==◌, nat_lt, nat_le, slice_index, slice_range}
use Rattle.std.specs.List.{count_by}
use Rattle.char_traits.specs.Chars.{flow}
use Rattle.char_traits.specs.declared.known.Known.{Known}
use Rattle.char_traits.specs.declared.known.Wide.{Wide}
use Rattle.char_traits.specs.declared.known.Wide.TheVariants.{Asked, Printable, All}
use Rattle.runs.specs.declared.Colon.{Colon}
use Rattle.runs.specs.declared.Colon.TheVariants.{Free, Stops, Leads}
use Rattle.runs.specs.Runs.{run_by}
use Rattle.text_bytes.specs.declared.cursor.Cursor.{Cursor}
use Rattle.text_bytes.specs.Cursors.{ahead_from}

-- a byte that begins a character: it does not begin with the bits 10
abbrev pub begins_one : ℕ → Bool
begins_one b = nat_lt b 0x80 || nat_le 0xC0 b

-- the first byte of a wide character that has to be asked, if these are known
abbrev pub must_ask : Wide → ℕ → Bool
must_ask Asked b = nat_le 0xC0 b
must_ask Printable b = b == 0xC2 || b == 0xEF
must_ask All b = false

-- the : of a run that has to look at it; NUL is in no class
abbrev pub colon_byte : Colon → ℕ
colon_byte Free = 0
colon_byte Stops = 0x3A
colon_byte Leads = 0x3A

-- the byte begins a character with which a run is not known to go on
abbrev pub unsure : Known → Colon → ℕ → Bool
unsure known colon b =
    (nat_lt b known.low || (nat_lt known.high b && nat_lt b 0x80))
    || ((must_ask known.wide b || b == colon_byte colon) || (known.but_flow && flow b))

-- so many characters of a run lie between two places of a text, each a byte or more
pub record Crosses (go : ℕ → ℕ → Bool) (x y : Cursor) (n : ℕ) : Type 0 where
  pub text : y.text.now ≡ x.text.now
  pub order : x.place + n ≤ y.place
  pub ahead : ahead_from y ≡ drop n (ahead_from x)
  pub run : length (run_by go (ahead_from x)) ≡ n + length (run_by go (ahead_from y))

-- from one place up to another no byte is unsure, and so many of them begin characters
pub record Spans (known : Known) (colon : Colon) (text : List ℕ) (from to count : ℕ) : Type 0 where
  pub order : from ≤ to
  pub inside : to ≤ length text
  pub each : (k : ℕ) → from ≤ k → k < to → unsure known colon (slice_index text k) ≡ false
  pub number : count ≡ count_by begins_one (slice_range text from to)

abbrev pub no_space : ℕ → Bool
no_space b = not (b == 0x20)

-- from one place up to another each byte is a space
pub record Spaces (text : List ℕ) (from to : ℕ) : Type 0 where
  pub order : from ≤ to
  pub inside : to ≤ length text
  pub each : (k : ℕ) → from ≤ k → k < to → slice_index text k ≡ 0x20

-- a lane of a vector that holds the answer of a test
abbrev pub lane : Bool → ℕ
lane t = cond t 255 0
