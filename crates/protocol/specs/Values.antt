-- What a word writes: a number, a flag, bytes.
use Rattle.std.specs.Prelude.{◌≡◌, ◌≢◌, ℕ, ◌+◌, ◌*◌, ◌^◌, ◌<◌, ◌⊎◌, Bool, true, false, List, [], length, Some, None, vec_items, codes, Option, Vec, slice_index}
use Rattle.std.specs.Str.Parse.{IsNumeral, digits_value, without_leading_plus}
use Rattle.std.specs.Char.{digit_value}
use Rattle.std.specs.declared.alloc.Global.{Global}
use Rattle.runs.specs.declared.SkipTabs.{SkipTabs}
use Rattle.runs.specs.declared.SkipTabs.TheVariants.{Yes, No}
use Rattle.source.specs.declared.codes.CodesEnding.{CodesEnding}
use Rattle.source.specs.declared.codes.CodesEnding.TheVariants.{Clean, InputIo}

-- digits in this base, after a plus or nothing, and the number fits its bits
abbrev pub WritesNumber : ℕ → ℕ → List ℕ → Type 0
WritesNumber bits base word =
    IsNumeral base (without_leading_plus word)
    × (digits_value base (without_leading_plus word) < 2 ^ bits)

-- the number that a word writes, or none if it writes none
abbrev pub ReadsNumber : ℕ → ℕ → List ℕ → Option ℕ → Type 0
ReadsNumber bits base word None = WritesNumber bits base word → ⊥
ReadsNumber bits base word (Some n) =
    WritesNumber bits base word × (n ≡ digits_value base (without_leading_plus word))

-- a word names the one whose name it is, or else none
abbrev pub IsNamed : {T : Type 0} → (T → List ℕ) → List ℕ → Option T → Type 0
IsNamed {T = T} name word None = (x : T) → name x ≢ word
IsNamed name word (Some x) = name x ≡ word

abbrev pub truth_name : Bool → List ℕ
truth_name true = codes "true"
truth_name false = codes "false"

abbrev pub skip_tabs_name : SkipTabs → List ℕ
skip_tabs_name Yes = codes "yes"
skip_tabs_name No = codes "no"

abbrev pub ending_name : CodesEnding → List ℕ
ending_name Clean = codes "clean"
ending_name InputIo = codes "io"

-- two hexadecimal digits of either case spell a byte
abbrev pub SpellsByte : ℕ → ℕ → ℕ → Type 0
SpellsByte high low byte =
    (digit_value high < 16) × (digit_value low < 16)
    × (byte ≡ digit_value high * 16 + digit_value low)

-- the digits of a word, two by two, spell these bytes
pub record Spells (word bytes : List ℕ) : Type 0 where
  pub size : length word ≡ 2 * length bytes
  pub each : (k : ℕ) → k < length bytes
      → SpellsByte (slice_index word (2 * k)) (slice_index word (2 * k + 1)) (slice_index bytes k)

-- the bytes that a word spells, or none if it spells none
abbrev pub SpellsSome : List ℕ → Option (Vec ℕ Global) → Type 0
SpellsSome word None = (bytes : List ℕ) → Spells word bytes → ⊥
SpellsSome word (Some bytes) = Spells word (vec_items bytes)

-- a dash stands for no bytes, and any other word for the bytes that it spells
abbrev pub StandsFor : List ℕ → List ℕ → Type 0
StandsFor word bytes = ((word ≡ codes "-") × (bytes ≡ [])) ⊎ Spells word bytes
