-- What is known of a set of characters before any is held against it.
use Rattle.std.specs.Prelude.{◌≡◌, ℕ, ◌<◌, ◌≤◌, Bool, true, false, not, ◌&&◌, nat_le}
use Rattle.std.proofs.Math.Utf8.{scalar}
use Rattle.std.specs.Int.{is_in_range}
use Rattle.char_traits.specs.Chars.{flow}
use Rattle.char_traits.specs.declared.known.Known.{Known}
use Rattle.char_traits.specs.declared.known.Wide.{Wide}
use Rattle.char_traits.specs.declared.known.Wide.TheVariants.{Asked, Printable, All}

-- the wide characters that are known to be in it
abbrev pub widely : Wide → ℕ → Bool
widely Asked c = false
widely Printable c = nat_le 0xC0 c && not (is_in_range 0xF000 0xFFFF c)
widely All c = true

-- a range of ASCII, but for the flow characters if these are left out, and these wide characters are all in the set
pub record Knows (member : ℕ → Bool) (k : Known) : Type 0 where
  pub bounds : (k.low ≤ 128) × (k.high < 128)
  pub ascii : (c : ℕ) → k.low ≤ c → c ≤ k.high → (k.but_flow && flow c) ≡ false → member c ≡ true
  pub wide : (c : ℕ) → scalar c ≡ true → 128 ≤ c → widely k.wide c ≡ true → member c ≡ true

-- printable characters from one of ASCII on, but for the wide ones that are asked
abbrev pub printable_from : ℕ → Known
printable_from low = record { low = low; high = 0x7E; wide = Printable; but_flow = false }

-- all characters from one of ASCII on
abbrev pub all_from : ℕ → Known
all_from low = record { low = low; high = 0x7F; wide = All; but_flow = false }

abbrev pub without_flow : Known → Known
without_flow k = record { low = k.low; high = k.high; wide = k.wide; but_flow = true }
