-- What the keys of a keypad are as a source.
use Rattle.std.specs.Prelude.{ℕ, ◌+◌, cond, List, [], ◌∷◌, Err, nat_lt}
use Rattle.reader.specs.Numbers.{Ending, clean}
use Rattle.reader.specs.declared.FaultKind.TheVariants.{InputIo}
use Rattle.extend.specs.declared.keys.Keys.{Keys}

-- the digits of the keys before the first that has none
abbrev pub key_digits : List ℕ → List ℕ
key_digits [] = []
key_digits (key ∷ keys) = cond (nat_lt key 10) ((0x30 + key) ∷ key_digits keys) []

-- a key that has no digit is a fault of the line, after so many characters that were given
abbrev pub ending_after : ℕ → List ℕ → Ending
ending_after given [] = clean
ending_after given (key ∷ keys) =
    cond (nat_lt key 10) (ending_after (given + 1) keys)
    (Err (record { kind = InputIo; place = given }))

abbrev pub keys_ahead : Keys → List ℕ
keys_ahead s = key_digits s.keys.now

abbrev pub keys_ending : Keys → Ending
keys_ending s = ending_after s.given s.keys.now

abbrev pub keys_given : Keys → ℕ
keys_given s = s.given
