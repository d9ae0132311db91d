-- What a source owes, of the keys of a keypad.
use Rattle.std.specs.Prelude.{◌≡◌, ℕ, ◌+◌, ◌<◌, ◌≤◌, Bool, true, false, cond, List, [], ◌∷◌, length, Err, nat_lt, refl}
use Rattle.std.proofs.Common.{◌∙◌, arith, length-append, subst}
use Rattle.std.proofs.Math.Utf8.{encode, encodes, scalar, scalars, low_scalar}
use Rattle.std.proofs.lemmas.Bool.{cond_both, and_from, ltb-true}
use Rattle.std.proofs.lemmas.Str.{length-encode, len_utf8_ascii}
use Rattle.reader.specs.Limit.{text_limit}
use Rattle.reader.specs.Numbers.{PlacedAt}
use Rattle.reader.specs.Steps.{Placed}
use Rattle.reader.specs.declared.FaultKind.TheVariants.{InputIo}
use Rattle.extend.specs.Keys.{key_digits, ending_after, keys_ahead, keys_ending, keys_given}
use Rattle.extend.specs.declared.keys.Keys.{Keys}

are_characters : (keys : List ℕ) → scalars (key_digits keys) ≡ true
are_characters [] = refl
are_characters (key ∷ keys) =
    let P : List ℕ → Type 0 = λ cs. scalars cs ≡ true in
    let c = 0x30 + key in
    cond_both (nat_lt key 10) _ _ P
    (λ e. and_from (scalar c) _ (low_scalar c (omega (arith, ltb-true key 10 e)))
    (are_characters keys)) (λ _. refl)

-- a digit is one byte
no_longer : (keys : List ℕ) → length (encodes (key_digits keys)) ≤ length keys
no_longer [] = omega arith
no_longer (key ∷ keys) =
    let P : List ℕ → Type 0 = λ cs. length (encodes cs) ≤ length (key ∷ keys) in
    let c = 0x30 + key in
    let byte : c < 128 → length (encode c) ≡ 1 = λ l. length-encode c ∙ len_utf8_ascii c l in
    let first = λ (e : nat_lt key 10 ≡ true). byte (omega (arith, ltb-true key 10 e)) in
    cond_both (nat_lt key 10) _ _ P
    (λ e. omega (
      arith,
      no_longer keys,
      length-append (encode c) (encodes (key_digits keys)),
      first e,
    )) (λ _. omega arith)

are_placed : (given : ℕ) (keys : List ℕ)
    → PlacedAt (ending_after given keys) (given + length (key_digits keys))
are_placed given [] = tt
are_placed given (key ∷ keys) =
    elim (nat_lt key 10) as (λ (b : Bool). PlacedAt
    (cond b (ending_after (given + 1) keys) (Err (record { kind = InputIo; place = given })))
    (given + length (cond b ((0x30 + key) ∷ key_digits keys) []))) [
      | true ↦ subst (PlacedAt (ending_after (given + 1) keys)) (omega arith)
          (are_placed (given + 1) keys)
      | false ↦ omega arith
    ]

pub keys_characters : (s : Keys) → scalars (keys_ahead s) ≡ true
keys_characters s = are_characters s.keys.now

pub keys_short : (s : Keys) → length (encodes (keys_ahead s)) ≤ text_limit
keys_short s = omega (arith, no_longer s.keys.now, s.few)

pub keys_placed : (s : Keys) → Placed (keys_ending s) (keys_given s) (keys_ahead s)
keys_placed s = are_placed s.given s.keys.now
