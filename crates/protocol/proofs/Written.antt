-- Bytes written as digits, one more at a time.
use Rattle.std.proofs.Common.{◌≡◌, ℕ, ◌+◌, ◌/◌, ◌%◌, ◌<◌, List, [], ◌∷◌, ◌++◌, length, get_or, take, refl, ap, append_assoc}
use Rattle.std.proofs.lemmas.List.{take_more}
use Rattle.std.specs.Char.{digit_char}
use Rattle.protocol.specs.Digits.{digits_of}

digits_append : (xs ys : List ℕ) → digits_of (xs ++ ys) ≡ digits_of xs ++ digits_of ys
digits_append [] ys = refl
digits_append (x ∷ xs) ys = ap (λ ds. digit_char (x / 16) ∷ digit_char (x % 16) ∷ ds) (digits_append xs ys)

pub digits_more : (start before between after high low bytes : List ℕ) (i : ℕ) → i < length bytes → before ≡ start ++ digits_of (take i bytes) → between ≡ before ++ high → after ≡ between ++ low → high ≡ digit_char (get_or bytes i 0 / 16) ∷ [] → low ≡ digit_char (get_or bytes i 0 % 16) ∷ [] → after ≡ start ++ digits_of (take (i + 1) bytes)
digits_more start before between after high low bytes i h b t a eh el =
    let more = take_more bytes i 0 h in
    let grown = digits_append (take i bytes) (get_or bytes i 0 ∷ []) in
    let one = append_assoc start (digits_of (take i bytes)) high in
    let two = append_assoc start (digits_of (take i bytes) ++ high) low in
    let three = append_assoc (digits_of (take i bytes)) high low in
    let pair : (digit_char (get_or bytes i 0 / 16) ∷ []) ++ (digit_char (get_or bytes i 0 % 16) ∷ []) ≡ digits_of (get_or bytes i 0 ∷ []) = refl in
    cc
