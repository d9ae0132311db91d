-- What is ahead in a list of codes is a text's characters, and a fault has its place after them.
use Rattle.std.specs.Prelude.{◌≡◌, ℕ, ◌+◌, ◌*◌, ◌≤◌, Bool, true, false, List, [], ◌∷◌, length, refl}
use Rattle.std.proofs.Common.{arith, length-append, length-drop}
use Rattle.std.proofs.Math.Utf8.{encode, encodes, scalar, scalars}
use Rattle.std.proofs.lemmas.Bool.{cond_both, and_from}
use Rattle.std.proofs.lemmas.Str.{length-encode, len_utf8_bounds}
use Rattle.error.specs.Limit.{text_limit}
use Rattle.source.specs.CodeLimit.{code_limit}
use Rattle.source.specs.Steps.{Placed}
use Rattle.source.specs.Codes.{code_chars, end_of_codes, codes_rest}
use Rattle.source.specs.Codes.{codes_ahead, codes_given, codes_ending}
use Rattle.source.specs.declared.codes.Codes.{Codes}
use Rattle.source.specs.declared.codes.CodesEnding.{CodesEnding}
use Rattle.source.specs.declared.codes.CodesEnding.TheVariants.{Clean as ToEnd, InputIo as Failed}

-- so many codes fit a text, at four bytes each
pub codes_fit : (n : ℕ) → n ≤ code_limit → 4 * n ≤ text_limit
unfolding code_limit text_limit
codes_fit n h = omega arith

chars_are : (codes : List ℕ) → scalars (code_chars codes) ≡ true
chars_are [] = refl
chars_are (c ∷ codes) =
    let P : List ℕ → Type 0 = λ cs. scalars cs ≡ true in
    cond_both (scalar c) _ _ P (λ e. and_from (scalar c) _ e (chars_are codes)) (λ _. refl)

-- four bytes each at most
encodes_short : (cs : List ℕ) → length (encodes cs) ≤ 4 * length cs
encodes_short [] = omega arith
encodes_short (c ∷ cs) =
    let rest = encodes_short cs in
    omega (arith, length-append (encode c) (encodes cs), length-encode c, (len_utf8_bounds c).1)

chars_fewer : (codes : List ℕ) → length (code_chars codes) ≤ length codes
chars_fewer [] = omega arith
chars_fewer (c ∷ codes) =
    let P : List ℕ → Type 0 = λ cs. length cs ≤ length (c ∷ codes) in
    cond_both (scalar c) _ _ P (λ _. omega (arith, chars_fewer codes)) (λ _. omega arith)

pub codes_characters : (s : Codes) → scalars (codes_ahead s) ≡ true
codes_characters s = chars_are (codes_rest s)

pub codes_short : (s : Codes) → length (encodes (codes_ahead s)) ≤ text_limit
codes_short s =
    let e = encodes_short (codes_ahead s) in
    let f = chars_fewer (codes_rest s) in
    let d = length-drop s.place s.codes.now in
    let t = codes_fit (length s.codes.now) s.short in
    omega arith

ended_placed : (all : Bool) (ending : CodesEnding) (given : ℕ) (ahead : List ℕ)
    → Placed (end_of_codes all ending (given + length ahead)) given ahead
ended_placed true ToEnd given ahead = tt
ended_placed true Failed given ahead = refl
ended_placed false ending given ahead = refl

pub codes_placed : (s : Codes) → Placed (codes_ending s) (codes_given s) (codes_ahead s)
codes_placed s = ended_placed (scalars (codes_rest s)) s.ending s.place (codes_ahead s)
