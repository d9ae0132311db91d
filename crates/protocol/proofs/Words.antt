-- Words, one off the front at a time.
use Rattle.std.proofs.Common.{◌≡◌, ℕ, ◌<◌, ◌≤◌, true, false, List, [], ◌∷◌, ◌++◌, length, get_or, Some, None, Option, Bor, refl, ap, ◌∙◌, arith, append-nil, ⊎_elim}
use Rattle.std.proofs.lemmas.Bool.{cases_lt}
use Rattle.std.proofs.lemmas.List.{get_or_default}
use Rattle.std.specs.List.{filter, slice_split, onto_first, All}
use Rattle.std.specs.Str.{NoCharPasses}
use Rattle.std.specs.Str.Iter.{IsAsciiSeparator, split_ascii_whitespace_text, split_ascii_whitespace_steps}
use Rattle.std.specs.declared.str.SplitAsciiWhitespace.{SplitAscii}
use Rattle.std.specs.Char.{is_ascii_whitespace}
use Rattle.std.proofs.lemmas.List.Splits.{slice_split_none, slice_split-cons_yes, slice_split-cons_no}
use Rattle.std.proofs.lemmas.List.Elements.{All-head, All-tail}
use Rattle.std.proofs.lemmas.Str.{NoCharPasses-byte}
use Rattle.protocol.specs.Words.{has_any, words_of, TakesWord}

abbrev White : ℕ → Type 0
White b = is_ascii_whitespace b ≡ true

abbrev Dark : ℕ → Type 0
Dark b = is_ascii_whitespace b ≡ false

over_gap : (gap text : List ℕ) → All White gap → words_of (gap ++ text) ≡ words_of text
over_gap [] text h = refl
over_gap (b ∷ gap) text h =
    ap (filter has_any) (slice_split-cons_yes is_ascii_whitespace b (gap ++ text) (All-head White b gap h)) ∙ over_gap gap text (All-tail White b gap h)

all_gap : (text : List ℕ) → All White text → words_of text ≡ []
all_gap [] h = refl
all_gap (b ∷ text) h =
    ap (filter has_any) (slice_split-cons_yes is_ascii_whitespace b text (All-head White b text h)) ∙ all_gap text (All-tail White b text h)

up_to : (word : List ℕ) (s : ℕ) (rest : List ℕ) → All Dark word → White s → slice_split is_ascii_whitespace (word ++ (s ∷ rest)) ≡ word ∷ slice_split is_ascii_whitespace rest
up_to [] s rest h w = slice_split-cons_yes is_ascii_whitespace s rest w
up_to (b ∷ word) s rest h w =
    slice_split-cons_no is_ascii_whitespace b (word ++ (s ∷ rest)) (All-head Dark b word h) ∙ ap (onto_first b) (up_to word s rest (All-tail Dark b word h) w)

-- a word, what separates it from the rest, and the rest
first_word : (word sep rest : List ℕ) → 0 < length word → All Dark word → IsAsciiSeparator sep rest → words_of (word ++ (sep ++ rest)) ≡ word ∷ words_of rest
first_word [] sep rest some dark s = absurd (omega arith)
first_word (b ∷ word) [] [] some dark s =
    ap words_of (append-nil (b ∷ word)) ∙ ap (filter has_any) (slice_split_none is_ascii_whitespace (b ∷ word) dark)
first_word (b ∷ word) [] (r ∷ rest) some dark s = absurd (omega (arith, s.2 refl))
first_word (b ∷ word) (w ∷ []) rest some dark s =
    ap (filter has_any) (up_to (b ∷ word) w rest dark (All-head White w [] s.0))
first_word (b ∷ word) (w ∷ v ∷ sep) rest some dark s = absurd (omega (arith, s.1))

above : (b : ℕ) → 128 ≤ b → Dark b
above b h = grind arith

-- what is no ASCII is no white space
dark : (word : List ℕ) → NoCharPasses is_ascii_whitespace word → All Dark word
dark word h k d l =
    ap is_ascii_whitespace (get_or_default word k d 0 l)
    ∙ ⊎_elim (λ low. NoCharPasses-byte is_ascii_whitespace word k h l low) (λ high. above (get_or word k 0) high) (cases_lt (get_or word k 0) 128)

nothing : (xs : List ℕ) → length xs ≡ 0 → xs ≡ []
nothing [] e = refl
nothing (x ∷ xs) e = absurd (omega (arith, e))

pub takes_word : (s t : SplitAscii) (r : Option (Bor (List ℕ))) → split_ascii_whitespace_steps s r t → TakesWord (words_of (split_ascii_whitespace_text s)) r (words_of (split_ascii_whitespace_text t))
takes_word s t None (white, none) = (all_gap (split_ascii_whitespace_text s) white, ap words_of (nothing (split_ascii_whitespace_text t) none))
takes_word s t (Some word) (some, none, _, (gap, sep, laid, white, separates)) =
    ap words_of laid ∙ (over_gap gap _ white ∙ first_word word.now sep _ some (dark word.now none) separates)
