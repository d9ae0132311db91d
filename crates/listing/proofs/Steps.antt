-- One character more of what was read, and of what is drawn.
use Rattle.std.proofs.Common.{◌≡◌, ℕ, zero, suc, ◌+◌, ◌<◌, ◌≤◌, Bool, true, false, not, List, [], ◌∷◌, ◌++◌, map, length, length-drop, get_or, take, drop, sym, refl, ap, ◌∙◌, ap₂, arith, append-nil}
use lib.Utf8.{encode, encodes}
use Rattle.std.proofs.lemmas.List.{map-append, take_more}
use Rattle.std.proofs.lemmas.List.Sums.{prefix_len-le-length, prefix_len_passes, prefix_len_stops}
use Rattle.std.proofs.lemmas.Str.{encodes-append}
use Rattle.std.proofs.lemmas.Bool.Decides.{nat_tests}
use Rattle.char_traits.specs.Chars.{line_break}
use Rattle.std.specs.List.{prefix_len}
use Rattle.listing.specs.Lines.{break_width, Cuts, drawing_of}

encodes_push : (cs : List ℕ) (c : ℕ) → encodes (cs ++ (c ∷ [])) ≡ encodes cs ++ encode c
encodes_push cs c = encodes-append cs (c ∷ []) ∙ ap (λ r. encodes cs ++ r) (append-nil (encode c))

pub drawn_more : (line old new : List ℕ) (i c : ℕ) → i < length line → c ≡ drawing_of (get_or line i 0) → new ≡ old ++ encode c
    → old ≡ encodes (map drawing_of (take i line)) → new ≡ encodes (map drawing_of (take (i + 1) line))
drawn_more line old new i c h d p e =
    p ∙ ap₂ (λ x y. x ++ encode y) e d ∙ sym (encodes_push (map drawing_of (take i line)) (drawing_of (get_or line i 0)))
    ∙ ap encodes (sym (map-append drawing_of (take i line) (get_or line i 0 ∷ [])))
    ∙ ap (λ xs. encodes (map drawing_of xs)) (sym (take_more line i 0 h))

-- a break has a width
break_moves : (xs : List ℕ) → 0 < length xs → line_break (get_or xs 0 0) ≡ true → 0 < break_width xs
break_moves [] h b = absurd (omega arith)
break_moves (c ∷ []) h b = grind (arith, nat_tests)
break_moves (c ∷ d ∷ xs) h b = grind (arith, nat_tests)

break_inside : (xs : List ℕ) → break_width xs ≤ length xs
break_inside [] = omega arith
break_inside (c ∷ []) = grind (arith, nat_tests)
break_inside (c ∷ d ∷ xs) = grind (arith, nat_tests)

no_break : (b : Bool) → not b ≡ true → b ≡ false
no_break false e = refl
no_break true e = sym e

some_break : (b : Bool) → not b ≡ false → b ≡ true
some_break true e = refl
some_break false e = sym e

-- what is cut at the first break
module _ (chars : List ℕ) (len : ℕ) (first : len ≡ prefix_len (λ c. not (line_break c)) chars) where
  within : len ≤ length chars
  within = omega (arith, prefix_len-le-length (λ c. not (line_break c)) chars)

  ends : len < length chars → line_break (get_or chars len 0) ≡ true
  ends h =
      ap (λ k. line_break (get_or chars k 0)) first ∙ some_break _ (prefix_len_stops (λ c. not (line_break c)) chars 0 (omega arith))

  -- either the line has a character, or a break stands at its start
  moves : (n : ℕ) → n ≡ len → 0 < length chars → 0 < n + break_width (drop n chars)
  moves zero e h = omega (arith, break_moves chars h (ap (λ k. line_break (get_or chars k 0)) e ∙ ends (omega arith)))
  moves (suc n) e h = omega arith

  pub cut_there : (width : ℕ) → width ≡ break_width (drop len chars) → Cuts chars len (len + width)
  cut_there width e =
      record {
        within = within;
        plain = λ k h. no_break _ (prefix_len_passes (λ c. not (line_break c)) chars k 0 (omega arith));
        ends = ends;
        with_break = ap (λ w. len + w) e;
        inside = omega (arith, within, break_inside (drop len chars), length-drop len chars);
        moves = λ h. omega (arith, moves len refl h);
      }
