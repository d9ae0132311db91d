-- From one character of a text to the next.
use Rattle.std.proofs.Common.{◌≡◌, ℕ, ◌+◌, ◌<◌, ◌≤◌, true, eqb, List, [], ◌∷◌, ◌++◌, length, get_or, drop, IsUtf8, sym, ap, ◌∙◌, subst, inl, inr, arith, length-drop}
use lib.Utf8.{encode, encodes, scalar, scalars}
use Rattle.std.proofs.lemmas.List.{drop_all, get_or-drop}
use Rattle.std.proofs.lemmas.Bool.{and_parts, eq-eqb, ne_eqb, cases_lt}
use Rattle.std.proofs.lemmas.Str.{IsUtf8-drop, chars-nil, chars_past_char, drop_past_char, IsCharBoundary-past_char, byte_from_char, char_from_byte, len_utf8_ascii}
use Rattle.std.specs.Char.{len_utf8}
use Rattle.std.specs.Str.{IsCharBoundary, chars}
use Rattle.utf8.specs.Decoding.{BeginsWith}
use Rattle.input.specs.Calls.{none_left}
use Rattle.text_bytes.specs.declared.cursor.Cursor.{Cursor}
use Rattle.text_bytes.specs.Bytes.{IsPlace, ahead_at}
use Rattle.text_bytes.specs.Cursors.{ahead_from}

-- a character at a place, and the place after it
pub record StepsAt (text : List ℕ) (at c next : ℕ) : Type 0 where
  pub first : ahead_at text at ≡ c ∷ ahead_at text next
  pub boundary : IsCharBoundary text next

pub rest_is_text : (text : List ℕ) (at : ℕ) → IsPlace text at → IsUtf8 (drop at text)
rest_is_text text at p = IsUtf8-drop text at (chars text, (p.characters, p.formed)) p.boundary

pub moved : (text : List ℕ) (at next : ℕ) → IsPlace text at → IsCharBoundary text next
    → IsPlace text next
moved text at next p b = record { formed = p.formed; characters = p.characters; boundary = b }

-- another place in the same text
module _ (x y : Cursor) (same : y.text.now ≡ x.text.now) where
  pub placed_too : IsPlace x.text.now y.place
  placed_too = subst (λ (text : List ℕ). IsPlace text y.place) same y.placed

  pub ahead_too : ahead_at x.text.now y.place ≡ ahead_from y
  ahead_too = ap (λ text. ahead_at text y.place) (sym same)

pub none_ahead : (text : List ℕ) (at : ℕ) → length text ≤ at → ahead_at text at ≡ []
none_ahead text at h = ap chars (drop_all at text h) ∙ chars-nil

-- bytes that begin with a character
pub record Front (bytes : List ℕ) : Type 0 where
  pub c : ℕ
  pub tail : List ℕ
  pub character : scalar c ≡ true
  pub is : bytes ≡ encode c ++ tail

pub opened : (bytes : List ℕ) → IsUtf8 bytes → 0 < length bytes → Front bytes
opened bytes ([], (s, e)) h = absurd (omega (arith, ap length e))
opened bytes (c ∷ cs, (s, e)) h = record { c = c; tail = encodes cs; character = (and_parts (scalar c) (scalars cs) s).0; is = sym e }

pub step : (text tail : List ℕ) (at c : ℕ) → IsPlace text at → drop at text ≡ encode c ++ tail
    → StepsAt text at c (at + len_utf8 c)
step text tail at c p e =
    let u = rest_is_text text at p in
    record {
      first = chars_past_char (drop at text) tail c u e ∙ ap (λ r. c ∷ chars r) (sym (drop_past_char text tail at c e));
      boundary = IsCharBoundary-past_char text tail at c p.boundary.0 u e;
    }

-- a character that begins the bytes from the place on
pub step_first : (text : List ℕ) (at c w : ℕ) → IsPlace text at → BeginsWith (drop at text) c
    → w ≡ len_utf8 c → StepsAt text at c (at + w)
step_first text at c w p e wide = subst (λ (k : ℕ). StepsAt text at c (at + k)) (sym wide) (step text e.0 at c p e.1)

pub step_ascii : (text : List ℕ) (at b : ℕ) → IsPlace text at → at < length text
    → b ≡ get_or text at 0 → b < 128 → StepsAt text at b (at + 1)
step_ascii text at b p h is low =
    let l = length-drop at text in
    let o = opened (drop at text) (rest_is_text text at p) (omega arith) in
    let first : get_or (drop at text) 0 0 ≡ b = get_or-drop at text 0 0 ∙ ap (λ k. get_or text k 0) (omega arith) ∙ sym is in
    let same : o.c ≡ b = char_from_byte (drop at text) o.tail o.c o.is (omega arith) (omega arith) ∙ first in
    let e : drop at text ≡ encode b ++ o.tail = o.is ∙ ap (λ c. encode c ++ o.tail) same in
    subst (λ (k : ℕ). StepsAt text at b (at + k)) (len_utf8_ascii b low) (step text o.tail at b p e)

-- the character at a place, and its first byte
pub record First (text : List ℕ) (at : ℕ) : Type 0 where
  pub c : ℕ
  pub next : ℕ
  pub steps : StepsAt text at c next
  pub byte : c < 128 → get_or text at 0 ≡ c
  pub character : get_or text at 0 < 128 → c ≡ get_or text at 0

pub first_char : (text : List ℕ) (at : ℕ) → IsPlace text at → at < length text → First text at
first_char text at p h =
    let l = length-drop at text in
    let o = opened (drop at text) (rest_is_text text at p) (omega arith) in
    let b : get_or (drop at text) 0 0 ≡ get_or text at 0 = get_or-drop at text 0 0 ∙ ap (λ k. get_or text k 0) (omega arith) in
    record {
      c = o.c;
      next = at + len_utf8 o.c;
      steps = step text o.tail at o.c p o.is;
      byte = λ low. sym b ∙ byte_from_char (drop at text) o.tail o.c o.is low;
      character = λ low. char_from_byte (drop at text) o.tail o.c o.is (omega arith) (omega arith) ∙ b;
    }

-- nothing is ahead exactly at the end
pub none_at : (text : List ℕ) (at : ℕ) → IsPlace text at
    → eqb at (length text) ≡ none_left (ahead_at text at)
none_at text at p =
    elim (cases_lt at (length text)) [
      | inl h ↦
          (let l = length-drop at text in
          let o = opened (drop at text) (rest_is_text text at p) (omega arith) in
          ne_eqb at (length text) (omega arith) ∙ sym (ap none_left (step text o.tail at o.c p o.is).first))
      | inr h ↦
          (let b = p.boundary.0 in
          eq-eqb at (length text) (omega arith) ∙ sym (ap none_left (none_ahead text at h)))
    ]
