use Rattle.std.proofs.Common.{◌≡◌, ℕ, ◌+◌, ◌-◌, List, length, get_or, take, IsUtf8, sym, refl, ap, ◌∙◌, subst, arith}
use Rattle.std.specs.Char.{len_utf8}
use Rattle.std.specs.Str.{chars}
use Rattle.std.proofs.lemmas.List.{drop_all, take_rest}
use Rattle.std.proofs.lemmas.Str.{chars-nil}
use Rattle.utf8.specs.Decoding.{BeginsWith}
use Rattle.source.specs.declared.text.TextChars.{TextChars}
use Rattle.source.specs.Texts.{text_rest}
use Rattle.source.specs.TextsLaws.{rest_is_text}
use Rattle.source.proofs.Texts.{Passes, passes, passes_ascii}
use Rattle.source.proofs.text.TextChars.take_first.Goals as goal

pub returns-then-place-text-clause-gives : goal.returns-then-place-text-clause-gives
returns-then-place-text-clause-gives c =
    let s = c.args.self.now in
    let e = ap chars (drop_all s.place s.text.now c.if-place-text.true) ∙ chars-nil in
    (e, e)

-- past an ASCII character
low : (c : goal.Then-byte-lt128) → Passes c.args.self.now.text.now c.args.self.now.place (get_or c.args.self.now.text.now c.args.self.now.place 0) (c.args.self.now.place + 1)
low c =
    let s = c.args.self.now in
    passes_ascii s.text.now s.place _ c.if-place-text.false (rest_is_text s) refl c.if-byte-lt128.true

pub invariant_of-self : goal.invariant_of-self
invariant_of-self c =
    let s = c.args.self.now in
    record { short = s.short; formed = s.formed; characters = s.characters; boundary = (low c).boundary }

pub returns-then-byte-lt128-clause-gives : goal.returns-then-byte-lt128-clause-gives
returns-then-byte-lt128-clause-gives c =
    let s = c.args.self.now in
    (passes_ascii s.text.now s.place _ c.if-place-text.false (rest_is_text s) c.from.ensures (omega arith)).ahead

pub from_utf8_unchecked-rest-requires : goal.from_utf8_unchecked-rest-requires
from_utf8_unchecked-rest-requires c =
    let s = c.args.self.now in
    subst IsUtf8 (sym (take_rest s.text.now s.place)) (rest_is_text s)

-- past the character that the rest, as it was cut off, begins with
wide : (s : TextChars) (cut : List ℕ) (c w : ℕ) → cut ≡ take (length s.text.now - s.place) (text_rest s) → BeginsWith cut c → w ≡ len_utf8 c
    → Passes s.text.now s.place c (s.place + w)
wide s cut c w e begins is =
    let here = subst (λ xs. BeginsWith xs c) (e ∙ take_rest s.text.now s.place) begins in
    subst (λ k. Passes s.text.now s.place c (s.place + k)) (sym is) (passes s.text.now s.place c s.boundary.0 (rest_is_text s) here)

pub invariant_of-self-2 : goal.invariant_of-self-2
invariant_of-self-2 c =
    let s = c.args.self.now in
    let past = wide s _ c.in_ok-c.c _ c.from_utf8_unchecked-rest.ensures c.in_ok-c.ensures c.len_utf8.ensures.value in
    record { short = s.short; formed = s.formed; characters = s.characters; boundary = past.boundary }

pub returns-clause-gives : goal.returns-clause-gives
returns-clause-gives c = (wide c.args.self.now _ c.in_ok-c.c _ c.from_utf8_unchecked-rest.ensures c.in_ok-c.ensures c.len_utf8.ensures.value).ahead
