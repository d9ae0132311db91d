-- A document marker is known by its bytes.
use Rattle.std.proofs.Common.{◌≡◌, ℕ, ◌+◌, ◌<◌, true, false, ◌&&◌, ◌||◌, eqb, List, ◌∷◌, length, get_or, sym, refl, ap, ◌∙◌, subst, inl, inr, arith}
use Rattle.std.specs.Prelude.{slice_index}
use Rattle.std.proofs.lemmas.Bool.{and_parts, and_from, eqb-true, eq-eqb, ne_eqb, cases_lt, false_from_ne_true}
use Rattle.std.proofs.lemmas.Bool.Decides.{nat_tests}
use Rattle.char_traits.specs.Chars.{blank_or_breakz}
use Rattle.input.specs.Tests.{thrice}
use Rattle.text_bytes.specs.Bytes.{IsPlace, ahead_at, Thrice}
use Rattle.text_bytes.proofs.Places.{StepsAt, moved, none_ahead, first_char, step_ascii}

-- an ASCII character that is shown is the byte there
pub record Leads (text : List ℕ) (at c : ℕ) : Type 0 where
  pub inside : at < length text
  pub byte : get_or text at 0 ≡ c
  pub steps : StepsAt text at c (at + 1)

leads : (text : List ℕ) (at c : ℕ) → IsPlace text at → 0 < c → c < 128
    → get_or (ahead_at text at) 0 0 ≡ c → Leads text at c
leads text at c p some low is =
    elim (cases_lt at (length text)) [
      | inl h ↦
          (let f = first_char text at p h in
          let same : f.c ≡ c = sym (ap (λ xs. get_or xs 0 0) f.steps.first) ∙ is in
          let b : get_or text at 0 ≡ c = f.byte (omega arith) ∙ same in
          record { inside = h; byte = b; steps = step_ascii text at c p h (sym b) low })
      | inr h ↦ absurd (let e = ap (λ xs. get_or xs 0 0) (none_ahead text at h) in omega arith)
    ]

-- three characters on
module _ (text : List ℕ) (at c : ℕ) (p : IsPlace text at) (low : c < 128) where
  pub record Three : Type 0 where
    pub ahead : ahead_at text at ≡ c ∷ c ∷ c ∷ ahead_at text (at + 3)
    pub placed : IsPlace text (at + 3)

  pub three : Thrice text at c → Three
  three t =
      let a = step_ascii text at c p (omega arith) (sym t.first) low in
      let q = moved text at (at + 1) p a.boundary in
      let b = step_ascii text (at + 1) c q (omega arith) (sym t.second) low in
      let i : at + 1 + 1 ≡ at + 2 = omega arith in
      let b' : StepsAt text (at + 1) c (at + 2) = subst (StepsAt text (at + 1) c) i b in
      let r = moved text at (at + 2) p b'.boundary in
      let d = step_ascii text (at + 2) c r (omega arith) (sym t.third) low in
      let j : at + 2 + 1 ≡ at + 3 = omega arith in
      let d' : StepsAt text (at + 2) c (at + 3) = subst (StepsAt text (at + 2) c) j d in
      record {
        ahead = a.first ∙ ap (λ xs. c ∷ xs) (b'.first ∙ ap (λ xs. c ∷ xs) d'.first);
        placed = moved text at (at + 3) p d'.boundary;
      }

  pub shown_thrice : Thrice text at c → thrice c (slice_index (ahead_at text at)) ≡ true
  shown_thrice t =
      let same = eq-eqb c c refl in
      ap (λ xs. thrice c (slice_index xs)) (three t).ahead ∙ and_from (eqb c c) _ same (and_from (eqb c c) _ same same)

  pub bytes_thrice : 0 < c → thrice c (slice_index (ahead_at text at)) ≡ true → Thrice text at c
  bytes_thrice some e =
      let x = and_parts (eqb (slice_index (ahead_at text at) 0) c) _ e in
      let y = and_parts (eqb (slice_index (ahead_at text at) 1) c) _ x.1 in
      let a = leads text at c p some low (eqb-true _ c x.0) in
      let q = moved text at (at + 1) p a.steps.boundary in
      let b = leads text (at + 1) c q some low (sym (ap (λ xs. get_or xs 1 0) a.steps.first) ∙ eqb-true _ c y.0) in
      let r = moved text at (at + 1 + 1) p b.steps.boundary in
      let d =
      leads text (at + 1 + 1) c r some low
      (sym (ap (λ xs. get_or xs 2 0) a.steps.first ∙ ap (λ xs. get_or xs 1 0) b.steps.first) ∙ eqb-true _ c y.1)
      in
      let i : at + 1 + 1 ≡ at + 2 = omega arith in
      record { long = omega (arith, d.inside); first = a.byte; second = b.byte; third = ap (λ k. get_or text k 0) (sym i) ∙ d.byte }

-- a byte that ends a marker is the character there; at the end NUL is shown
pub ends_same : (text : List ℕ) (at : ℕ) → IsPlace text at
    → (eqb at (length text) || blank_or_breakz (get_or text at 0)) ≡ blank_or_breakz (get_or (ahead_at text at) 0 0)
ends_same text at p =
    elim (cases_lt at (length text)) [
      | inl h ↦
          (let f = first_char text at p h in
          ap (λ b. b || blank_or_breakz (get_or text at 0)) (ne_eqb at (length text) (omega arith))
          ∙ same (get_or text at 0) f.c f.byte f.character
          ∙ sym (ap (λ xs. blank_or_breakz (get_or xs 0 0)) f.steps.first))
      | inr h ↦
          (let e : at ≡ length text = (let b = p.boundary.0 in omega arith) in
          ap (λ b. b || blank_or_breakz (get_or text at 0)) (eq-eqb at (length text) e) ∙ sym (ap (λ xs. blank_or_breakz (get_or xs 0 0)) (none_ahead text at h)))
    ]
  where
    same : (b c : ℕ) → (c < 128 → b ≡ c) → (b < 128 → c ≡ b) → blank_or_breakz b ≡ blank_or_breakz c
    same b c f g = grind (arith, nat_tests)

module _ (text : List ℕ) (at c : ℕ) (p : IsPlace text at) (some : 0 < c) (low : c < 128) where
  pub is_marker_lem : Thrice text at c
      → (eqb (at + 3) (length text) || blank_or_breakz (get_or text (at + 3) 0)) ≡ (thrice c (slice_index (ahead_at text at)) && blank_or_breakz (slice_index (ahead_at text at) 3))
  is_marker_lem t =
      let after = three text at c p low t in
      ends_same text (at + 3) after.placed ∙ sym (ap (λ xs. blank_or_breakz (get_or xs 3 0)) after.ahead)
      ∙ ap (λ b. b && blank_or_breakz (slice_index (ahead_at text at) 3)) (sym (shown_thrice text at c p low t))

  pub no_marker : (Thrice text at c → ⊥)
      → false ≡ (thrice c (slice_index (ahead_at text at)) && blank_or_breakz (slice_index (ahead_at text at) 3))
  no_marker n =
      let e = false_from_ne_true (thrice c (slice_index (ahead_at text at))) (λ h. n (bytes_thrice text at c p low some h)) in
      sym (ap (λ b. b && blank_or_breakz (slice_index (ahead_at text at) 3)) e)
