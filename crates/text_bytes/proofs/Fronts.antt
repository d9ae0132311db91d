-- Characters wanted, held against those ahead, one after the other.
use Rattle.std.proofs.Common.{◌≡◌, ℕ, ◌+◌, ◌<◌, true, false, not, ◌&&◌, eqb, List, [], ◌∷◌, length, get_or, drop, sym, refl, ap, ◌∙◌}
use Rattle.std.specs.Prelude.{slice_index}
use Rattle.std.proofs.lemmas.List.{drop_more}
use Rattle.std.proofs.lemmas.Bool.{eq-eqb, ne_eqb, and_parts, not-true, eqb-false}
use Rattle.input.specs.Tests.{are_shown, without_nul}
use Rattle.text_bytes.specs.Bytes.{begins}

-- the character wanted at a place, and those ahead from there
module _ (wanted ahead : List ℕ) (n want : ℕ) (more : n < length wanted) (is : want ≡ get_or wanted n want) where
  at : begins (drop n wanted) ahead ≡ begins (want ∷ drop (n + 1) wanted) ahead
  at = ap (λ ws. begins ws ahead) (drop_more wanted n want more ∙ ap (λ w. w ∷ drop (n + 1) wanted) (sym is))

  pub begins_more : (c : ℕ) (rest : List ℕ) → ahead ≡ c ∷ rest → c ≡ want
      → begins (drop n wanted) ahead ≡ begins (drop (n + 1) wanted) rest
  begins_more c rest e same = at ∙ ap (begins (want ∷ drop (n + 1) wanted)) e ∙ ap (λ b. b && begins (drop (n + 1) wanted) rest) (eq-eqb c want same)

  pub begins_not : (c : ℕ) (rest : List ℕ) → ahead ≡ c ∷ rest → (c ≡ want → ⊥)
      → begins (drop n wanted) ahead ≡ false
  begins_not c rest e other = at ∙ ap (begins (want ∷ drop (n + 1) wanted)) e ∙ ap (λ b. b && begins (drop (n + 1) wanted) rest) (ne_eqb c want other)

  pub begins_none : ahead ≡ [] → begins (drop n wanted) ahead ≡ false
  begins_none e = at ∙ ap (begins (want ∷ drop (n + 1) wanted)) e

-- unless a NUL is wanted, the padding past the end does not count
pub begins_found : (wanted ahead : List ℕ) → without_nul wanted ≡ true
    → begins wanted ahead ≡ are_shown (slice_index ahead) wanted
begins_found [] ahead h = refl
begins_found (c ∷ wanted) [] h =
    let some = (and_parts (not (eqb c 0)) (without_nul wanted) h).0 in
    let other : 0 ≡ c → ⊥ = λ e. eqb-false c 0 (not-true (eqb c 0) some) (sym e) in
    sym (ap (λ b. b && are_shown (λ _. 0) wanted) (ne_eqb 0 c other))
begins_found (c ∷ wanted) (a ∷ ahead) h =
    ap (λ b. eqb a c && b) (begins_found wanted ahead (and_parts (not (eqb c 0)) (without_nul wanted) h).1)
