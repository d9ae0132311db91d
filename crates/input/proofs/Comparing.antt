-- Numbers that were found to be characters are those that are compared.
use Rattle.std.proofs.Common.{◌≡◌, ℕ, Bool, true, false, cond, ◌&&◌, List, [], ◌∷◌, get_or, sym, refl, ap, ◌∙◌, arith}
use lib.Utf8.{scalar, scalars}
use Rattle.input.specs.Tests.{flag, in_window, character_number, Shown, compare_all_number}

-- the numbers of a list of characters
pub data Are : List ℕ → List ℕ → Type 0 where
  no_more : Are [] []
  one_more : {codes cs : List ℕ} (code c : ℕ) → character_number code ≡ (0, c ∷ []) → Are codes cs → Are (code ∷ codes) (c ∷ cs)

abbrev told : Bool → ℕ → ℕ × List ℕ
told b code = cond b (0, code ∷ []) (3, [])

module _ (code c : ℕ) (h : character_number code ≡ (0, c ∷ [])) where
  go : (b : Bool) → scalar code ≡ b → told b code ≡ (0, c ∷ []) → (scalar code ≡ true) × (code ≡ c)
  go true s e = (s, ap (λ (a : ℕ × List ℕ). get_or a.1 0 0) e)
  go false s e = absurd (omega (arith, ap (λ (a : ℕ × List ℕ). a.0) e))

  is_code : (scalar code ≡ true) × (code ≡ c)
  is_code = go (scalar code) refl h

both : (x y : Bool) → x ≡ true → y ≡ true → x && y ≡ true
both true y p q = q
both false y p q = p

are_scalars : {codes cs : List ℕ} → Are codes cs → scalars codes ≡ true
are_scalars no_more = refl
are_scalars (one_more code c h rest) = both (scalar code) _ (is_code code c h).0 (are_scalars rest)

are_same : {codes cs : List ℕ} → Are codes cs → codes ≡ cs
are_same no_more = refl
are_same (one_more code c h rest) = λ i. (is_code code c h).1 i ∷ are_same rest i

-- all are characters, and the answer is the input's
pub compared : (codes cs : List ℕ) (s : Shown) (answer : ℕ × List ℕ) → Are codes cs → answer ≡ in_window flag (s.matches cs) → answer ≡ compare_all_number codes s
compared codes cs s answer are e =
    e ∙ ap (λ (xs : List ℕ). in_window flag (s.matches xs)) (sym (are_same are)) ∙ ap (λ (b : Bool). cond b (in_window flag (s.matches codes)) (3, [])) (sym (are_scalars are))
