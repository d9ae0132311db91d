-- Codes, one word more at a time.
use Rattle.std.proofs.Common.{◌≡◌, ℕ, List, [], ◌∷◌, ◌++◌, None, sym, ap, ◌∙◌, subst, append_assoc, append-nil}
use Rattle.protocol.specs.Values.{ReadsNumber}
use Rattle.protocol.specs.Forms.{Code}
use Rattle.protocol.specs.Makes.{Codes}

-- these codes are the words so far, and the rest are to come
abbrev pub SoFar : List ℕ → List (List ℕ) → List (List ℕ) → Type 0
SoFar list words rest = (done : List (List ℕ)) × (words ≡ done ++ rest) × Codes list done

one_more : (list : List ℕ) (done : List (List ℕ)) (c : ℕ) (word : List ℕ) → Codes list done → Code c word → Codes (list ++ (c ∷ [])) (done ++ (word ∷ []))
one_more [] [] c word so code = (code, tt)
one_more [] (d ∷ done) c word so code = absurd so
one_more (x ∷ list) [] c word so code = absurd so
one_more (x ∷ list) (d ∷ done) c word so code = (so.0, one_more list done c word so.1 code)

pub code_more : (list more : List ℕ) (words rest left : List (List ℕ)) (c : ℕ) (word : List ℕ) → SoFar list words rest → rest ≡ word ∷ left → Code c word → more ≡ list ++ (c ∷ []) → SoFar more words left
code_more list more words rest left c word (done, parts, so) e code grown = (
  done ++ (word ∷ []),
  parts ∙ (ap (λ ws. done ++ ws) e ∙ sym (append_assoc done (word ∷ []) left)),
  subst (λ cs. Codes cs (done ++ (word ∷ []))) (sym grown) (one_more list done c word so code),
)

stuck : (done rest : List (List ℕ)) (word : List ℕ) (list : List ℕ) → ReadsNumber 32 16 word None → Codes list (done ++ (word ∷ rest)) → ⊥
stuck [] rest word [] none so = so
stuck [] rest word (c ∷ list) none so = none so.0.0
stuck (d ∷ done) rest word [] none so = so
stuck (d ∷ done) rest word (c ∷ list) none so = stuck done rest word list none so.1

pub code_none : (list : List ℕ) (words rest left : List (List ℕ)) (word : List ℕ) → SoFar list words rest → rest ≡ word ∷ left → ReadsNumber 32 16 word None → (other : List ℕ) → Codes other words → ⊥
code_none list words rest left word (done, parts, so) e none other k =
    stuck done left word other none (subst (λ ws. Codes other ws) (parts ∙ ap (λ ws. done ++ ws) e) k)

pub codes_all : (list : List ℕ) (words rest : List (List ℕ)) → SoFar list words rest → rest ≡ [] → Codes list words
codes_all list words rest (done, parts, so) e = subst (λ ws. Codes list ws) (sym (parts ∙ (ap (λ ws. done ++ ws) e ∙ append-nil done))) so
