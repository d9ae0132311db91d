-- Bytes spelled by digits, one more at a time.
use Rattle.std.proofs.Common.{◌≡◌, ℕ, zero, suc, ◌+◌, ◌*◌, ◌/◌, ◌<◌, List, [], ◌∷◌, ◌++◌, length, get_or, drop, ap, ◌∙◌, arith, below_more}
use Rattle.std.proofs.lemmas.List.{length_push, get_or_push, get_or_append_left, get_or-drop, get_or-take}
use Rattle.std.specs.Simd.{first_chunks}
use Rattle.protocol.specs.Values.{SpellsByte}

-- each of the first so many bytes is spelled
abbrev pub Upto : List ℕ → List ℕ → ℕ → Type 0
Upto word bytes n = (k : ℕ) → k < n → SpellsByte (get_or word (2 * k) 0) (get_or word (2 * k + 1) 0) (get_or bytes k 0)

pub spelled_more : (word xs ys : List ℕ) (i b : ℕ) → length xs ≡ i → ys ≡ xs ++ (b ∷ []) → SpellsByte (get_or word (2 * i) 0) (get_or word (2 * i + 1) 0) b → Upto word xs i → (length ys ≡ i + 1) × Upto word ys (i + 1)
spelled_more word xs ys i b size e here below = (
  ap length e ∙ (length_push xs b ∙ ap (λ n. n + 1) size),
  below_more _ _ (λ k h. let lt : k < length xs = omega arith in rw (e, get_or_append_left) (below k h)) (rw (e, get_or_push xs b 0 i size) here),
)

-- a digit of a pair, by its place in the word
digit_at : (n k j : ℕ) (word : List ℕ) → k < n → j < 2 → get_or (get_or (first_chunks 2 n word) k []) j 0 ≡ get_or word (2 * k + j) 0
digit_at zero k j word h two = absurd (omega arith)
digit_at (suc n) zero j word h two = get_or-take 2 word j 0 two ∙ ap (λ m. get_or word m 0) (omega arith)
digit_at (suc n) (suc k) j word h two =
    digit_at n k j (drop 2 word) (omega arith) two ∙ (get_or-drop 2 word (2 * k + j) 0 ∙ ap (λ m. get_or word m 0) (omega arith))

-- both digits of a pair
pub digits_at : (pairs : List (List ℕ)) (word : List ℕ) (k : ℕ) → pairs ≡ first_chunks 2 (length word / 2) word → k < length word / 2 → (get_or (get_or pairs k []) 0 0 ≡ get_or word (2 * k) 0) × (get_or (get_or pairs k []) 1 0 ≡ get_or word (2 * k + 1) 0)
digits_at pairs word k e h = (
  ap (λ ps. get_or (get_or ps k []) 0 0) e ∙ (digit_at (length word / 2) k 0 word h (omega arith) ∙ ap (λ m. get_or word m 0) (omega arith)),
  ap (λ ps. get_or (get_or ps k []) 1 0) e ∙ digit_at (length word / 2) k 1 word h (omega arith),
)
