-- A code's digits, as the library writes them.
use Rattle.std.proofs.Common.{◌≡◌, ℕ, suc, ◌/◌, ◌%◌, ◌<◌, ◌≤◌, false, cond, nat_lt, List, [], ◌∷◌, ap, ◌∙◌, arith}
use Rattle.std.specs.Char.{digit_char}
use Rattle.std.specs.Fmt.{digits, digits_onto}
use Rattle.protocol.specs.Answers.{digit_at, code_text}

last : (k c : ℕ) (acc : List ℕ) → c < 16 → digits_onto (suc k) 16 false c acc ≡ digit_char (c % 16) ∷ acc
last k c acc h = let none : c / 16 ≡ 0 = omega arith in grind arith

more : (k c : ℕ) (acc : List ℕ) → 16 ≤ c → digits_onto (suc k) 16 false c acc ≡ digits_onto k 16 false (c / 16) (digit_char (c % 16) ∷ acc)
more k c acc h = let some : 1 ≤ c / 16 = omega arith in grind arith

two : (k c : ℕ) (acc : List ℕ) → 16 ≤ c → c < 0x100 → digits_onto (suc (suc k)) 16 false c acc ≡ digit_at 0x10 c ∷ digit_char (c % 16) ∷ acc
two k c acc low high = more (suc k) c acc low ∙ last k (c / 16) _ (omega arith)

-- the digit that is worth sixteen times as much
up : (p q c : ℕ) (acc : List ℕ) → c / 16 / p ≡ c / q → digit_at p (c / 16) ∷ acc ≡ digit_at q c ∷ acc
up p q c acc e = ap (λ n. digit_char (n % 16) ∷ acc) e

three : (k c : ℕ) (acc : List ℕ) → 0x100 ≤ c → c < 0x1000 → digits_onto (suc (suc (suc k))) 16 false c acc ≡ digit_at 0x100 c ∷ digit_at 0x10 c ∷ digit_char (c % 16) ∷ acc
three k c acc low high = more (suc (suc k)) c acc (omega arith) ∙ (two k (c / 16) _ (omega arith) (omega arith) ∙ up 0x10 0x100 c _ (omega arith))

four : (k c : ℕ) (acc : List ℕ) → 0x1000 ≤ c → c < 0x10000 → digits_onto (suc (suc (suc (suc k)))) 16 false c acc ≡ digit_at 0x1000 c ∷ digit_at 0x100 c ∷ digit_at 0x10 c ∷ digit_char (c % 16) ∷ acc
four k c acc low high =
    more (suc (suc (suc k))) c acc (omega arith)
    ∙ (three k (c / 16) _ (omega arith) (omega arith) ∙ (up 0x100 0x1000 c _ (omega arith) ∙ ap (λ ds. digit_at 0x1000 c ∷ ds) (up 0x10 0x100 c _ (omega arith))))

five : (k c : ℕ) (acc : List ℕ) → 0x10000 ≤ c → c < 0x100000 → digits_onto (suc (suc (suc (suc (suc k))))) 16 false c acc ≡ digit_at 0x10000 c ∷ digit_at 0x1000 c ∷ digit_at 0x100 c ∷ digit_at 0x10 c ∷ digit_char (c % 16) ∷ acc
five k c acc low high =
    more (suc (suc (suc (suc k)))) c acc (omega arith)
    ∙ (four k (c / 16) _ (omega arith) (omega arith)
    ∙ (up 0x1000 0x10000 c _ (omega arith)
    ∙ (ap (λ ds. digit_at 0x10000 c ∷ ds) (up 0x100 0x1000 c _ (omega arith))
    ∙ ap (λ ds. digit_at 0x10000 c ∷ digit_at 0x1000 c ∷ ds) (up 0x10 0x100 c _ (omega arith)))))

six : (k c : ℕ) (acc : List ℕ) → 0x100000 ≤ c → c < 0x1000000 → digits_onto (suc (suc (suc (suc (suc (suc k)))))) 16 false c acc ≡ digit_char (c / 0x100000) ∷ digit_at 0x10000 c ∷ digit_at 0x1000 c ∷ digit_at 0x100 c ∷ digit_at 0x10 c ∷ digit_char (c % 16) ∷ acc
six k c acc low high =
    more (suc (suc (suc (suc (suc k))))) c acc (omega arith)
    ∙ (five k (c / 16) _ (omega arith) (omega arith)
    ∙ (ap (λ n. digit_char n ∷ digit_at 0x1000 (c / 16) ∷ digit_at 0x100 (c / 16) ∷ digit_at 0x10 (c / 16) ∷ digit_char (c / 16 % 16) ∷ digit_char (c % 16) ∷ acc) (omega arith)
    ∙ (ap (λ ds. digit_char (c / 0x100000) ∷ ds) (up 0x1000 0x10000 c _ (omega arith))
    ∙ (ap (λ ds. digit_char (c / 0x100000) ∷ digit_at 0x10000 c ∷ ds) (up 0x100 0x1000 c _ (omega arith))
    ∙ ap (λ ds. digit_char (c / 0x100000) ∷ digit_at 0x10000 c ∷ digit_at 0x1000 c ∷ ds) (up 0x10 0x100 c _ (omega arith))))))

by_size : (c : ℕ) (x r s t u v w : List ℕ) → (c < 0x10 → x ≡ r) → (0x10 ≤ c → c < 0x100 → x ≡ s) → (0x100 ≤ c → c < 0x1000 → x ≡ t) → (0x1000 ≤ c → c < 0x10000 → x ≡ u) → (0x10000 ≤ c → c < 0x100000 → x ≡ v) → (0x100000 ≤ c → x ≡ w) → x ≡ cond (nat_lt c 0x10) r (cond (nat_lt c 0x100) s (cond (nat_lt c 0x1000) t (cond (nat_lt c 0x10000) u (cond (nat_lt c 0x100000) v w))))
by_size c x r s t u v w a b d e f g = grind arith

pub hex_code : (c : ℕ) → c < 0x110000 → digits 16 false c ≡ code_text c
unfolding digits
hex_code c h =
    by_size c _ _ _ _ _ _ _ (last 63 c []) (two 62 c []) (three 61 c []) (four 60 c []) (five 59 c []) (λ low. six 58 c [] low (omega arith))
