-- A row of places, shifted down.
use Rattle.std.proofs.Common.{◌≡◌, ℕ, zero, suc, ◌-◌, ◌<◌, ◌≤◌, true, List, [], ◌∷◌, ◌++◌, length, get_or, take, drop, sym, refl, ap, ◌∙◌, arith}
use lib.Utf8.{scalar, scalars}
use Rattle.std.proofs.lemmas.List.{take-append-le}
use Rattle.std.proofs.lemmas.Bool.{and_parts}
use Rattle.input.specs.Held.{held_characters, scalars_take}

pub shifted : (n : ℕ) (xs : List ℕ) → 0 < n → n ≤ length xs
    → take n xs ≡ get_or xs 0 0 ∷ take (n - 1) (drop 1 xs ++ take 1 xs)
shifted zero xs h l = absurd (omega arith)
shifted (suc n) [] h l = absurd (omega arith)
shifted (suc n) (x ∷ xs) h l =
    let e : suc n - 1 ≡ n = omega arith in
    ap (λ ys. x ∷ ys) (sym (take-append-le n xs (x ∷ []) (omega arith)) ∙ ap (λ k. take k (xs ++ (x ∷ []))) (sym e))

pub scalars_shifted : (xs : List ℕ) → scalars xs ≡ true → scalars (drop 1 xs ++ take 1 xs) ≡ true
scalars_shifted [] f = refl
scalars_shifted (x ∷ xs) f = held_characters xs (x ∷ []) (and_parts (scalar x) _ f).1 (scalars_take 1 (x ∷ xs) f)
