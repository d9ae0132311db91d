-- One character into a queue, or out of it.
use Rattle.std.proofs.Common.{◌≡◌, ℕ, zero, suc, ◌+◌, ◌-◌, ◌%◌, ◌<◌, ◌≢◌, eqb, List, [], ◌∷◌, ◌++◌, length, slice_index, slice_set, sym, refl, ap, ◌∙◌, subst, arith, add-one, not-suc-le-zero, le_of_suc-le-suc, get_or-set_same, get_or-set_other}
use lib.Dec.{eqb-suc-zero}
use Rattle.input.specs.Calls.{none_left}
use Rattle.buffered.specs.Ring.{held_from}

pub held_get : (p : List ℕ) (h n i : ℕ) → i < n → slice_index (held_from p h n) i ≡ slice_index p ((h + i) % 16)
held_get p h zero i l = absurd (not-suc-le-zero l)
held_get p h (suc n) zero l = let e : h + 0 ≡ h = omega arith in sym (ap (λ (k : ℕ). slice_index p (k % 16)) e)
held_get p h (suc n) (suc i) l = let e : suc h + i ≡ h + suc i = omega arith in held_get p (suc h) n i (le_of_suc-le-suc l) ∙ ap (λ (k : ℕ). slice_index p (k % 16)) e

-- the head counts by what it leaves of sixteen
pub held_head : (p : List ℕ) (h k n : ℕ) → h % 16 ≡ k % 16 → held_from p h n ≡ held_from p k n
held_head p h k zero e = refl
held_head p h k (suc n) e = let f : suc h % 16 ≡ suc k % 16 = omega arith in (λ i. slice_index p (e i) ∷ held_head p (suc h) (suc k) n f i)

held_snoc : (p : List ℕ) (h n : ℕ) → held_from p h (suc n) ≡ held_from p h n ++ (slice_index p ((h + n) % 16) ∷ [])
held_snoc p h zero = let e : h ≡ h + 0 = omega arith in ap (λ (k : ℕ). slice_index p (k % 16) ∷ []) e
held_snoc p h (suc n) = let e : suc h + n ≡ h + suc n = omega arith in ap (λ (r : List ℕ). slice_index p (h % 16) ∷ r) (held_snoc p (suc h) n ∙ ap (λ (k : ℕ). held_from p (suc h) n ++ (slice_index p (k % 16) ∷ [])) e)

held_set : (p : List ℕ) (h n k c : ℕ) → ((i : ℕ) → i < n → (h + i) % 16 ≢ k) → held_from (slice_set p k c) h n ≡ held_from p h n
held_set p h zero k c f = refl
held_set p h (suc n) k c f =
    let here : h % 16 ≢ k = let e : h + 0 ≡ h = omega arith in subst (λ (x : ℕ). x % 16 ≢ k) e (f 0 (omega arith)) in
    (λ i. get_or-set_other p k (h % 16) c 0 here i ∷ held_set p (suc h) n k c (λ j l. let e : h + suc j ≡ suc h + j = omega arith in subst (λ (x : ℕ). x % 16 ≢ k) e (f (suc j) (omega arith))) i)

apart : (h n i : ℕ) → n < 16 → i < n → (h + i) % 16 ≢ (h + n) % 16
apart h n i l m = omega arith

pub held_push : (p : List ℕ) (h n c : ℕ) → length p ≡ 16 → n < 16 → held_from (slice_set p ((h + n) % 16) c) h (n + 1) ≡ held_from p h n ++ (c ∷ [])
held_push p h n c l m =
    let k : ℕ = (h + n) % 16 in
    let in_there : k < length p = omega arith in
    ap (λ (x : ℕ). held_from (slice_set p k c) h x) (add-one n)
    ∙ held_snoc (slice_set p k c) h n
    ∙ (λ i. held_set p h n k c (λ j lt. apart h n j m lt) i ++ (get_or-set_same p k c 0 in_there i ∷ []))

pub held_pop : (p : List ℕ) (h n : ℕ) → h < 16 → 0 < n → held_from p h n ≡ slice_index p h ∷ held_from p ((h + 1) % 16) (n - 1)
held_pop p h zero l m = let z : ⊥ = omega arith in absurd z
held_pop p h (suc n) l m =
    let a : h % 16 ≡ h = omega arith in
    let b : suc h % 16 ≡ ((h + 1) % 16) % 16 = omega arith in
    let c : suc n - 1 ≡ n = omega arith in
    (λ i. slice_index p (a i) ∷ (held_head p (suc h) ((h + 1) % 16) n b ∙ ap (λ (x : ℕ). held_from p ((h + 1) % 16) x) (sym c)) i)

-- whether none is held is told by the count
pub none_length : (q : List ℕ) (n : ℕ) → length q ≡ n → eqb n 0 ≡ none_left q
none_length [] n e = ap (λ k. eqb k 0) (sym e)
none_length (c ∷ q) n e = ap (λ k. eqb k 0) (sym e) ∙ eqb-suc-zero (length q)
