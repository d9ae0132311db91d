-- Tests of bytes, many at once.
use Rattle.std.proofs.Common.{◌≡◌, ℕ, zero, suc, ◌%◌, ◌^◌, Bool, true, false, cond, not, ltb, leb, eqb, ◌&&◌, ◌||◌, List, [], ◌∷◌, length, map, replicate, bit_and, bit_or, refl, sym, ap, ap₂, ◌∙◌, arith}
use Rattle.std.specs.Simd.Lanes.{zip2, sel_l, mask_l, top}
use Rattle.std.proofs.lemmas.Simd.{map-map, zip2-map, zip2_splat, zip2_splat_left, mask_l-mod}
use Rattle.std.proofs.lemmas.List.{length-map}
use Rattle.text_bytes.specs.Spans.{lane}

or_lane : (s t : Bool) → bit_or (lane s) (lane t) ≡ lane (s || t)
or_lane true true = refl
or_lane true false = refl
or_lane false true = refl
or_lane false false = refl

and_lane : (s t : Bool) → bit_and (lane s) (lane t) ≡ lane (s && t)
and_lane true true = refl
and_lane true false = refl
and_lane false true = refl
and_lane false false = refl

top_lane : (t : Bool) → top 7 (lane t) ≡ t
top_lane true = refl
top_lane false = refl

lanes_as : (f g : ℕ → ℕ) → ((x : ℕ) → f x ≡ g x) → (v : List ℕ) → map f v ≡ map g v
lanes_as f g e [] = refl
lanes_as f g e (x ∷ v) = ap₂ (λ y ys. y ∷ ys) (e x) (lanes_as f g e v)

picked : (p : ℕ → Bool) (v : List ℕ) (n : ℕ) → length v ≡ n
    → sel_l (map (top 7) (map (λ x. lane (p x)) v)) (replicate n 255) (replicate n 0) ≡ map (λ x. lane (p x)) v
picked p [] zero e = refl
picked p [] (suc n) e = absurd (omega arith)
picked p (x ∷ v) zero e = absurd (omega arith)
picked p (x ∷ v) (suc n) e = ap₂ (λ y ys. y ∷ ys) (ap lane (top_lane (p x))) (picked p v n (omega arith))

module _ (v : List ℕ) where
  abbrev pub Tests : (ℕ → Bool) → List ℕ → Type 0
  Tests p a = a ≡ map (λ x. lane (p x)) v

  module _ (p q : ℕ → Bool) (a b : List ℕ) (is : Tests p a) (too : Tests q b) where
    pub either : Tests (λ x. p x || q x) (zip2 bit_or a b)
    either = ap₂ (zip2 bit_or) is too ∙ zip2-map bit_or _ _ v ∙ lanes_as _ _ (λ x. or_lane (p x) (q x)) v

    pub both : Tests (λ x. p x && q x) (zip2 bit_and a b)
    both = ap₂ (zip2 bit_and) is too ∙ zip2-map bit_and _ _ v ∙ lanes_as _ _ (λ x. and_lane (p x) (q x)) v

  module _ (long : length v ≡ 16) where
    pub under : (n : ℕ)
        → Tests (λ x. ltb x n) (zip2 (λ x y. cond (ltb x y) 255 0) v (replicate 16 n))
    under n = zip2_splat _ v 16 n long

    pub over : (n : ℕ)
        → Tests (λ x. ltb n x) (zip2 (λ x y. cond (ltb x y) 255 0) (replicate 16 n) v)
    over n = zip2_splat_left (λ x y. cond {A = ℕ} (ltb x y) 255 0) n 16 v long

    pub from : (n : ℕ)
        → Tests (λ x. leb n x) (zip2 (λ x y. cond (leb x y) 255 0) (replicate 16 n) v)
    from n = zip2_splat_left (λ x y. cond {A = ℕ} (leb x y) 255 0) n 16 v long

    pub same : (n : ℕ)
        → Tests (λ x. eqb x n) (zip2 (λ x y. cond (eqb x y) 255 0) v (replicate 16 n))
    same n = zip2_splat _ v 16 n long

    pub other : (n : ℕ)
        → Tests (λ x. not (eqb x n)) (zip2 (λ x y. cond (not (eqb x y)) 255 0) v (replicate 16 n))
    other n = zip2_splat _ v 16 n long

    -- all bits of a lane, or none
    pub chosen : (p : ℕ → Bool) (a : List ℕ) → Tests p a
        → Tests p (sel_l (map (top 7) a) (replicate 16 255) (replicate 16 0))
    chosen p a is = ap (λ l. sel_l (map (top 7) l) (replicate 16 255) (replicate 16 0)) is ∙ picked p v 16 long

    pub never : Tests (λ _. false) (replicate 16 0)
    never = sym (blank v 16 long)
      where
        blank : (v : List ℕ) (n : ℕ) → length v ≡ n → map (λ _. lane false) v ≡ replicate n 0
        blank [] zero e = refl
        blank [] (suc n) e = absurd (omega arith)
        blank (x ∷ v) zero e = absurd (omega arith)
        blank (x ∷ v) (suc n) e = ap (λ l. 0 ∷ l) (blank v n (omega arith))

    -- a test of tests that were chosen so
    pub again : (p : ℕ → Bool) (a : List ℕ) → Tests p a
        → Tests p (zip2 (λ x y. cond (eqb x y) 255 0) a (replicate 16 255))
    again p a is =
        ap (λ l. zip2 (λ x y. cond (eqb x y) 255 0) l (replicate 16 255)) is
        ∙ zip2_splat _ (map (λ x. lane (p x)) v) 16 255 (length-map v _ ∙ long) ∙ map-map _ _ v ∙ lanes_as _ _ (λ x. all_set (p x)) v
      where
        all_set : (t : Bool) → cond (eqb (lane t) 255) 255 0 ≡ lane t
        all_set true = refl
        all_set false = refl

    -- the mask of a test
    pub bits : (p : ℕ → Bool) (a : List ℕ) → Tests p a
        → mask_l (map (top 7) a) % 2 ^ 64 ≡ mask_l (map p v)
    bits p a is =
        ap (λ l. mask_l l % 2 ^ 64) (ap (map (top 7)) is ∙ map-map (top 7) _ v ∙ tops v)
        ∙ mask_l-mod (map p v) 64 (omega (arith, length-map v p, long))
      where
        tops : (v : List ℕ) → map (λ x. top 7 (lane (p x))) v ≡ map p v
        tops [] = refl
        tops (x ∷ v) = ap₂ (λ y ys. y ∷ ys) (top_lane (p x)) (tops v)
