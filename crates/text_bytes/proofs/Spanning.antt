-- How far a run is known to go on, byte by byte of a text.
use Rattle.std.proofs.Common.{◌≡◌, ◌≢◌, ℕ, zero, suc, ◌+◌, ◌-◌, ◌*◌, ◌/◌, ◌%◌, ◌^◌, ◌<◌, ◌≤◌, Bool, true, false, cond, not, eqb, List, [], ◌∷◌, ◌++◌, length, get_or, take, drop, map, count_ones, refl, sym, subst, ap, ◌∙◌, inl, inr, arith, length-take}
use mir.Val.{bool_byte}
use Rattle.std.specs.List.{count_by, prefix_len}
use Rattle.std.specs.Int.Count.{count_trailing_zeros}
use Rattle.std.specs.Simd.Lanes.{mask_l, chunk}
use Rattle.std.proofs.Math.Seq.{take-add}
use Rattle.std.proofs.lemmas.List.{drop-drop, drop_more, take-map, take-take}
use Rattle.std.proofs.lemmas.List.Sums.{sum_by-append, sum_by-cons, count_by-le-length}
use Rattle.std.proofs.lemmas.Bool.{cases_lt, eqb-true, not-false}
use Rattle.std.proofs.lemmas.Nat.{mod-pow-add}
use Rattle.std.proofs.lemmas.Simd.{ones-mask_l, length-chunk, trailing_mask_l, run_in_chunk_le, run_in_chunk_fails, run_in_chunk_stops, none_from_empty_mask}
use Rattle.char_traits.specs.declared.known.Known.{Known}
use Rattle.runs.specs.declared.Colon.{Colon}
use Rattle.text_bytes.specs.Spans.{begins_one, unsure, Spaces, Spans}

module _ (known : Known) (colon : Colon) (text : List ℕ) (from : ℕ) where
  pub span_none : from ≤ length text → Spans known colon text from from 0
  span_none h =
      let none : from - from ≡ 0 = omega arith in
      record { order = omega arith; inside = h; each = λ k l m. absurd (omega arith); number = sym (ap (λ n. count_by begins_one (take n (drop from text))) none) }

  module _ (at count : ℕ) (s : Spans known colon text from at count) where
    pub span_on : (n more : ℕ) → at + n ≤ length text
        → ((k : ℕ) → at ≤ k → k < at + n → unsure known colon (get_or text k 0) ≡ false)
        → more ≡ count_by begins_one (take n (drop at text))
        → Spans known colon text from (at + n) (count + more)
    span_on n more h each is =
        let rest = drop from text in
        let far : at + n - from ≡ (at - from) + n = omega (arith, s.order) in
        let there : from + (at - from) ≡ at = omega (arith, s.order) in
        let parts : take (at + n - from) rest ≡ take (at - from) rest ++ take n (drop at text) =
        ap (λ k. take k rest) far ∙ take-add (at - from) n rest ∙ ap (λ xs. take (at - from) rest ++ take n xs) (drop-drop (at - from) from text ∙ ap (λ k. drop k text) there)
        in
        let sum : count_by begins_one (take (at + n - from) rest) ≡ count_by begins_one (take (at - from) rest) + count_by begins_one (take n (drop at text)) =
        ap (count_by begins_one) parts ∙ sum_by-append _ (take (at - from) rest) (take n (drop at text))
        in
        record {
          order = omega (arith, s.order);
          inside = h;
          each = λ k l m. elim (cases_lt k at) [ inl b ↦ s.each k l b | inr b ↦ each k b m ];
          number = omega (arith, s.number, is, sum);
        }

-- the lowest digits of a mask are those of the first lanes
lowest : (b : Bool) (n : ℕ)
    → ((cond b 1 0 + 2 * n) % 2 ≡ cond b 1 0) × ((cond b 1 0 + 2 * n) / 2 ≡ n)
lowest true n = omega arith
lowest false n = omega arith

pub below : (n : ℕ) (ms : List Bool) → mask_l ms % 2 ^ n ≡ mask_l (take n ms)
below zero ms = omega arith
below (suc n) [] = omega arith
below (suc n) (b ∷ ms) =
    let l = lowest b (mask_l ms) in
    let one : suc n ≡ n + 1 = omega arith in
    ap (λ k. mask_l (b ∷ ms) % 2 ^ k) one ∙ mod-pow-add (mask_l (b ∷ ms)) n 1 ∙ omega (arith, l.0, ap (λ m. m % 2 ^ n) l.1, below n ms)

-- how many of the first lanes pass a test
pub ones_below : (p : ℕ → Bool) (n : ℕ) (v : List ℕ)
    → count_ones (mask_l (map p v) % 2 ^ n) ≡ count_by p (take n v)
ones_below p n v = ap count_ones (below n (map p v) ∙ ap mask_l (take-map p n v)) ∙ ones-mask_l p (take n v)

no_bits : (p : ℕ → Bool) (v : List ℕ) → prefix_len (λ x. not (p x)) v ≡ length v
    → mask_l (map p v) ≡ 0
no_bits p [] e = refl
no_bits p (x ∷ v) e = go (p x) e (no_bits p v)
  where
    go : (b : Bool) → cond (not b) (1 + prefix_len (λ x. not (p x)) v) 0 ≡ suc (length v)
        → (prefix_len (λ x. not (p x)) v ≡ length v → mask_l (map p v) ≡ 0)
        → cond b 1 0 + 2 * mask_l (map p v) ≡ 0
    go true e rest = absurd (omega (arith, e))
    go false e rest = omega (arith, rest (omega (arith, e)))

-- no more characters begin than there are bytes
pub span_few : (known : Known) (colon : Colon) (text : List ℕ) (from to count : ℕ)
    → Spans known colon text from to count → count ≤ to - from
span_few known colon text from to count s =
    omega (arith, s.number, count_by-le-length begins_one (take (to - from) (drop from text)), length-take (to - from) (drop from text))

-- a block of sixteen bytes, by the mask of a test
module _ (p : ℕ → Bool) (text : List ℕ) (at bits : ℕ) (room : at + 16 ≤ length text) (is : bits ≡ mask_l (map p (chunk at 16 text))) where
  pub none_pass : bits ≡ 0 → (k : ℕ) → at ≤ k → k < at + 16 → p (get_or text k 0) ≡ false
  none_pass none = none_from_empty_mask p text at 16 0 room (sym is ∙ none)

  -- r bytes stand before the first that passes
  module _ (some : bits ≢ 0) where
    abbrev r : ℕ
    r = count_trailing_zeros 64 bits

    long : length (chunk at 16 text) ≡ 16
    long = length-chunk at 16 text room

    counted : r ≡ prefix_len (λ x. not (p x)) (chunk at 16 text)
    counted = ap (count_trailing_zeros 64) is ∙ trailing_mask_l p 64 (chunk at 16 text) (omega (arith, long)) (omega (arith, is, some))

    pub within : r < 16
    within =
        let h : r ≤ 16 = run_in_chunk_le p text at 16 r 0 room counted in
        let other : r ≢ 16 = λ e. some (is ∙ no_bits p (chunk at 16 text) (sym counted ∙ e ∙ sym long)) in
        omega (arith, h, other)

    pub none_before : (k : ℕ) → at ≤ k → k < at + r → p (get_or text k 0) ≡ false
    none_before = run_in_chunk_fails p text at 16 r 0 room counted

    pub passes_there : p (get_or text (at + r) 0) ≡ true
    passes_there = run_in_chunk_stops p text at 16 r 0 room counted within

module _ (known : Known) (colon : Colon) (text : List ℕ) (from at count bits first : ℕ) (s : Spans known colon text from at count)
    (room : at + 16 ≤ length text) (is : bits ≡ mask_l (map (unsure known colon) (chunk at 16 text))) (firsts : first ≡ mask_l (map begins_one (chunk at 16 text))) where
  -- none of its bytes is unsure
  pub span_block : bits ≡ 0 → Spans known colon text from (at + 16) (count + count_ones first)
  span_block none =
      span_on known colon text from at count s 16 (count_ones first) room (none_pass (unsure known colon) text at bits room is none)
      (ap count_ones firsts ∙ ones-mask_l begins_one (chunk at 16 text))

  -- some are
  pub span_stop : bits ≢ 0
      → Spans known colon text from (at + count_trailing_zeros 64 bits) (count + count_ones (first % 2 ^ count_trailing_zeros 64 bits))
  span_stop some =
      let r = count_trailing_zeros 64 bits in
      let h = within (unsure known colon) text at bits room is some in
      span_on known colon text from at count s r (count_ones (first % 2 ^ r)) (omega (arith, h, room)) (none_before (unsure known colon) text at bits room is some)
      (ap (λ m. count_ones (m % 2 ^ r)) firsts ∙ ones_below begins_one r (chunk at 16 text)
      ∙ ap (count_by begins_one) (take-take r 16 (drop at text) (omega (arith, h))))

-- a single byte
module _ (known : Known) (colon : Colon) (text : List ℕ) (from at count : ℕ) (s : Spans known colon text from at count) (h : at < length text) where
  pub span_byte : (begins : Bool) → unsure known colon (get_or text at 0) ≡ false
      → begins ≡ begins_one (get_or text at 0)
      → Spans known colon text from (at + 1) (count + cond begins 1 0)
  span_byte begins sure is =
      let one : count_by begins_one (take 1 (drop at text)) ≡ cond (begins_one (get_or text at 0)) 1 0 + 0 =
      ap (λ l. count_by begins_one (take 1 l)) (drop_more text at 0 h) ∙ sum_by-cons (λ b. cond (begins_one b) 1 0) (get_or text at 0) []
      in
      span_on known colon text from at count s 1 (cond begins 1 0) (omega arith)
      (λ k l m. let e : at ≡ k = omega arith in subst (λ j. unsure known colon (get_or text j 0) ≡ false) e sure)
      (omega (arith, one, ap (λ t. cond {A = ℕ} t 1 0) is))

pub one_if : (b : Bool) → bool_byte b ≡ cond b 1 0
one_if true = refl
one_if false = refl

-- spaces
pub spaces_none : (text : List ℕ) (from : ℕ) → from ≤ length text → Spaces text from from
spaces_none text from h = record { order = omega arith; inside = h; each = λ k l m. absurd (omega arith) }

pub spaces_on : (text : List ℕ) (from at n : ℕ) → Spaces text from at → at + n ≤ length text
    → ((k : ℕ) → at ≤ k → k < at + n → not (eqb (get_or text k 0) 0x20) ≡ false)
    → Spaces text from (at + n)
spaces_on text from at n s h each =
    record {
      order = omega (arith, s.order);
      inside = h;
      each = λ k l m. elim (cases_lt k at) [ inl b ↦ s.each k l b | inr b ↦ eqb-true _ _ (not-false _ (each k b m)) ];
    }
