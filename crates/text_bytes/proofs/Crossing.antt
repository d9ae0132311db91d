-- A run goes on over bytes of which none is unsure, and has as many characters as begin there.
use Rattle.std.proofs.Common.{◌≡◌, ◌≢◌, ℕ, ◌+◌, ◌-◌, ◌/◌, ◌<◌, ◌≤◌, ◌⊎◌, Bool, true, false, cond, not, ltb, eqb, ◌&&◌, ◌||◌, List, [], ◌∷◌, ◌++◌, length, get_or, drop, map, IsUtf8, refl, sym, ap, ◌∙◌, inl, inr, arith, length-take}
use lib.Utf8.{encode, encodes, next, scalar, scalars}
use Rattle.std.specs.List.{count_by, list_all, slice_range}
use Rattle.std.specs.Str.{IsCharBoundary, chars}
use Rattle.std.proofs.Math.Seq.{drop-append_seam}
use Rattle.std.proofs.lemmas.Bool.{and_from, and_parts, or_parts, not-true, ne_eqb, eqb-false, cases_lt, both_ways}
use Rattle.std.proofs.lemmas.Bool.Decides.{nat_tests}
use Rattle.std.proofs.lemmas.List.{get_or-take, get_or-drop}
use Rattle.std.proofs.lemmas.List.Sums.{sum_by-append, sum_by-cons, list_all-from_AllPass}
use Rattle.std.proofs.lemmas.List.Elements.{All-from_get_or}
use Rattle.std.proofs.lemmas.List.Folds.{list_all-append, drop_split}
use Rattle.std.proofs.lemmas.Str.{IsUtf8-between, chars-append, encodes-chars, scalars-chars}
use Rattle.utf8.proofs.Encoded.{enc1, enc2, enc3, enc4}
use Rattle.char_traits.specs.Chars.{flow}
use Rattle.char_traits.specs.declared.known.Known.{Known}
use Rattle.char_traits.specs.declared.known.Wide.{Wide}
use Rattle.char_traits.specs.declared.known.Wide.TheVariants.{Asked, Printable, All}
use Rattle.char_traits.specs.Known.{Knows, widely}
use Rattle.runs.specs.declared.Colon.{Colon}
use Rattle.runs.specs.declared.Colon.TheVariants.{Free, Stops, Leads}
use Rattle.runs.specs.Runs.{goes, run_by}
use Rattle.text_bytes.specs.Bytes.{IsPlace, ahead_at}
use Rattle.text_bytes.specs.Spans.{begins_one, must_ask, colon_byte, unsure, Spans}
use Rattle.text_bytes.proofs.Running.{Running}

counts : (b : ℕ) (bs : List ℕ)
    → count_by begins_one (b ∷ bs) ≡ cond (begins_one b) 1 0 + count_by begins_one bs
counts = sum_by-cons (λ x. cond (begins_one x) 1 0)

none_after : (codes : List ℕ) → count_by begins_one (map next codes) ≡ 0
none_after [] = refl
none_after (c ∷ codes) =
    let is : begins_one (next c) ≡ false = grind (arith, nat_tests) in
    omega (arith, counts (next c) (map next codes), ap (λ t. cond {A = ℕ} t 1 0) is, none_after codes)

one_lead : (b : ℕ) (codes : List ℕ) → 192 ≤ b → count_by begins_one (b ∷ map next codes) ≡ 1
one_lead b codes h =
    let is : begins_one b ≡ true = grind (arith, nat_tests) in
    omega (arith, counts b (map next codes), ap (λ t. cond {A = ℕ} t 1 0) is, none_after codes)

one_ascii : (b : ℕ) → b < 128 → count_by begins_one (b ∷ []) ≡ 1
one_ascii b h =
    let is : begins_one b ≡ true = grind (arith, nat_tests) in
    omega (arith, counts b [], ap (λ t. cond {A = ℕ} t 1 0) is)

-- of the bytes of a character one begins it
begun_char : (c : ℕ) → count_by begins_one (encode c) ≡ 1
begun_char c =
    elim (cases_lt c 128) [
      | inl a ↦ ap (count_by begins_one) (enc1 c a) ∙ one_ascii c a
      | inr a ↦
          elim (cases_lt c 2048) [
            | inl b ↦ ap (count_by begins_one) (enc2 c a b) ∙ one_lead (192 + c / 64) (c ∷ []) (omega arith)
            | inr b ↦
                elim (cases_lt c 65536) [
                  | inl d ↦ ap (count_by begins_one) (enc3 c b d) ∙ one_lead (224 + c / 4096) (c / 64 ∷ c ∷ []) (omega arith)
                  | inr d ↦ ap (count_by begins_one) (enc4 c d) ∙ one_lead (240 + c / 262144) (c / 4096 ∷ c / 64 ∷ c ∷ []) (omega arith)
                ]
          ]
    ]

pub begun_chars : (cs : List ℕ) → count_by begins_one (encodes cs) ≡ length cs
begun_chars [] = refl
begun_chars (c ∷ cs) = omega (arith, sum_by-append (λ b. cond (begins_one b) 1 0) (encode c) (encodes cs), begun_char c, begun_chars cs)

-- a wide character of which the first byte is not asked
by_lead : (w : Wide) (c b : ℕ) → 192 ≤ b → (b ≢ 0xC2 → 192 ≤ c)
    → (b ≢ 0xEF → (c < 0xF000) ⊎ (0x10000 ≤ c)) → must_ask w b ≡ false → widely w c ≡ true
by_lead Asked c b h two three e = absurd (both_ways (must_ask Asked b) e (grind (arith, nat_tests)))
by_lead Printable c b h two three e =
    let p = or_parts (eqb b 0xC2) (eqb b 0xEF) e in
    let l = two (eqb-false _ _ p.0) in
    elim (three (eqb-false _ _ p.1)) [
      | inl u ↦ grind (arith, nat_tests)
      | inr u ↦ grind (arith, nat_tests)
    ]
by_lead All c b h two three e = refl

lead_known : (w : Wide) (c : ℕ) → 128 ≤ c → (sure : ℕ → Bool)
    → ((b : ℕ) → sure b ≡ true → must_ask w b ≡ false)
    → list_all sure (encode c) ≡ true → widely w c ≡ true
lead_known w c h sure turn each =
    elim (cases_lt c 2048) [
      | inl a ↦
          by_lead w c (192 + c / 64) (omega arith) (λ n. omega arith) (λ n. inl (omega arith))
          (turn _ (and_parts (sure (192 + c / 64)) _ (sym (ap (list_all sure) (enc2 c h a)) ∙ each)).0)
      | inr a ↦
          elim (cases_lt c 65536) [
            | inl b ↦
                by_lead w c (224 + c / 4096) (omega arith) (λ n. omega arith) (λ n. inl (omega arith))
                (turn _ (and_parts (sure (224 + c / 4096)) _ (sym (ap (list_all sure) (enc3 c a b)) ∙ each)).0)
            | inr b ↦
                by_lead w c (240 + c / 262144) (omega arith) (λ n. omega arith) (λ n. inr (omega arith))
                (turn _ (and_parts (sure (240 + c / 262144)) _ (sym (ap (list_all sure) (enc4 c b)) ∙ each)).0)
          ]
    ]

on_with : (member : ℕ → Bool) (colon : Colon) (c after : ℕ) → member c ≡ true → c ≢ colon_byte colon
    → goes member colon c after ≡ true
on_with member Free c after m s = m
on_with member Stops c after m s = and_from (member c) _ m (ap not (ne_eqb c 0x3A s))
on_with member Leads c after m s = and_from (member c) _ m (ap (λ t. not t || member after) (ne_eqb c 0x3A s))

-- where a byte is unsure, no character goes on
pub unsure_begins : (k : Known) (colon : Colon) (b : ℕ) → k.low ≤ 128 → unsure k colon b ≡ true
    → 128 ≤ b → 192 ≤ b
unsure_begins k colon b low u h =
    elim (cases_lt b 192) [
      | inl l ↦
          absurd
          (both_ways (unsure k colon b)
          (none_of (ltb b k.low) (ltb k.high b) (ltb b 0x80) (must_ask k.wide b) (eqb b (colon_byte colon)) k.but_flow (flow b) (grind (arith, nat_tests))
          (grind (arith, nat_tests)) (not_asked k.wide b h l) (no_colon colon b h) (grind (arith, nat_tests)))
          u)
      | inr l ↦ l
    ]
  where
    none_of : (p q r s t f g : Bool) → p ≡ false → r ≡ false → s ≡ false → t ≡ false → g ≡ false
        → ((p || (q && r)) || ((s || t) || (f && g))) ≡ false
    none_of p true r s t true g a b c d e = cc
    none_of p true r s t false g a b c d e = cc
    none_of p false r s t true g a b c d e = cc
    none_of p false r s t false g a b c d e = cc

    not_asked : (w : Wide) (b : ℕ) → 128 ≤ b → b < 192 → must_ask w b ≡ false
    not_asked Asked b h l = grind (arith, nat_tests)
    not_asked Printable b h l = grind (arith, nat_tests)
    not_asked All b h l = refl

    no_colon : (colon : Colon) (b : ℕ) → 128 ≤ b → eqb b (colon_byte colon) ≡ false
    no_colon Free b h = grind (arith, nat_tests)
    no_colon Stops b h = grind (arith, nat_tests)
    no_colon Leads b h = grind (arith, nat_tests)

module _ (member : ℕ → Bool) (k : Known) (knows : Knows member k) (colon : Colon) where
  abbrev sure : ℕ → Bool
  sure b = not (unsure k colon b)

  record Sure (b : ℕ) : Type 0 where
    bounds : (ltb b k.low || (ltb k.high b && ltb b 0x80)) ≡ false
    lead : must_ask k.wide b ≡ false
    colons : eqb b (colon_byte colon) ≡ false
    flows : (k.but_flow && flow b) ≡ false

  parts : (b : ℕ) → sure b ≡ true → Sure b
  parts b s =
      let p = or_parts (ltb b k.low || (ltb k.high b && ltb b 0x80)) _ (not-true _ s) in
      let q = or_parts (must_ask k.wide b || eqb b (colon_byte colon)) _ p.1 in
      let r = or_parts (must_ask k.wide b) _ q.0 in
      record { bounds = p.0; lead = r.0; colons = r.1; flows = q.1 }

  colon_low : (colon : Colon) (c : ℕ) → 128 ≤ c → c ≢ colon_byte colon
  colon_low Free c h e = omega arith
  colon_low Stops c h e = omega arith
  colon_low Leads c h e = omega arith

  sure_member : (c : ℕ) → scalar c ≡ true → list_all sure (encode c) ≡ true
      → (member c ≡ true) × (c ≢ colon_byte colon)
  sure_member c s each =
      elim (cases_lt c 128) [
        | inl low ↦
            (let p = parts c (and_parts (sure c) _ (sym (ap (list_all sure) (enc1 c low)) ∙ each)).0 in
            let q = or_parts (ltb c k.low) (ltb k.high c && ltb c 0x80) p.bounds in
            (knows.ascii c (grind (arith, nat_tests)) (grind (arith, nat_tests)) p.flows, eqb-false _ _ p.colons))
        | inr wide ↦ (
          knows.wide c s wide (lead_known k.wide c wide sure (λ b t. (parts b t).lead) each),
          λ e. colon_low colon c wide e,
        )
      ]

  -- of so many characters of sure bytes a run has all
  sure_run : (cs rest : List ℕ) → scalars cs ≡ true → list_all sure (encodes cs) ≡ true
      → length (run_by (goes member colon) (cs ++ rest)) ≡ length cs + length (run_by (goes member colon) rest)
  sure_run [] rest s each = omega arith
  sure_run (c ∷ cs) rest s each =
      let p = and_parts (scalar c) (scalars cs) s in
      let q = and_parts (list_all sure (encode c)) (list_all sure (encodes cs)) (sym (list_all-append sure (encode c) (encodes cs)) ∙ each) in
      let m = sure_member c p.0 q.0 in
      let on = on_with member colon c (get_or (cs ++ rest) 0 0) m.0 m.1 in
      let more = ap (λ t. length (cond t (c ∷ run_by (goes member colon) (cs ++ rest)) [])) on in
      omega (arith, more, sure_run cs rest p.1 q.1)

  module _ (text : List ℕ) (from to count : ℕ) (p : IsPlace text from) (s : Spans k colon text from to count)
      (stops : to < length text → unsure k colon (get_or text to 0) ≡ true) where
    pub crossed_boundary : IsCharBoundary text to
    crossed_boundary = (s.inside, λ l h. unsure_begins k colon (get_or text to 0) knows.bounds.0 (stops l) h)

    abbrev bytes : List ℕ
    bytes = slice_range text from to

    is_text : IsUtf8 bytes
    is_text = IsUtf8-between text from to (chars text, (p.characters, p.formed)) s.order p.boundary crossed_boundary

    each_sure : list_all sure bytes ≡ true
    each_sure =
        list_all-from_AllPass sure bytes
        (All-from_get_or (λ b. sure b ≡ true) bytes 0
        (λ i l.
        let n = length-take (to - from) (drop from text) in
        let at : get_or bytes i 0 ≡ get_or text (from + i) 0 = get_or-take (to - from) (drop from text) i 0 (omega (arith, l, n)) ∙ get_or-drop from text i 0 in
        ap (λ b. sure b) at ∙ ap not (s.each (from + i) (omega arith) (omega (arith, l, n, s.order)))))

    pub crossed : Running (goes member colon) (ahead_at text from) (ahead_at text to) count
    crossed =
        let cs = chars bytes in
        let left = ahead_at text to in
        let split : ahead_at text from ≡ cs ++ left = ap chars (drop_split text from to s.order) ∙ chars-append bytes (drop to text) is_text in
        let spelt : encodes cs ≡ bytes = encodes-chars bytes is_text in
        let many : count ≡ length cs = s.number ∙ ap (count_by begins_one) (sym spelt) ∙ begun_chars cs in
        let run = sure_run cs left (scalars-chars bytes is_text) (ap (list_all sure) spelt ∙ each_sure) in
        record {
          ahead = sym (ap (λ n. drop n (ahead_at text from)) many ∙ ap (drop (length cs)) split ∙ drop-append_seam cs left);
          run = omega (arith, ap (λ xs. length (run_by (goes member colon) xs)) split, run, many);
        }
