-- The worked examples are computed.
use Rattle.std.proofs.Common.{◌≡◌, ℕ, ◌+◌, ◌-◌, ◌<◌, ◌≤◌, Bool, true, false, cond, not, ◌&&◌, ◌||◌, ltb, List, [], ◌∷◌, ◌++◌, length, get_or, take, drop, is_some, Some, None, codes, sym, refl, ap, ◌∙◌, subst, arith, Err}
use lib.Utf8.{encode, encodes}
use Rattle.std.proofs.lemmas.Str.{encode_ascii, length-encode}
use Rattle.std.specs.Bool.{OnTrue}
use Rattle.error.specs.Numbers.{fault_of}
use Rattle.char_traits.specs.Chars.{yaml_non_space}
use Rattle.utf8.specs.Room.{overlay}
use Rattle.source.specs.declared.codes.Codes.{Codes}
use Rattle.input.specs.View.{Manner}
use Rattle.input.specs.Calls.{none_left}
use Rattle.input.specs.Tests.{flag, start_marker, marker_in}
use Rattle.input.proofs.Marking.{marker_same, marker_seen}
use Rattle.runs.specs.declared.SkipTabs.{SkipTabs}
use Rattle.runs.specs.declared.SkipTabs.TheVariants.{Yes, No}
use Rattle.runs.specs.Runs.{run_of, plain_run, chunk_run, colon_at, eol_run, blanks_of, unseparated}
use Rattle.runs.specs.Rooms.{front_that_fits, part, refusal_number}
use Rattle.runs.specs.Scans.{flags_of, StepsChunk}
use Rattle.runs.proofs.Laying.{fit_one, fit_none}
use Rattle.worked_examples.specs.Worked.{Worked, hot_line, EolGives, StartIs, PlainIs, PromptChunkIs, ChunkIs, HalfFetched, NulIsNoEnd, pulled, PromptToldOnce, ToldOnce}

one_byte : (c : ℕ) → c < 128 → length (encode c) ≡ 1
one_byte c h = ap length (encode_ascii c h)

ab_fits : front_that_fits 3 (0x61 ∷ 0x62 ∷ 0xE9 ∷ []) ≡ 0x61 ∷ 0x62 ∷ []
ab_fits =
    let a = one_byte 0x61 (omega arith) in
    let b = one_byte 0x62 (omega arith) in
    let e : length (encode 0xE9) ≡ 2 = length-encode 0xE9 in
    fit_one 3 0x61 (0x62 ∷ 0xE9 ∷ []) (omega arith)
    ∙ ap (λ k. 0x61 ∷ front_that_fits (3 - k) (0x62 ∷ 0xE9 ∷ [])) a
    ∙ ap (λ xs. 0x61 ∷ xs) (fit_one 2 0x62 (0xE9 ∷ []) (omega arith) ∙ ap (λ k. 0x62 ∷ front_that_fits (2 - k) (0xE9 ∷ [])) b ∙ ap (λ xs. 0x62 ∷ xs) (fit_none 1 0xE9 [] (omega arith)))

ab_bytes : encodes (0x61 ∷ 0x62 ∷ []) ≡ 0x61 ∷ 0x62 ∷ []
ab_bytes = let a = encode_ascii 0x61 (omega arith) in let b = encode_ascii 0x62 (omega arith) in λ t. a t ++ (b t ++ [])

up_to_one : (b : Bool) → cond {A = ℕ} b 1 0 ≤ 1
up_to_one true = omega arith
up_to_one false = omega arith

module _ (H : Type 0) where
  eol : (tabs : SkipTabs) (ahead : List ℕ) (count : ℕ) (answer : ℕ × List ℕ) → length (eol_run tabs ahead) ≡ count
      → cond (unseparated tabs ahead) (5, []) (0, flags_of (blanks_of tabs ahead)) ≡ answer → EolGives H tabs ahead count answer
  eol tabs ahead count answer i j r v w e k =
      let n : r.0 ≡ count = k.skips.number ∙ ap (λ a. length (eol_run tabs a)) e ∙ i in (
        n,
        k.answer ∙ ap (λ a. cond (unseparated tabs a) (5, []) (0, flags_of (blanks_of tabs a))) e ∙ j,
        k.skips.ahead ∙ (λ t. drop (n t) (e t)),
      )

  start : (ahead : List ℕ) (is : Bool) → start_marker (marker_in (λ n. get_or ahead n 0)) ≡ is → StartIs H ahead is
  start ahead is i s v e wide f =
      marker_seen start_marker v.window s wide f.marker
      ∙ ap (λ m. (0, flag (start_marker m))) (marker_same s.at (λ n. get_or ahead n 0) (λ n h. f.at n (omega arith) ∙ ap (λ a. get_or a n 0) e))
      ∙ ap (λ b. (0, flag b)) i

  plain : (in_flow : Bool) (ahead : List ℕ) (count : ℕ) → length (plain_run in_flow ahead) ≡ count → PlainIs H in_flow ahead count
  plain in_flow ahead count i look n v w e k = k.number ∙ ap (λ a. length (plain_run in_flow a)) e ∙ i

  no_end : NulIsNoEnd H
  no_end s v e wide f = f.at_end wide ∙ ap none_left e

  prompt_chunk : (ahead : List ℕ) (window : ℕ) (stopped : Bool) (count : ℕ) → 1 ≤ window → length (take 3 (chunk_run (colon_at window) false ahead)) ≡ count → ltb count 3 ≡ stopped
      → PromptChunkIs H ahead window stopped count
  prompt_chunk ahead window stopped count some i j r v w is e wide k =
      let up : w.window ≡ v.window = omega (arith, k.takes.keeps.narrow is, up_to_one v.manner.steps) in
      let sight : k.colon ≡ colon_at window = k.sight (ap colon_at (sym up)) ∙ ap colon_at wide in
      let n : r.1 ≡ count = k.takes.number ∙ (λ t. length (take 3 (chunk_run (sight t) false (e t)))) ∙ i in
      (k.stopped ∙ ap (λ m. ltb m 3) n ∙ j, n)

  chunk : (ahead : List ℕ) (window : ℕ) (stopped : Bool) (count : ℕ) → 1 ≤ window → window ≤ 16 → length (take 3 (chunk_run (colon_at window) false ahead)) ≡ count → ltb count 3 ≡ stopped
      → ChunkIs H ahead window stopped count
  chunk ahead window stopped count some few i j aheads source r v u w is new look on =
      let prompt : v.manner.prompt ≡ true = ap (λ (m : Manner). m.prompt) new.manner in
      let after : u.manner.prompt ≡ true = ap (λ (m : Manner). m.prompt) look.keeps.manner ∙ prompt in
      let steps : u.manner.steps ≡ true = ap (λ (m : Manner). m.steps) (look.keeps.manner ∙ new.manner) in
      let k : StepsChunk false 3 r u w = subst (λ (b : Bool). OnTrue b (StepsChunk false 3 r u w)) steps on in
      let closed = new.new.closed prompt in
      let wide : u.window ≡ window = omega (arith, look.keeps.narrow prompt, closed) in
      prompt_chunk ahead window stopped count some i j r u w after (look.ahead ∙ new.all ∙ is) wide k

  half : HalfFetched H
  half look x y z r left v w e f =
      let room : List ℕ = x ∷ y ∷ z ∷ [] in
      let is : part room 0 (run_of yaml_non_space v.ahead) ≡ 0x61 ∷ 0x62 ∷ [] = ap (λ a. part room 0 (run_of yaml_non_space a)) e ∙ ab_fits in
      let count : r.count ≡ 2 = f.skips.number ∙ ap length is in
      let filled : r.filled ≡ 2 = f.writes.fills ∙ ap (λ p. 0 + length (encodes p)) is ∙ ap (λ p. 0 + length p) ab_bytes in
      let refusal : refusal_number r.refusal ≡ (7, []) =
      f.writes.refusal ∙ (λ t. cond (ltb (length room) 0) (6, []) (cond (ltb (length (is t)) (length (run_of yaml_non_space (e t)))) (7, []) (0, []))) in (
        λ t. ((refusal t).0, count t ∷ filled t ∷ (refusal t).1),
        f.writes.bytes ∙ ap (λ p. overlay room 0 (encodes p)) is ∙ ap (overlay room 0) ab_bytes,
        f.skips.ahead ∙ (λ t. drop (count t) (e t)),
      )

  prompt_told : PromptToldOnce H
  prompt_told one two three v a b c d e is new ahead ending l1 a1 l2 a2 a3 =
      let after : (m n : Manner) → n ≡ m → m.prompt ≡ true → n.prompt ≡ true = λ m n q p. ap (λ (x : Manner). x.prompt) q ∙ p in
      let ia : a.manner.prompt ≡ true = after v.manner a.manner l1.keeps.manner is in
      let ib : b.manner.prompt ≡ true = after a.manner b.manner a1.keeps.manner ia in
      let va : a.ahead ≡ codes "ab" = l1.ahead ∙ ahead in
      let wa : a.window ≡ 2 = (let n = l1.keeps.narrow is in let z = new.closed is in omega arith) in
      let ma : a.met ≡ false =
      l1.keeps.late is ∙ (λ t. new.unmet is t || (false || ltb (length (va t)) (wa t))) in
      let ta : a.told ≡ false = l1.told ∙ new.untold in
      let ea : a.ending ≡ Err pulled = l1.keeps.ending ∙ ending in
      let none : one ≡ None = a1.fault ∙ (λ t. cond (ma t && not a.told) (fault_of a.ending) None) in
      let vb : b.ahead ≡ codes "ab" = a1.ahead ∙ va in
      let wb : b.window ≡ 2 = (let n = a1.keeps.narrow ia in omega arith) in
      let tb : b.told ≡ false = a1.told ∙ (λ t. ta t || is_some (none t)) in
      let vc : c.ahead ≡ codes "ab" = l2.ahead ∙ vb in
      let wc : c.window ≡ 3 = (let n = l2.keeps.narrow ib in omega arith) in
      let met : (m : Bool) → m || (false || true) ≡ true = λ m. elim m as (λ x. x || (false || true) ≡ true) [ true ↦ refl | false ↦ refl ] in
      let mc : c.met ≡ true = l2.keeps.late ib ∙ (λ t. b.met || (false || ltb (length (vc t)) (wc t))) ∙ met b.met in
      let tc : c.told ≡ false = l2.told ∙ tb in
      let ec : c.ending ≡ Err pulled = l2.keeps.ending ∙ a1.keeps.ending ∙ ea in
      let some : two ≡ Some pulled = a2.fault ∙ (λ t. cond (mc t && not (tc t)) (fault_of (ec t)) None) in
      let td : d.told ≡ true = a2.told ∙ (λ t. tc t || is_some (some t)) in
      let md : d.met ≡ true = a2.keeps.stays mc in
      (none, some, a3.fault ∙ (λ t. cond (md t && not (td t)) (fault_of d.ending) None))

told : ToldOnce
told source one two three v a b c d e starts fresh =
    prompt_told Codes one two three v a b c d e (ap (λ (m : Manner). m.prompt) fresh.manner) fresh.new (fresh.all ∙ starts.all) (fresh.finish ∙ starts.ends)

pub worked : (H : Type 0) → Worked H
worked H =
    record {
      hot_with_tabs = eol H Yes hot_line 8 (0, 1 ∷ 1 ∷ []) refl refl;
      hot_without = eol H No hot_line 2 (0, 0 ∷ 1 ∷ []) refl refl;
      unseparated = λ tabs. elim tabs as (λ t. EolGives H t (codes "#x") 0 (5, [])) [ Yes ↦ eol H Yes (codes "#x") 0 (5, []) refl refl | No ↦ eol H No (codes "#x") 0 (5, []) refl refl ];
      start_at_end = start H (codes "---") true refl;
      no_start = start H (codes "---a") false refl;
      colon_inside = plain H false (codes "a:b c") 3 refl;
      colon_stops = plain H false (codes "a: b") 1 refl;
      flow_stops = plain H true (codes "a,b") 1 refl;
      half_fetched = half H;
      nul_is_no_end = no_end H;
      prompt_chunk_narrow = prompt_chunk H (codes "a:b") 1 true 1 (omega arith) refl refl;
      prompt_chunk_wide = prompt_chunk H (codes "a:b") 2 false 3 (omega arith) refl refl;
      chunk_narrow = chunk H (codes "a:b") 1 true 1 (omega arith) (omega arith) refl refl;
      chunk_wide = chunk H (codes "a:b") 2 false 3 (omega arith) (omega arith) refl refl;
      prompt_told_once = prompt_told H;
      told_once = told;
    }
