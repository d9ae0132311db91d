-- Two readings of one list give the same answers.
use Rattle.std.proofs.Common.{◌≡◌, ℕ, suc, ◌+◌, ◌≤◌, min, max, Bool, true, false, cond, List, [], ◌∷◌, length, get_or, drop, map, Option, sym, refl, ap, ◌∙◌, subst, arith}
use mathlib.Core.List.{head-eq_of_cons-eq, tail-eq_of_cons-eq}
use lib.Utf8.{encodes}
use Rattle.std.specs.Option.{option_to_list}
use Rattle.input.specs.View.{Manner, View, IsSound, Look}
use Rattle.input.specs.Calls.{first_of, first_in_line, taken_by}
use Rattle.input.specs.Tests.{Shown, IsFaithful}
use Rattle.input.proofs.Keeping.{never}
use Rattle.utf8.specs.Room.{overlay}
use Rattle.runs.specs.declared.Fetched.{Fetched}
use Rattle.runs.specs.Runs.{blanks_of, eol_run, unseparated}
use Rattle.runs.specs.Rooms.{part, fetch_refusal}
use Rattle.runs.specs.Scans.{flags_of, SkipsRun, Fetches}
use Rattle.calls.specs.declared.call.ScanCall.{ScanCall}
use Rattle.calls.specs.declared.call.ScanCall.TheVariants.{SkipRun, FetchRun, SkipWsToEol, SkipWsToEolBlanks, SkipPlainScalarChunk, FetchPlainScalarChunk}
use Rattle.calls.specs.declared.call.Call.{Call}
use Rattle.calls.specs.declared.call.Call.TheVariants.{Lookahead, Added, LookCh, NextCh, Read, ReadNonBreakz, Skip, SkipN, Peek, PeekNth, Test as TestCall, Scan, TakeSourceError, Open, Close}
use Rattle.calls.specs.declared.call.Answer.{Answer}
use Rattle.calls.specs.declared.call.Answer.TheVariants.{Nothing, Character, Next, Tested, Count, Fetch, Blanks, ToEol}
use Rattle.calls.specs.Entries.{Entry, Scans, Means, Performs, answer_number, run_skipped, run_fetched}
use Rattle.calls.specs.Kinds.{kind_of, looks}
use Rattle.reading.specs.Reading.{call_given, answer_got, compared_entries, calls, answers, IsReadingList, log_of, Side, ReadsList, SideBySide}
use Rattle.reading.proofs.Facts.{facts}
use Rattle.reading.proofs.Shown.{shown_same, tests_same}
use Rattle.reading.proofs.Runs.{Ran, ran}

abbrev room_of : {C : Type 0} → Call C → List ℕ → List ℕ
room_of k room = cond (kind_of k).fetches room []

abbrev filled_of : {C : Type 0} → Call C → ℕ → ℕ
filled_of k filled = cond (kind_of k).fetches filled 0

-- what one call of two inputs has in common
abbrev Common : {C H K : Type 0} → Call C → Entry C → Entry C → View H → View K → Type 0
Common k l m u x = (answer_number l.answer ≡ answer_number m.answer) × (room_of k l.left ≡ room_of k m.left) × (u.ahead ≡ x.ahead)

module _ {C H K : Type 0} (member : C → ℕ → Bool) (v u : View H) (y x : View K) (l o : Entry C) (e : v.ahead ≡ y.ahead) where
  -- two equal answers
  told : (c d : Answer) → l.answer ≡ c → o.answer ≡ d → answer_number c ≡ answer_number d → answer_number l.answer ≡ answer_number o.answer
  told c d i j k = ap answer_number i ∙ k ∙ sym (ap answer_number j)

  rested : u ≡ v → x ≡ y → u.ahead ≡ x.ahead
  rested i j = ap (λ (z : View H). z.ahead) i ∙ e ∙ sym (ap (λ (z : View K). z.ahead) j)

  -- two skips of one run
  module _ (p q : Bool) (a b : Look) (xs ys : List ℕ) (is : xs ≡ ys) (c d : ℕ) (r : SkipsRun p a xs c v u) (s : SkipsRun q b ys d y x) where
    skip_count : c ≡ d
    skip_count = r.number ∙ ap length is ∙ sym s.number

    skip_ahead : u.ahead ≡ x.ahead
    skip_ahead = r.ahead ∙ (λ t. drop (skip_count t) (e t)) ∙ sym s.ahead

  -- two fetches of a run into equal rooms
  module _ (room : l.room ≡ o.room) (filled : l.filled ≡ o.filled) (a b : Look) (run : List ℕ → List ℕ) (c d : Fetched) (r : Fetches true a (run v.ahead) l.room l.filled c l.left v u)
      (s : Fetches true b (run y.ahead) o.room o.filled d o.left y x) where
    part_same : part l.room l.filled (run v.ahead) ≡ part o.room o.filled (run y.ahead)
    part_same t = part (room t) (filled t) (run (e t))

    fetch_answer : answer_number (Fetch c) ≡ answer_number (Fetch d)
    fetch_answer =
        let count = skip_count _ _ _ _ _ _ part_same c.count d.count r.skips s.skips in
        let fills : c.filled ≡ d.filled = r.writes.fills ∙ (λ t. filled t + length (encodes (part_same t))) ∙ sym s.writes.fills in
        let refusal = r.writes.refusal ∙ (λ t. fetch_refusal (room t) (filled t) (run (e t))) ∙ sym s.writes.refusal in
        λ t. (7, (refusal t).0 ∷ count t ∷ fills t ∷ (refusal t).1)

    fetch_left : l.left ≡ o.left
    fetch_left = r.writes.bytes ∙ (λ t. overlay (room t) (filled t) (encodes (part_same t))) ∙ sym s.writes.bytes

    fetch_ahead : u.ahead ≡ x.ahead
    fetch_ahead = skip_ahead _ _ _ _ _ _ part_same c.count d.count r.skips s.skips

  scans : (k : ScanCall C) → (kind_of (Scan k)).plain ≡ true → room_of (Scan k) l.room ≡ room_of (Scan k) o.room → filled_of (Scan k) l.filled ≡ filled_of (Scan k) o.filled
      → Scans member k l v u → Scans member k o y x → Common (Scan k) l o u x
  scans (SkipRun k) _ _ _ (c, i, r) (d, j, s) =
      let run = ap (run_skipped member k) e in (
        told (Count c) (Count d) i.answer j.answer (ap (λ z. (6, z ∷ [])) (skip_count _ _ _ _ _ _ run c d r s)),
        refl,
        skip_ahead _ _ _ _ _ _ run c d r s,
      )
  scans (FetchRun k) _ room filled (c, i, r) (d, j, s) =
      let run = run_fetched member k in (
        told (Fetch c) (Fetch d) i j (fetch_answer room filled _ _ run c d r s),
        fetch_left room filled _ _ run c d r s,
        fetch_ahead room filled _ _ run c d r s,
      )
  scans (SkipWsToEol tabs) _ _ _ (c, i, r) (d, j, s) =
      let count = skip_count _ _ _ _ _ _ (ap (eol_run tabs) e) c.0 d.0 r.skips s.skips in
      let result = r.answer ∙ (λ t. cond (unseparated tabs (e t)) (5, []) (0, flags_of (blanks_of tabs (e t)))) ∙ sym s.answer in (
        told (ToEol c.0 c.1) (ToEol d.0 d.1) i.answer j.answer (λ t. (9, count t ∷ (result t).0 ∷ (result t).1)),
        refl,
        skip_ahead _ _ _ _ _ _ (ap (eol_run tabs) e) c.0 d.0 r.skips s.skips,
      )
  scans (SkipWsToEolBlanks tabs) _ _ _ (c, i, r) (d, j, s) =
      let count = skip_count _ _ _ _ _ _ (ap (blanks_of tabs) e) c.0 d.0 r.skips s.skips in
      let seen = r.seen ∙ (λ t. flags_of (blanks_of tabs (e t))) ∙ sym s.seen in (
        told (Blanks c.0 c.1) (Blanks d.0 d.1) i.answer j.answer (λ t. (8, count t ∷ seen t)),
        refl,
        skip_ahead _ _ _ _ _ _ (ap (blanks_of tabs) e) c.0 d.0 r.skips s.skips,
      )
  scans (SkipPlainScalarChunk count in_flow) h _ _ r s = absurd (never h)
  scans (FetchPlainScalarChunk count in_flow) h _ _ r s = absurd (never h)

  module _ (s t : Shown) (fs : IsFaithful s v) (ft : IsFaithful t y) where
    one : (k : Call C) → (kind_of k).compared ≡ true → (kind_of k).plain ≡ true → room_of k l.room ≡ room_of k o.room → filled_of k l.filled ≡ filled_of k o.filled
        → (kind_of k).reaches ≤ v.window → (kind_of k).reaches ≤ y.window → Means member s k l v u → Means member t k o y x → Common k l o u x
    one (Lookahead c) _ _ _ _ _ _ (i, p) (j, q) = (told Nothing Nothing i.answer j.answer refl, refl, p.ahead ∙ e ∙ sym q.ahead)
    one LookCh _ _ _ _ _ _ (c, i, p, k) (d, j, q, z) = (
      told (Character c) (Character d) i.answer j.answer (ap (λ z. (1, z ∷ [])) (k ∙ ap (λ z. get_or z 0 0) e ∙ sym z)),
      refl,
      p.ahead ∙ e ∙ sym q.ahead,
    )
    one NextCh _ _ _ _ _ _ (c, i, p) (d, j, q) = (
      told (Next c) (Next d) i.answer j.answer (ap (λ (z : Option ℕ). (2, option_to_list z)) (p.next ∙ ap first_of e ∙ sym q.next)),
      refl,
      p.ahead ∙ e ∙ sym q.ahead,
    )
    one Read _ _ _ _ _ _ (c, i, p) (d, j, q) = (
      told (Character c) (Character d) i.answer j.answer (ap (λ z. (1, z ∷ [])) (p.character ∙ ap (λ z. get_or z 0 0) e ∙ sym q.character)),
      refl,
      p.ahead ∙ ap (drop 1) e ∙ sym q.ahead,
    )
    one ReadNonBreakz _ _ _ _ _ _ (c, i, p) (d, j, q) =
        let same : c ≡ d = p.character ∙ ap first_in_line e ∙ sym q.character in (
          told (Next c) (Next d) i.answer j.answer (ap (λ (z : Option ℕ). (2, option_to_list z)) same),
          refl,
          p.ahead ∙ (λ t. drop (taken_by (same t)) (e t)) ∙ sym q.ahead,
        )
    one Skip _ _ _ _ _ _ (i, p) (j, q) = (told Nothing Nothing i.answer j.answer refl, refl, p.ahead ∙ ap (drop 1) e ∙ sym q.ahead)
    one (SkipN c) _ _ _ _ _ _ (i, p) (j, q) = (told Nothing Nothing i.answer j.answer refl, refl, p.ahead ∙ ap (drop c) e ∙ sym q.ahead)
    one Peek _ _ _ _ h k (i, p) (j, q) = (
      told (Character (s.at 0)) (Character (t.at 0)) i.answer j.answer (ap (λ z. (1, z ∷ [])) (shown_same s t v y e fs ft 1 h k 0 (omega arith))),
      refl,
      rested p q,
    )
    one (PeekNth c) _ _ _ _ h k (i, p) (j, q) = (
      told (Character (s.at c)) (Character (t.at c)) i.answer j.answer (ap (λ z. (1, z ∷ [])) (shown_same s t v y e fs ft (c + 1) h k c (omega arith))),
      refl,
      rested p q,
    )
    one (TestCall which) _ plain _ _ h k (c, i, p, a) (d, j, q, b) = (
      told (Tested c) (Tested d) i.answer j.answer
          (ap (λ (z : ℕ × List ℕ). (3, z.0 ∷ z.1)) (p ∙ tests_same s t v y e fs ft which h k plain ∙ sym q)),
      refl,
      rested a b,
    )
    one (Scan k) _ plain room filled _ _ p q = scans k plain room filled p q
    one _ h _ _ _ _ _ _ _ = absurd (never h)

-- the reach is lengthened by no more than the lookahead that is asked for
lengthened : {C : Type 0} (manner : Manner) (k : Call C) (l : Entry C) → (kind_of k).lengthens ≤ min 16 (looks manner k l).least
lengthened manner (Lookahead c) l = omega arith
lengthened manner _ l = omega arith

none_compared : {C : Type 0} (fs : List (Entry C)) → calls fs ≡ [] → answers fs ≡ []
none_compared [] e = refl
none_compared (f ∷ fs) e = go (kind_of f.call).compared (none_compared fs) e
  where
    go : (b : Bool) → (calls fs ≡ [] → answers fs ≡ []) → map call_given (cond b (f ∷ compared_entries fs) (compared_entries fs)) ≡ []
        → map answer_got (cond b (f ∷ compared_entries fs) (compared_entries fs)) ≡ []
    go true rest e = let z : suc (length (calls fs)) ≡ 0 = ap length e in absurd (omega arith)
    go false rest e = rest e

module _ {C : Type 0} (K : Type 0) (member : C → ℕ → Bool) where
  -- a call that is not compared leaves what is ahead, and lengthens no reach
  uncompared : {L : Type 0} (s : Shown) (k : Call C) (l : Entry C) (v u : View L) → (kind_of k).compared ≡ false → Means member s k l v u
      → (u.ahead ≡ v.ahead) × ((kind_of k).lengthens ≡ 0)
  uncompared s (Added c) l v u h (i, r) = (r.ahead, refl)
  uncompared s TakeSourceError l v u h (c, i, r) = (r.ahead, refl)
  uncompared {L} s Open l v u h (i, r) = (ap (λ (z : View L). z.ahead) r, refl)
  uncompared s Close l v u h (c, i, r) = (r.looks.ahead, refl)
  uncompared s _ l v u h r = absurd (never (sym h))

  -- a list whose compared calls are these gets these answers, of an input with so much ahead and a window of at least the reach
  abbrev Gets : List (Call C × List ℕ × ℕ) → List ((ℕ × List ℕ) × List ℕ) → List ℕ → ℕ → Type 0
  Gets ks gs ahead reach =
      (fs : List (Entry C)) (y z : View K) → IsSound y → reach ≤ y.window → Ran member fs y z → ks ≡ calls fs → ahead ≡ y.ahead → gs ≡ answers fs

  module _ {H : Type 0} (l : Entry C) (ls : List (Entry C)) (v u : View H) (reach : ℕ) (perf : Performs member l v u) (plain : (kind_of l.call).plain ≡ true)
      (here : (kind_of l.call).reaches ≤ reach) (wide : reach ≤ v.window) (rest : Gets (calls ls) (answers ls) u.ahead (max reach (kind_of l.call).lengthens)) where
    -- one call of each list
    both : (f : Entry C) (fs : List (Entry C)) (y x z : View K) → IsSound y → IsSound x → reach ≤ y.window → (kind_of l.call).compared ≡ true → Performs member f y x → Ran member fs x z
        → call_given l ∷ calls ls ≡ call_given f ∷ calls fs → v.ahead ≡ y.ahead → answer_got l ∷ answers ls ≡ answer_got f ∷ answers fs
    both f fs y x z sy sx far c (t, ft, fm) ran g e =
        let same : call_given l ≡ call_given f = head-eq_of_cons-eq g in
        let call : l.call ≡ f.call = ap (λ (z : Call C × List ℕ × ℕ). z.0) same in
        let room = ap (λ (z : Call C × List ℕ × ℕ). z.1) same ∙ sym (ap (λ (k : Call C). room_of k f.room) call) in
        let filled = ap (λ (z : Call C × List ℕ × ℕ). z.2) same ∙ sym (ap (λ (k : Call C). filled_of k f.filled) call) in
        let means : Means member t l.call f y x = subst (λ (k : Call C). Means member t k f y x) (sym call) fm in
        let next = facts member t y x sy f l.call means in
        let common = one member v u y x l f e perf.0 t perf.1 ft l.call c plain room filled (omega arith) (omega arith) perf.2 means in
        let more = rest fs x z sx (omega (arith, next.wide, next.keeps.window, lengthened y.manner l.call f)) ran (tail-eq_of_cons-eq g) common.2 in
        let left = common.1 ∙ ap (λ (k : Call C). room_of k f.left) call in
        λ j. (common.0 j, left j) ∷ more j

    -- a call that is compared, against the first of the other list that is
    found : (kind_of l.call).compared ≡ true → Gets (call_given l ∷ calls ls) (answer_got l ∷ answers ls) v.ahead reach
    found c [] y z sy far ran g e = let n : suc (length (calls ls)) ≡ 0 = ap length g in absurd (omega arith)
    found c (f ∷ fs) y z sy far (x, perf', sx, ran) g e = go (kind_of f.call).compared refl (found c fs x z sx) g
      where
        go : (b : Bool) → (kind_of f.call).compared ≡ b
            → (reach ≤ x.window → Ran member fs x z → call_given l ∷ calls ls ≡ calls fs → v.ahead ≡ x.ahead → answer_got l ∷ answers ls ≡ answers fs)
            → call_given l ∷ calls ls ≡ map call_given (cond b (f ∷ compared_entries fs) (compared_entries fs)) → answer_got l ∷ answers ls ≡ map answer_got (cond b (f ∷ compared_entries fs) (compared_entries fs))
        go true d more g = both f fs y x z sy sx far c perf' ran g e
        go false d more g =
            let next = facts member perf'.0 y x sy f f.call perf'.2 in
            more (omega (arith, next.keeps.window)) ran g (e ∙ sym (uncompared perf'.0 f.call f y x d perf'.2).0)

    first : (b : Bool) → (kind_of l.call).compared ≡ b
        → Gets (map call_given (cond b (l ∷ compared_entries ls) (compared_entries ls))) (map answer_got (cond b (l ∷ compared_entries ls) (compared_entries ls))) v.ahead reach
    first true c = found c
    first false c = λ fs y z sy far ran g e.
        let none = uncompared perf.0 l.call l v u c perf.2 in rest fs y z sy (omega (arith, none.1)) ran g (none.0 ∙ e)

  alike : {H : Type 0} (ls : List (Entry C)) (v w : View H) (reach : ℕ) → IsSound v → reach ≤ v.window → Ran member ls v w → IsReadingList reach ls
      → Gets (calls ls) (answers ls) v.ahead reach
  alike [] v w reach s wide r i = λ fs y z sy far ran g e. sym (none_compared fs (sym g))
  alike (l ∷ ls) v w reach s wide (u, perf, sound, r) (plain, here, more) =
      let f = facts member perf.0 v u s l l.call perf.2 in
      first l ls v u reach perf plain here wide
      (alike ls u w _ sound (omega (arith, f.wide, f.keeps.window, lengthened v.manner l.call l)) r more) (kind_of l.call).compared refl

pub beside : {C H K : Type 0} (member : C → ℕ → Bool) (s t : Side C H) (x y : Side C K) → IsSound s.input → IsSound x.input → ReadsList member s t → ReadsList member x y → SideBySide member s t x y
beside {C} {H} {K} member s t x y one other a b =
    let es = log_of s.steps t.steps in
    let fs = log_of x.steps y.steps in
    let first = ran member es s.input t.input _ a.account.trace in
    let second = ran member fs x.input y.input _ b.account.trace in
    record {
      one = a;
      other = b;
      same = λ g i e. alike K member es s.input t.input 0 one (omega arith) first i fs x.input y.input other (omega arith) second g e;
    }
