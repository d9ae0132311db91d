-- What the theorem on whole readings needs of each call.
use Rattle.std.proofs.Common.{◌≡◌, ℕ, ◌≤◌, min, Bool, true, false, cond, not, ◌&&◌, ◌||◌, List, [], ◌∷◌, length, get_or, take, drop, is_some, Some, None, Option, sym, refl, ap, ◌∙◌, subst, arith, length-take}
use mathlib.Core.List.{IsPrefix}
use Rattle.std.specs.Option.{option_to_list}
use Rattle.std.proofs.Math.Bool.{or-false}
use Rattle.error.specs.Numbers.{fault_of}
use Rattle.error.specs.declared.Fault.{Fault}
use Rattle.char_traits.specs.Chars.{breakz}
use Rattle.input.specs.View.{View, IsSound, Look, exactly, Keeps}
use Rattle.input.specs.Calls.{none_left, first_in_line, taken_by as in_line_taken, closing_of}
use Rattle.input.specs.Tests.{Shown}
use Rattle.input.proofs.Keeping.{still}
use Rattle.runs.specs.declared.Fetched.{Fetched}
use Rattle.runs.specs.Rooms.{part}
use Rattle.runs.specs.Scans.{SkipsRun, Fetches}
use Rattle.runs.proofs.Fronts.{prefix_trans, prefix_short, prefix_taken, part_prefix, chunk_prefix, blanks_prefix, eol_prefix}
use Rattle.calls.specs.declared.call.ScanCall.{ScanCall}
use Rattle.calls.specs.declared.call.Call.{Call}
use Rattle.calls.specs.declared.call.Answer.{Answer}
use Rattle.calls.specs.Entries.{Entry, Scans, Means, answer_number}
use Rattle.calls.specs.Kinds.{kind_of, looks, overfull, finds_end, TookAppended, Took}
use Rattle.reading.specs.Reading.{untold_fault}
use Rattle.reading.proofs.Fronts.{skip_prefix, fetch_prefix, part_appended}

or_none : (b : Bool) → b ≡ b || false
or_none b = sym (or-false b)

-- what a read takes
read_front : (a : List ℕ) → take 1 a ≡ cond (none_left a) [] (get_or a 0 0 ∷ [])
read_front [] = refl
read_front (c ∷ a) = refl

in_line_front : (a : List ℕ) → take (in_line_taken (first_in_line a)) a ≡ option_to_list (first_in_line a)
in_line_front [] = refl
in_line_front (c ∷ a) =
    elim (breakz c) as (λ b. take (in_line_taken (cond b None (Some c))) (c ∷ a) ≡ option_to_list (cond b None (Some c))) [ true ↦ refl | false ↦ refl ]

told_after : (t m : Bool) (o : Option Fault) → t || is_some (cond (m && not t) o None) ≡ t || (true && (m && is_some o))
told_after true m o = refl
told_after false true o = refl
told_after false false o = refl

module _ {C H : Type 0} where
  -- what an asking and a closing answer
  abbrev pub Tells_of : Call C → Answer → View H → Type 0
  Tells_of Call.TakeSourceError a v = answer_number a ≡ answer_number (Answer.Asked (untold_fault v v.told))
  Tells_of Call.Close a v = answer_number a ≡ answer_number (Answer.Closed (closing_of v.ahead v.ending))
  Tells_of _ a v = Unit {0}

  -- how many characters it takes, and what it keeps and tells
  pub record Facts (k : Call C) (e : Entry C) (v w : View H) : Type 0 where
    pub count : ℕ
    pub drops : w.ahead ≡ drop count v.ahead
    pub took : Took k e.answer e v.ahead (take count v.ahead)
    pub keeps : Keeps (finds_end k e v.ahead w.ahead) (looks v.manner k e) v w
    pub wide : min 16 (looks v.manner k e).least ≤ w.window
    pub told : w.told ≡ v.told || ((kind_of k).takes_fault && (v.met && is_some (fault_of v.ending)))
    pub tells : Tells_of k e.answer v

module _ {C H : Type 0} (member : C → ℕ → Bool) (shown : Shown) (v w : View H) (s : IsSound v) (e : Entry C) where
  -- a call that answers this and takes so many
  takes : (k : Call C) (a : Answer) (n : ℕ) → e.answer ≡ a → Took k a e v.ahead (take n v.ahead) → w.ahead ≡ drop n v.ahead
      → Keeps (finds_end k e v.ahead w.ahead) (looks v.manner k e) v w → min 16 (looks v.manner k e).least ≤ w.window
      → w.told ≡ v.told || ((kind_of k).takes_fault && (v.met && is_some (fault_of v.ending))) → Tells_of k e.answer v → Facts k e v w
  takes k a n i took drops keeps wide told tells =
      record {
        count = n;
        drops = drops;
        took = subst (λ (x : Answer). Took k x e v.ahead (take n v.ahead)) (sym i) took;
        keeps = keeps;
        wide = wide;
        told = told;
        tells = tells;
      }

  -- a call that leaves everything as it was
  module _ (i : w ≡ v) where
    rest_keeps : Keeps false (exactly 0) v w
    rest_keeps = subst (λ (x : View H). Keeps false (exactly 0) v x) (sym i) (still v s)

    rest_ahead : w.ahead ≡ v.ahead
    rest_ahead = ap (λ (x : View H). x.ahead) i

    rest_told : w.told ≡ v.told || false
    rest_told = ap (λ (x : View H). x.told) i ∙ or_none v.told

  -- a run is counted
  counted : (finds : Bool) (look : Look) (run : List ℕ) (n : ℕ) → SkipsRun finds look run n v w → IsPrefix run v.ahead → n ≡ length (take n v.ahead)
  counted finds look run n r p = let short = prefix_short run v.ahead p in simp length-take (omega (arith, r.number))

  -- what is fetched of a run is appended, and counted
  module _ (finds : Bool) (look : Look) (run : List ℕ) (d : Fetched) (r : Fetches finds look run e.room e.filled d e.left v w) (p : IsPrefix run v.ahead) where
    front : IsPrefix (part e.room e.filled run) v.ahead
    front = prefix_trans (part e.room e.filled run) run v.ahead (part_prefix e.room e.filled run) p

    fetched : TookAppended d e (take d.count v.ahead)
    fetched = (
      ap (λ k. take k v.ahead) r.skips.number ∙ prefix_taken (part e.room e.filled run) v.ahead front
          ∙ part_appended e.room e.filled run v.ahead e.left d.filled p s.characters r.writes.fills r.writes.bytes,
      counted _ _ _ d.count r.skips front,
    )

  -- a scanning call that skips so many of a run
  scans : (k : ScanCall C) (a : Answer) (run : List ℕ) (n : ℕ) → e.answer ≡ a → Took (Call.Scan k) a e v.ahead (take n v.ahead)
      → SkipsRun ((kind_of (Call.Scan k)).plain && not (overfull (Call.Scan k) e)) (looks v.manner (Call.Scan k) e) run n v w → Facts (Call.Scan k) e v w
  scans k a run n i took r = takes (Call.Scan k) a n i took r.ahead r.keeps r.wide (r.told ∙ or_none _) tt

  scan_facts : (k : ScanCall C) → Scans member k e v w → Facts (Call.Scan k) e v w
  scan_facts (ScanCall.SkipRun k) (n, a, r) = scans _ (Answer.Count n) _ n a.answer (refl, counted _ _ _ n r (skip_prefix member k v.ahead)) r
  scan_facts (ScanCall.FetchRun k) (d, a, r) =
      let p = fetch_prefix member k v.ahead in scans _ (Answer.Fetch d) _ d.count a (fetched _ _ _ d r p) r.skips
  scan_facts (ScanCall.SkipWsToEol tabs) ((n, o), a, r) =
      scans _ (Answer.ToEol n o) _ n a.answer (refl, counted _ _ _ n r.skips (eol_prefix tabs v.ahead)) r.skips
  scan_facts (ScanCall.SkipWsToEolBlanks tabs) ((n, o), a, r) =
      scans _ (Answer.Blanks n o) _ n a.answer (refl, counted _ _ _ n r.skips (blanks_prefix tabs v.ahead)) r.skips
  scan_facts (ScanCall.SkipPlainScalarChunk count in_flow) ((stopped, n), a, r, _) =
      scans _ (Answer.SkippedChunk stopped n) _ n a.answer (refl, counted _ _ _ n r.takes (chunk_prefix r.wants in_flow v.ahead)) r.takes
  scan_facts (ScanCall.FetchPlainScalarChunk count in_flow) ((stopped, d), a, r, _) =
      let p = chunk_prefix r.wants in_flow v.ahead in
      scans _ (Answer.FetchedChunk stopped d) _ d.count a (fetched _ _ _ d r.takes p) r.takes.skips

  pub facts : (k : Call C) → Means member shown k e v w → Facts k e v w
  facts (Call.Lookahead n) (a, r) = takes _ Answer.Nothing 0 a.answer refl r.ahead r.keeps r.wide (r.told ∙ or_none _) tt
  facts (Call.Added n) (a, r) = takes _ Answer.Nothing 0 a.answer refl r.ahead r.keeps r.wide (r.told ∙ or_none _) tt
  facts Call.LookCh (c, a, r, _) = takes _ (Answer.Character c) 0 a.answer refl r.ahead r.keeps r.wide (r.told ∙ or_none _) tt
  facts Call.NextCh (o, a, r) = takes _ (Answer.Next o) 0 a.answer refl r.ahead r.keeps (omega arith) (r.told ∙ or_none _) tt
  facts Call.Read (c, a, r) =
      takes _ (Answer.Character c) 1 a.answer (read_front v.ahead ∙ ap (λ x. cond (none_left v.ahead) [] (x ∷ [])) (sym r.character)) r.ahead
      r.keeps (omega arith) (r.told ∙ or_none _) tt
  facts Call.ReadNonBreakz (o, a, r) =
      let took = λ (x : Option ℕ). take (in_line_taken x) v.ahead ≡ option_to_list x in
      takes _ (Answer.Next o) (in_line_taken o) a.answer (subst took (sym r.character) (in_line_front v.ahead)) r.ahead r.keeps (omega arith)
      (r.told ∙ or_none _) tt
  facts Call.Skip (a, r) = takes _ Answer.Nothing 1 a.answer refl r.ahead r.keeps (omega arith) (r.told ∙ or_none _) tt
  facts (Call.SkipN n) (a, r) = takes _ Answer.Nothing n a.answer refl r.ahead r.keeps (omega arith) (r.told ∙ or_none _) tt
  facts Call.Peek (a, i) = takes _ (Answer.Character (shown.at 0)) 0 a.answer refl (rest_ahead i) (rest_keeps i) (omega arith) (rest_told i) tt
  facts (Call.PeekNth n) (a, i) = takes _ (Answer.Character (shown.at n)) 0 a.answer refl (rest_ahead i) (rest_keeps i) (omega arith) (rest_told i) tt
  facts (Call.Test t) (o, a, _, i) = takes _ (Answer.Tested o) 0 a.answer refl (rest_ahead i) (rest_keeps i) (omega arith) (rest_told i) tt
  facts (Call.Scan k) r = scan_facts k r
  facts Call.TakeSourceError (o, a, r) =
      takes _ (Answer.Asked o) 0 a.answer refl r.ahead r.keeps (omega arith)
      (r.told ∙ ap (λ (x : Option Fault). v.told || is_some x) r.fault ∙ told_after v.told v.met (fault_of v.ending))
      (ap answer_number a.answer ∙ ap (λ (x : Option Fault). answer_number (Answer.Asked x)) r.fault)
  facts Call.Open (a, i) = takes _ Answer.Nothing 0 a.answer refl (rest_ahead i) (rest_keeps i) (omega arith) (rest_told i) tt
  facts Call.Close (o, a, r) =
      takes _ (Answer.Closed o) 0 a.answer refl r.looks.ahead r.looks.keeps r.looks.wide (r.looks.told ∙ or_none _)
      (ap answer_number a.answer ∙ ap (λ (x : ℕ × List ℕ). (5, x.0 ∷ x.1)) r.closing)
