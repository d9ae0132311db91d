-- Runs, and what fits of them, are fronts of what is ahead.
use Rattle.std.proofs.Common.{◌≡◌, ℕ, ◌+◌, ◌-◌, ◌≤◌, Bool, true, false, cond, List, [], ◌++◌, length, take, drop, None, sym, refl, ap, ◌∙◌, append_assoc, arith, length-append, take-append-drop, take_all, ltb}
use mathlib.Core.List.{IsPrefix}
use lib.Seq.{take-append_seam, drop-append_seam}
use lib.Utf8.{encodes}
use Rattle.std.proofs.lemmas.Bool.{ltb-false}
use Rattle.char_traits.specs.Chars.{not_breakz, plain_safe}
use Rattle.utf8.specs.Room.{overlay}
use Rattle.input.specs.View.{View, Look}
use Rattle.input.specs.Calls.{none_left}
use Rattle.runs.specs.declared.Fetched.{Fetched}
use Rattle.runs.specs.declared.SkipTabs.{SkipTabs}
use Rattle.runs.specs.declared.Colon.TheVariants.{Free, Leads}
use Rattle.runs.specs.Runs.{goes, run_by, run_of, plain_run, separates, blanks_of, after_blanks, at_hash, comment_of, eol_run}
use Rattle.runs.specs.Rooms.{front_that_fits, beyond, part, refusal_number, fetch_refusal}
use Rattle.runs.specs.Scans.{Fetches}
use Rattle.runs.specs.Laws.{FetchesAll}
use Rattle.runs.proofs.Longest.{run_longest, fitting_longest}

pub prefix_trans : (xs ys zs : List ℕ) → IsPrefix xs ys → IsPrefix ys zs → IsPrefix xs zs
prefix_trans xs ys zs (r, e) (s, i) = (r ++ s, sym (append_assoc xs r s) ∙ ap (λ t. t ++ s) e ∙ i)

pub prefix_short : (xs ys : List ℕ) → IsPrefix xs ys → length xs ≤ length ys
prefix_short xs ys (r, e) = omega (arith, ap length e, length-append xs r)

-- what a front takes, and what it leaves
pub prefix_taken : (xs ys : List ℕ) → IsPrefix xs ys → take (length xs) ys ≡ xs
prefix_taken xs ys (r, e) = ap (take (length xs)) (sym e) ∙ take-append_seam xs r

pub prefix_left : (xs ys : List ℕ) → IsPrefix xs ys → ys ≡ xs ++ drop (length xs) ys
prefix_left xs ys (r, e) = sym e ∙ ap (λ t. xs ++ t) (sym (ap (drop (length xs)) (sym e) ∙ drop-append_seam xs r))

-- a front, and a front of what it leaves
prefix_both : (xs ys zs : List ℕ) → IsPrefix xs zs → IsPrefix ys (drop (length xs) zs) → IsPrefix (xs ++ ys) zs
prefix_both xs ys zs p (r, e) = (r, append_assoc xs ys r ∙ ap (λ t. xs ++ t) e ∙ sym (prefix_left xs zs p))

pub run_prefix : (go : ℕ → ℕ → Bool) (ahead : List ℕ) → IsPrefix (run_by go ahead) ahead
run_prefix go ahead = (run_longest go ahead).front

pub chunk_prefix : (wants : ℕ) (in_flow : Bool) (ahead : List ℕ) → IsPrefix (take wants (plain_run in_flow ahead)) ahead
chunk_prefix wants in_flow ahead =
    let run = plain_run in_flow ahead in
    prefix_trans (take wants run) run ahead (drop wants run, take-append-drop wants run) (run_prefix (goes (plain_safe in_flow) Leads) ahead)

pub blanks_prefix : (tabs : SkipTabs) (ahead : List ℕ) → IsPrefix (blanks_of tabs ahead) ahead
blanks_prefix tabs ahead = run_prefix (goes (separates tabs) Free) ahead

-- blanks, and a comment after them
pub eol_prefix : (tabs : SkipTabs) (ahead : List ℕ) → IsPrefix (eol_run tabs ahead) ahead
eol_prefix tabs ahead =
    let blanks = blanks_of tabs ahead in
    prefix_both blanks _ ahead (blanks_prefix tabs ahead) (rest (none_left blanks))
  where
    comment : (b : Bool) (a : List ℕ) → IsPrefix (cond b (run_of not_breakz a) []) a
    comment true a = run_prefix (goes not_breakz Free) a
    comment false a = (a, refl)

    rest : (b : Bool) → IsPrefix (cond b [] (comment_of (after_blanks tabs ahead))) (after_blanks tabs ahead)
    rest true = (after_blanks tabs ahead, refl)
    rest false = comment (at_hash (after_blanks tabs ahead)) (after_blanks tabs ahead)

-- what a fetch takes
pub part_prefix : (room : List ℕ) (filled : ℕ) (run : List ℕ) → IsPrefix (part room filled run) run
part_prefix room filled run =
    elim (beyond room filled) as (λ b. IsPrefix (cond b [] (front_that_fits (length room - filled) run)) run)
    [ true ↦ (run, refl) | false ↦ (fitting_longest (length room - filled) run).front ]

-- a fetch that is not refused appended the whole run
whole : (xs ys : List ℕ) → IsPrefix xs ys → length ys ≤ length xs → xs ≡ ys
whole xs ys p h = sym (prefix_taken xs ys p) ∙ take_all (length xs) ys h

pub part_whole : (room : List ℕ) (filled : ℕ) (run : List ℕ) → fetch_refusal room filled run ≡ (0, []) → part room filled run ≡ run
part_whole room filled run e =
    whole (part room filled run) run (part_prefix room filled run) (ltb-false _ _ (fits (beyond room filled) (ltb (length (part room filled run)) (length run)) e))
  where
    fits : (b c : Bool) → cond {A = ℕ × List ℕ} b (6, []) (cond c (7, []) (0, [])) ≡ (0, []) → c ≡ false
    fits true c e = absurd (omega (arith, ap (λ (x : ℕ × List ℕ). x.0) e))
    fits false true e = absurd (omega (arith, ap (λ (x : ℕ × List ℕ). x.0) e))
    fits false false e = refl

pub fetches_all : {H : Type 0} (looks : Bool) (look : Look) (run room : List ℕ) (filled : ℕ) (r : Fetched) (left : List ℕ) (v w : View H)
    → Fetches looks look run room filled r left v w → r.refusal ≡ None → FetchesAll run room filled r left v w
fetches_all looks look run room filled r left v w f none =
    let all = part_whole room filled run (sym f.writes.refusal ∙ ap refusal_number none) in
    let count : r.count ≡ length run = f.skips.number ∙ ap length all in
    record {
      count = count;
      fills = f.writes.fills ∙ ap (λ xs. filled + length (encodes xs)) all;
      bytes = f.writes.bytes ∙ ap (λ xs. overlay room filled (encodes xs)) all;
      ahead = f.skips.ahead ∙ ap (λ k. drop k v.ahead) count;
    }
