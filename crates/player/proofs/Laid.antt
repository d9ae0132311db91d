-- What a fetch leaves of a room.
use Rattle.std.proofs.Common.{zero, suc, refl, ◌≡◌, ℕ, ◌+◌, ◌-◌, ◌<◌, ◌≤◌, max, true, List, [], ◌∷◌, ◌++◌, length, take, drop, replicate, sym, ap, subst, ◌∙◌, append_assoc, arith, slice_index, slice_range, ext_get_or, length-append, take-append-drop, take_at}
use Rattle.std.proofs.lemmas.List.{drop_at, length-take-le, length-replicate, get_or-replicate, take-replicate, drop-replicate}
use Rattle.std.proofs.lemmas.Bool.{cond_both}
use Rattle.std.proofs.Math.Utf8.{encodes}
use Rattle.utf8.specs.Room.{overlay}
use Rattle.utf8.proofs.Rooms.{laid_none}
use Rattle.input.specs.View.{View}
use Rattle.input.specs.Tests.{Shown}
use Rattle.input.proofs.Keeping.{never}
use Rattle.runs.specs.declared.Fetched.{Fetched}
use Rattle.runs.specs.Rooms.{front_that_fits, beyond, part}
use Rattle.runs.specs.Scans.{Writes}
use Rattle.runs.proofs.Fronts.{prefix_taken}
use Rattle.runs.proofs.Longest.{fitting_longest}
use Rattle.runs.proofs.Laying.{laid_length}
use Rattle.calls.specs.declared.call.Answer.{Answer}
use Rattle.calls.specs.declared.call.Call.{Call}
use Rattle.calls.specs.declared.call.NoClass.{NoClass}
use Rattle.calls.specs.declared.call.ScanCall.{ScanCall}
use Rattle.calls.specs.Entries.{Means, filled_after}
use Rattle.calls.specs.Kinds.{kind_of}
use Rattle.player.specs.Untouched.{untouched}
use Rattle.player.specs.Rooms.{Lays}
use Rattle.player.specs.Plays.{no_member, entry}

fitting_fits : (free : ℕ) (cs : List ℕ) → length (encodes (front_that_fits free cs)) ≤ free
fitting_fits free cs =
    let f = fitting_longest free cs in
    subst (λ xs. length (encodes xs) ≤ free) (prefix_taken (front_that_fits free cs) cs f.front) f.holds

part_fits : (room : List ℕ) (filled : ℕ) (run : List ℕ) → filled + length (encodes (part room filled run)) ≤ max filled (length room)
part_fits room filled run =
    cond_both (beyond room filled) _ _ (λ xs. filled + length (encodes xs) ≤ max filled (length room))
    (λ _. omega arith)
    (λ _. omega (arith, fitting_fits (length room - filled) run))

lays : (run room : List ℕ) (filled : ℕ) (r : Fetched) (left : List ℕ) → Writes run room filled r left → Lays room filled left r.filled
lays run room filled r left f =
    let fits = part_fits room filled run in
    record { bytes = encodes (part room filled run); lies = f.bytes; fills = f.fills; fits = omega (arith, f.fills) }

pub means_lays : {H : Type 0} (s : Shown) (call : Call NoClass) (room : List ℕ) (filled : ℕ) (a : Answer) (left : List ℕ) (v w : View H) → (kind_of call).fetches ≡ true → Means no_member s call (entry call room filled a left) v w → Lays room filled left (filled_after filled a)
means_lays s (Call.Scan (ScanCall.FetchRun k)) room filled a left v w is (r, e, f) =
    subst (λ x. Lays room filled left (filled_after filled x)) (sym e) (lays _ room filled r left f.writes)
means_lays s (Call.Scan (ScanCall.FetchPlainScalarChunk count in_flow)) room filled a left v w is (r, e, f, _) =
    subst (λ x. Lays room filled left (filled_after filled x)) (sym e) (lays _ room filled r.1 left f.takes.writes)
means_lays s call room filled a left v w is m = absurd (never is)

taken_of_none : (n : ℕ) → take {A = ℕ} n [] ≡ []
taken_of_none zero = refl
taken_of_none (suc n) = refl

-- where there is no room, nothing is appended
pub none_appended : (left : List ℕ) (n : ℕ) → length left ≡ 0 → slice_range left 0 n ≡ []
none_appended [] n e = taken_of_none (n - 0)
none_appended (b ∷ left) n e = absurd (omega (arith, e))

pub lays_length : (room : List ℕ) (filled : ℕ) (left : List ℕ) (next : ℕ) → Lays room filled left next → length left ≡ length room
lays_length room filled left next l = ap length l.lies ∙ go l.bytes l.lies l.fills l.fits
  where
    go : (bytes : List ℕ) → left ≡ overlay room filled bytes → next ≡ filled + length bytes → next ≤ max filled (length room) → length (overlay room filled bytes) ≡ length room
    go [] e n h = ap length (laid_none room filled)
    go (b ∷ bytes) e n h = laid_length room filled (b ∷ bytes) (omega arith)

-- what lies past the new filled count is as it was
lays_rest : (room : List ℕ) (filled : ℕ) (left : List ℕ) (next : ℕ) → filled ≤ length room → Lays room filled left next → drop next left ≡ drop next room
lays_rest room filled left next h l =
    let front : List ℕ = take filled room ++ l.bytes in
    let size : length front ≡ next = omega (arith, length-append (take filled room) l.bytes, length-take-le filled room h, l.fills) in
    ap (drop next) (l.lies ∙ sym (append_assoc (take filled room) l.bytes (drop (filled + length l.bytes) room)))
    ∙ (drop_at front (drop (filled + length l.bytes) room) next size ∙ ap (λ n. drop n room) (sym l.fills))

pub length_untouched : (size : ℕ) → length (untouched size) ≡ size
unfolding untouched
length_untouched size = length-replicate size 0xEE

drop_untouched : (n size : ℕ) → drop n (untouched size) ≡ untouched (size - n)
unfolding untouched
drop_untouched n size = drop-replicate n size 0xEE

-- a room that was untouched is so from its filled count on
pub record LeftOver (size : ℕ) (left : List ℕ) (next : ℕ) : Type 0 where
  pub all : length left ≡ size
  pub within : next ≤ size
  pub rest : drop next left ≡ untouched (size - next)

pub left_over : (size : ℕ) (left : List ℕ) (next : ℕ) → Lays (untouched size) 0 left next → LeftOver size left next
left_over size left next l =
    let all = length_untouched size in
    record {
      all = lays_length (untouched size) 0 left next l ∙ all;
      within = omega (arith, l.fits);
      rest = lays_rest (untouched size) 0 left next (omega arith) l ∙ drop_untouched next size;
    }

pub all_untouched : (bytes : List ℕ) (size : ℕ) → length bytes ≡ size → ((k : ℕ) → k < size → slice_index bytes k ≡ 0xEE) → bytes ≡ untouched size
unfolding untouched
all_untouched bytes size e each =
    ext_get_or 0 bytes (replicate size 0xEE) (e ∙ sym (length-replicate size 0xEE)) (λ k h. each k (omega arith) ∙ sym (get_or-replicate size k 0xEE 0 (omega arith)))

-- what was filled is wiped
pub wiped : (bytes front : List ℕ) (until : ℕ) → until ≤ length bytes → drop until bytes ≡ untouched (length bytes - until) → front ≡ untouched (length (take until bytes)) → front ++ drop until bytes ≡ untouched (length bytes)
unfolding untouched
wiped bytes front until h rest e =
    let size = length bytes in
    let n : length (take until bytes) ≡ until = length-take-le until bytes h in
    let whole : List ℕ = replicate size 0xEE in
    (λ i. (e ∙ ap (λ k. replicate k 0xEE) n ∙ sym (take-replicate until size 0xEE h)) i ++ (rest ∙ sym (drop-replicate until size 0xEE)) i)
    ∙ take-append-drop until whole

pub unwritten : (size : ℕ) (bytes : List ℕ) → bytes ≡ untouched size → LeftOver size bytes 0
unwritten size bytes e =
    let none : size - 0 ≡ size = omega arith in
    record {
      all = ap length e ∙ length_untouched size;
      within = omega arith;
      rest = e ∙ ap untouched (sym none);
    }

-- A `Vec` of which every byte was written through a slice of it.
written : (new old : List ℕ) (size : ℕ) → length new ≡ size → take size (new ++ drop (length new) old) ≡ new
written new old size e = take_at new (drop (length new) old) size e

pub wiped_all : (new was items : List ℕ) (size len : ℕ) → new ≡ untouched (length was) → was ≡ items → length items ≡ size → length items ≡ len → take len (new ++ drop (length new) items) ≡ untouched size
wiped_all new was items size len e same all n =
    let now : new ≡ untouched size = e ∙ ap untouched (ap length same ∙ all) in
    written new items len (ap length now ∙ (length_untouched size ∙ (sym all ∙ n))) ∙ now

pub fetched_all : (left was items : List ℕ) (size len next : ℕ) → Lays was 0 left next → was ≡ items → items ≡ untouched size → length items ≡ len → (take len (left ++ drop (length left) items) ≡ left) × LeftOver size left next
fetched_all left was items size len next lays same clean n =
    let l = left_over size left next (subst (λ xs. Lays xs 0 left next) (same ∙ clean) lays) in
    (written left items len (l.all ∙ (sym (length_untouched size) ∙ (sym (ap length clean) ∙ n))), l)
