-- A scan after its lookahead.
use Rattle.std.proofs.Common.{◌≡◌, ℕ, ◌-◌, ◌<◌, ◌≤◌, min, max, Bool, true, false, cond, not, ◌&&◌, ◌||◌, ltb, List, [], length, take, drop, Some, Option, sym, refl, ap, ◌∙◌, subst, arith, length-drop, lt-ltb, le-ltb}
use lib.Utf8.{encodes}
use Rattle.std.proofs.Math.Bool.{and-true, and-false}
use Rattle.std.proofs.lemmas.List.{take_all}
use Rattle.std.proofs.lemmas.Str.{length-le-encodes}
use Rattle.error.specs.Limit.{text_limit, place_fits}
use Rattle.error.specs.declared.Refusal.{Refusal}
use Rattle.error.specs.declared.Refusal.TheVariants.{BeyondRoom}
use Rattle.utf8.specs.Room.{overlay}
use Rattle.utf8.proofs.Rooms.{laid_none}
use Rattle.input.specs.View.{View, IsSound, Look, exactly, Keeps}
use Rattle.input.specs.Calls.{none_left, Looks}
use Rattle.input.proofs.Keeping.{never, still, both, none_is}
use Rattle.runs.specs.declared.Fetched.{Fetched}
use Rattle.runs.specs.Runs.{run_by}
use Rattle.runs.specs.Rooms.{front_that_fits, beyond, part, refusal_number, fetch_refusal}
use Rattle.runs.specs.Scans.{scan_look, chunk_look, SkipsRun, Writes, Fetches}
use Rattle.runs.proofs.Fronts.{prefix_short, run_prefix, part_prefix}

-- the longest count
abbrev pub whole : ℕ
whole = 18446744073709551615

pub run_short : (go : ℕ → ℕ → Bool) (a : List ℕ) → length (run_by go a) ≤ length a
run_short go a = prefix_short (run_by go a) a (run_prefix go a)

pub part_short : (room : List ℕ) (filled : ℕ) (run : List ℕ) → length (part room filled run) ≤ length run
part_short room filled run = prefix_short (part room filled run) run (part_prefix room filled run)

pub ahead_short : {H : Type 0} (v : View H) → IsSound v → length v.ahead < 131072
ahead_short v s =
    let p = place_fits text_limit (omega arith) in
    omega (arith, s.short, length-le-encodes v.ahead)

-- all of a run is less than the longest count
module _ {H : Type 0} (go : ℕ → ℕ → Bool) (v : View H) (s : IsSound v) where
  fewer : length (run_by go v.ahead) < whole
  fewer = omega (arith, run_short go v.ahead, ahead_short v s)

  pub all : take whole (run_by go v.ahead) ≡ run_by go v.ahead
  all = take_all whole (run_by go v.ahead) (omega (arith, fewer))

  pub skips_whole : (fits : List ℕ → List ℕ) → ((run : List ℕ) → length (fits run) ≤ length run) → (n : ℕ) (w : View H)
      → SkipsRun (ltb n whole) (exactly 0) (fits (take whole (run_by go v.ahead))) n v w → SkipsRun true (exactly 0) (fits (run_by go v.ahead)) n v w
  skips_whole fits short n w k =
      let looks : ltb n whole ≡ true = lt-ltb n whole (omega (arith, k.number, short (take whole (run_by go v.ahead)), ap length all, fewer)) in
      subst (λ (run : List ℕ). SkipsRun true (exactly 0) (fits run) n v w) all
      (subst (λ (b : Bool). SkipsRun b (exactly 0) (fits (take whole (run_by go v.ahead))) n v w) looks k)

  pub skips_all : (n : ℕ) (w : View H) → SkipsRun (ltb n whole) (exactly 0) (take whole (run_by go v.ahead)) n v w → SkipsRun true (exactly 0) (run_by go v.ahead) n v w
  skips_all = skips_whole (λ run. run) (λ run. omega arith)

-- a lookahead of a count, which a kind that is not prompt may leave out
pub record Allows {H : Type 0} (count : ℕ) (look : Look) (v : View H) : Type 0 where
  pub least : look.least ≤ count
  pub due : v.manner.prompt ≡ true → look.least ≡ count
  pub most : look.most ≡ count

pub allows_all : {H : Type 0} (count : ℕ) (v : View H) → Allows count (exactly count) v
allows_all count v = record { least = omega arith; due = λ _. refl; most = refl }

one_step : (b : Bool) → cond b 1 0 ≤ 1
one_step true = omega arith
one_step false = omega arith

pub allows_scan : {H : Type 0} (v : View H) → IsSound v → Allows 1 (scan_look v.manner) v
allows_scan v s = record { least = one_step v.manner.steps; due = λ p. ap (λ b. cond b 1 0) (s.steps p); most = refl }

pub allows_chunk : {H : Type 0} (v : View H) → IsSound v → (count : ℕ) → 0 < count → Allows 1 (chunk_look v.manner count) v
allows_chunk v s count some =
    let scan = allows_scan v s in
    record { least = omega (arith, scan.least); due = λ p. omega (arith, scan.due p); most = omega arith }

-- what holds only beyond the room holds of any within it
pub within : {A : Type 0} (room : List ℕ) (filled : ℕ) → filled ≤ length room → beyond room filled ≡ true → A
within room filled h e = absurd (never (sym (le-ltb (length room) filled h) ∙ e))

-- within the room a fetch is a skip of what fits, and what it writes
pub fetches_within : {H : Type 0} (looks : Bool) (look : Look) (run room : List ℕ) (filled : ℕ) (r : Fetched) (left : List ℕ) (v w : View H) → filled ≤ length room
    → SkipsRun looks look (part room filled run) r.count v w → Writes run room filled r left → Fetches looks look run room filled r left v w
fetches_within looks look run room filled r left v w h k writes =
    record {
      skips =
          subst (λ (b : Bool). SkipsRun (looks && not b) (cond b (exactly 0) look) (part room filled run) r.count v w) (sym (le-ltb (length room) filled h))
          (subst (λ (b : Bool). SkipsRun b look (part room filled run) r.count v w) (sym (and-true looks)) k);
      writes = writes;
      unmoved = within room filled h;
    }

module _ {H : Type 0} (count : ℕ) (look : Look) (v e w : View H) (few : count ≤ 16) (l : Looks count v e) (a : Allows count look v) where
  pub opened : count ≤ e.window
  opened = omega (arith, l.wide)

  keeps_after : (finds : Bool) → length w.ahead ≤ length e.ahead → Keeps finds (exactly 0) e w → Keeps finds look v w
  keeps_after finds len k =
      let b = both finds (exactly count) v e w len l.keeps k in
      record {
        manner = b.manner;
        ending = b.ending;
        window = b.window;
        stays = b.stays;
        still = b.still;
        meets = b.meets;
        narrow = λ p. b.narrow p ∙ ap (λ n. max v.window (min 16 n)) (sym (a.due p));
        steady = λ p. omega (arith, b.steady p, a.most);
        late = b.late;
      }

  wide_after : e.window ≤ w.window → min 16 look.least ≤ w.window
  wide_after up = omega (arith, opened, a.least)

  pub skips_after : (looks : Bool) (run : List ℕ → List ℕ) (n : ℕ) → SkipsRun looks (exactly 0) (run e.ahead) n e w → SkipsRun looks look (run v.ahead) n v w
  skips_after looks run n k =
      record {
        keeps = keeps_after (looks && none_left w.ahead) (omega (arith, ap length k.ahead ∙ length-drop n e.ahead)) k.keeps;
        told = k.told ∙ l.told;
        wide = wide_after k.keeps.window;
        number = k.number ∙ ap (λ a. length (run a)) l.ahead;
        ahead = k.ahead ∙ ap (drop n) l.ahead;
      }

  pub fetches_after : (go : ℕ → ℕ → Bool) (s : IsSound e) (room : List ℕ) (filled : ℕ) (r : Fetched) (left : List ℕ) → filled ≤ length room
      → SkipsRun (ltb r.count whole) (exactly 0) (part room filled (take whole (run_by go e.ahead))) r.count e w
      → Writes (take whole (run_by go e.ahead)) room filled r left → Fetches true look (run_by go v.ahead) room filled r left v w
  fetches_after go s room filled r left h k writes =
      fetches_within true look (run_by go v.ahead) room filled r left v w h
      (skips_after true (λ a. part room filled (run_by go a)) r.count (skips_whole go e s (part room filled) (part_short room filled) r.count w k))
      (subst (λ (run : List ℕ). Writes run room filled r left) (all go e s ∙ ap (run_by go) l.ahead) writes)

-- a call that looks no further
pub looks_none : {H : Type 0} (v : View H) → IsSound v → Looks 0 v v
looks_none v s =
    record { keeps = still v s; told = refl; ahead = refl; wide = omega arith; far = omega arith }

-- of two runs that are as long
pub skips_as : {H : Type 0} (looks : Bool) (look : Look) (one other : List ℕ) (n : ℕ) (v w : View H) → n ≡ length other → SkipsRun looks look one n v w
    → SkipsRun looks look other n v w
skips_as looks look one other n v w e k = record { keeps = k.keeps; told = k.told; wide = k.wide; number = e; ahead = k.ahead }

-- nothing is taken of an input that stands still
pub skips_none : {H : Type 0} (v : View H) → IsSound v → SkipsRun false (exactly 0) [] 0 v v
skips_none v s = record { keeps = still v s; told = refl; wide = omega arith; number = refl; ahead = refl }

-- and nothing is written
pub writes_none : (run room : List ℕ) (filled : ℕ) (refusal : Option Refusal) → part room filled run ≡ [] → refusal_number refusal ≡ fetch_refusal room filled run
    → Writes run room filled (record { count = 0; filled = filled; refusal = refusal }) room
writes_none run room filled refusal none is =
    record {
      fills = omega (arith, ap (λ xs. length (encodes xs)) none);
      refusal = is;
      bytes = sym (ap (λ xs. overlay room filled (encodes xs)) none ∙ laid_none room filled);
    }

-- a filled count beyond the room
pub fetch_beyond : {H : Type 0} (looks : Bool) (look : Look) (run room : List ℕ) (filled : ℕ) (r : Fetched) (v : View H) → IsSound v → length room < filled
    → r ≡ record { count = 0; filled = filled; refusal = Some BeyondRoom } → Fetches looks look run room filled r room v v
fetch_beyond looks look run room filled r v s h e =
    let out : beyond room filled ≡ true = lt-ltb (length room) filled h in
    subst (λ (x : Fetched). Fetches looks look run room filled x room v v) (sym e)
    (record {
      skips =
          subst (λ (b : Bool). SkipsRun (looks && not b) (cond b (exactly 0) look) (cond b [] (front_that_fits (length room - filled) run)) 0 v v) (sym out)
          (subst (λ (b : Bool). SkipsRun b (exactly 0) [] 0 v v) (sym (and-false looks)) (skips_none v s));
      writes =
          writes_none run room filled (Some BeyondRoom) (ap (λ (b : Bool). cond b [] (front_that_fits (length room - filled) run)) out)
          (sym (ap (λ (b : Bool). cond b (6, []) (cond (ltb (length (part room filled run)) (length run)) (7, []) (0, []))) out));
      unmoved = λ _ _. refl;
    })

-- with a window, an end that is found is also one that is due
pub unfound : {H : Type 0} (b : Bool) (look : Look) (v w : View H) → 0 < w.window → Keeps (b && none_left w.ahead) look v w → Keeps false look v w
unfound b look v w o k =
    record {
      manner = k.manner;
      ending = k.ending;
      window = k.window;
      stays = k.stays;
      still = k.still;
      meets = λ h. absurd (never h);
      narrow = k.narrow;
      steady = k.steady;
      late = λ p. k.late p ∙ same v.met (b && none_left w.ahead) (ltb (length w.ahead) w.window) (λ h. lt-ltb _ _ (omega (arith, ap length (none_is w.ahead (second b h)))));
    }
  where
    second : (b : Bool) {c : Bool} → b && c ≡ true → c ≡ true
    second true h = h
    second false h = absurd (never h)

    same : (m f l : Bool) → (f ≡ true → l ≡ true) → m || (f || l) ≡ m || (false || l)
    same true f l h = refl
    same false true l h = sym (h refl)
    same false false l h = refl
