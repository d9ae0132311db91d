-- What each scanning call means: the input before it, v, its answer, and the input after it, w.
use Rattle.std.specs.Prelude.{◌≡◌, ℕ, ◌+◌, ◌≤◌, min, Bool, true, false, cond, not, ◌&&◌, List, [], ◌++◌, length, take, drop, Option, Result, nat_lt}
use Rattle.std.proofs.Math.Utf8.{encodes}
use Rattle.error.specs.declared.Refusal.{Refusal}
use Rattle.error.specs.Numbers.{outcome}
use Rattle.utf8.specs.Room.{overlay}
use Rattle.input.specs.View.{Manner, View, Look, exactly, Keeps}
use Rattle.input.specs.Calls.{none_left, first_of}
use Rattle.input.specs.Tests.{flag}
use Rattle.runs.specs.declared.Fetched.{Fetched}
use Rattle.runs.specs.declared.SkipTabs.{SkipTabs}
use Rattle.runs.specs.declared.WhitespaceResult.{WhitespaceResult}
use Rattle.runs.specs.declared.Colon.{Colon}
use Rattle.runs.specs.declared.Colon.TheVariants.{Free, Stops, Leads}
use Rattle.runs.specs.Runs.{run_by, plain_run, chunk_run, colon_at, has, blanks_of, eol_run, unseparated}
use Rattle.runs.specs.Rooms.{beyond, part, refusal_number, fetch_refusal}

-- a : is judged by the character after it only within the window
abbrev pub Sees : Colon → ℕ → Type 0
Sees Free window = Unit {0}
Sees Stops window = Unit {0}
Sees Leads window = 2 ≤ window

-- the first character of a run, which stays ahead
pub record PeeksRun {H : Type 0} (go : ℕ → ℕ → Bool) (r : Option ℕ) (v w : View H) : Type 0 where
  pub keeps : Keeps (none_left v.ahead) (exactly 0) v w
  pub told : w.told ≡ v.told
  pub ahead : w.ahead ≡ v.ahead
  pub first : r ≡ first_of (run_by go v.ahead)

-- A run is taken and counted. `looks`: it looks for a next character after it.
-- `look`: the lookahead that it asks for.
pub record SkipsRun {H : Type 0} (looks : Bool) (look : Look) (run : List ℕ) (n : ℕ) (v w : View H)
    : Type 0 where
  pub keeps : Keeps (looks && none_left w.ahead) look v w
  pub told : w.told ≡ v.told
  pub wide : min 16 look.least ≤ w.window
  pub number : n ≡ length run
  pub ahead : w.ahead ≡ drop n v.ahead

-- what fits of a run is appended to a room
pub record Writes (run room : List ℕ) (filled : ℕ) (r : Fetched) (left : List ℕ) : Type 0 where
  pub fills : r.filled ≡ filled + length (encodes (part room filled run))
  pub refusal : refusal_number r.refusal ≡ fetch_refusal room filled run
  pub bytes : left ≡ overlay room filled (encodes (part room filled run))

-- beyond the room a fetch asks for nothing
abbrev pub room_look : List ℕ → ℕ → Look → Look
room_look room filled look = cond (beyond room filled) (exactly 0) look

-- A fetch skips as much of a run as fits, and writes it. Beyond the room nothing is taken, and
-- where scans go character by character nothing happens at all; another kind may have raised its
-- window or met its ending by then.
pub record Fetches {H : Type 0} (looks : Bool) (look : Look) (run room : List ℕ) (filled : ℕ)
    (r : Fetched) (left : List ℕ) (v w : View H) : Type 0 where
  pub skips : SkipsRun (looks && not (beyond room filled)) (room_look room filled look)
      (part room filled run) r.count v w
  pub writes : Writes run room filled r left
  pub unmoved : beyond room filled ≡ true → v.manner.steps ≡ true → w ≡ v

-- a scan that goes character by character asks for lookahead 1; another may leave its window
abbrev pub scan_look : Manner → Look
scan_look manner = record { least = cond manner.steps 1 0; most = 1 }

-- a chunk of none asks for nothing
abbrev pub chunk_look : Manner → ℕ → Look
chunk_look manner count = record { least = min (cond manner.steps 1 0) count; most = min 1 count }

-- Some front of a plain run is taken: how much of it is each kind's own.
-- `Takes`: what it means to take a run.
pub record TakesChunk (in_flow : Bool) (Takes : List ℕ → Type 0) (ahead : List ℕ) : Type 0 where
  pub wants : ℕ
  pub takes : Takes (take wants (plain_run in_flow ahead))

-- Character by character: at most count, each : by what the window shows, if that did not change,
-- and a flag that tells a stop before the count, which n did not reach.
pub record StepsBy {H : Type 0} (in_flow : Bool) (count : ℕ) (Takes : List ℕ → Type 0)
    (stops : Bool) (n : ℕ) (v w : View H) : Type 0 where
  pub colon : Colon
  pub sight : colon_at v.window ≡ colon_at w.window → colon ≡ colon_at v.window
  pub takes : Takes (take count (chunk_run colon in_flow v.ahead))
  pub stopped : stops ≡ nat_lt n count

-- what a chunk takes, it skips or fetches, and it looks for no end
abbrev pub SkipsSome : {H : Type 0} → ℕ → ℕ → View H → View H → List ℕ → Type 0
SkipsSome count n v w run = SkipsRun false (chunk_look v.manner count) run n v w

abbrev pub FetchesSome : {H : Type 0} → ℕ → List ℕ → ℕ → Fetched → List ℕ → View H → View H
    → List ℕ → Type 0
FetchesSome count room filled r left v w run =
    Fetches false (chunk_look v.manner count) run room filled r left v w

abbrev pub SkipsChunk : {H : Type 0} → Bool → ℕ → Bool × ℕ → View H → View H → Type 0
SkipsChunk in_flow count r v w = TakesChunk in_flow (SkipsSome count r.1 v w) v.ahead

abbrev pub StepsChunk : {H : Type 0} → Bool → ℕ → Bool × ℕ → View H → View H → Type 0
StepsChunk in_flow count r v w = StepsBy in_flow count (SkipsSome count r.1 v w) r.0 r.1 v w

abbrev pub FetchesChunk : {H : Type 0} → Bool → ℕ → List ℕ → ℕ → Bool × Fetched → List ℕ
    → View H → View H → Type 0
FetchesChunk in_flow count room filled r left v w =
    TakesChunk in_flow (FetchesSome count room filled r.1 left v w) v.ahead

abbrev pub StepsFetch : {H : Type 0} → Bool → ℕ → List ℕ → ℕ → Bool × Fetched → List ℕ
    → View H → View H → Type 0
StepsFetch in_flow count room filled r left v w =
    StepsBy in_flow count (FetchesSome count room filled r.1 left v w) r.0 r.1.count v w

-- the values of the flags: a tab was taken, a space was taken
abbrev pub flags : WhitespaceResult → List ℕ
flags r = flag r.found_tabs ++ flag r.has_valid_yaml_ws

-- the flags of the blanks that were taken
abbrev pub flags_of : List ℕ → List ℕ
flags_of blanks = flag (has 0x09 blanks) ++ flag (has 0x20 blanks)

pub record SkipsBlanks {H : Type 0} (tabs : SkipTabs) (r : ℕ × WhitespaceResult) (v w : View H)
    : Type 0 where
  pub skips : SkipsRun true (scan_look v.manner) (blanks_of tabs v.ahead) r.0 v w
  pub seen : flags r.1 ≡ flags_of (blanks_of tabs v.ahead)

-- blanks, and a comment after them; refused 5 before a comment with no blank
pub record SkipsToEol {H : Type 0} (tabs : SkipTabs) (r : ℕ × Result WhitespaceResult Refusal)
    (v w : View H) : Type 0 where
  pub skips : SkipsRun true (scan_look v.manner) (eol_run tabs v.ahead) r.0 v w
  pub answer : outcome flags r.1
      ≡ cond (unseparated tabs v.ahead) (5, []) (0, flags_of (blanks_of tabs v.ahead))
