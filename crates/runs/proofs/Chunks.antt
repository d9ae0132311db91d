-- Fronts of plain runs.
use Rattle.std.proofs.Common.{◌≡◌, ℕ, ◌<◌, ◌≤◌, min, Bool, true, false, cond, not, ◌&&◌, ◌||◌, eqb, ltb, List, [], ◌∷◌, length, get_or, take, drop, Some, None, sym, refl, ap, ◌∙◌, subst, inl, inr, arith, append-nil, take-append-drop, lt-ltb, le-ltb}
use Rattle.error.specs.declared.Refusal.TheVariants.{BeyondRoom}
use mathlib.Core.List.{IsPrefix}
use Rattle.std.proofs.lemmas.Bool.{cases_lt}
use Rattle.char_traits.specs.Chars.{plain_safe}
use Rattle.input.specs.View.{View, IsSound, Look, exactly}
use Rattle.input.specs.Calls.{Looks}
use Rattle.runs.specs.declared.Fetched.{Fetched}
use Rattle.runs.specs.declared.Colon.{Colon}
use Rattle.runs.specs.declared.Colon.TheVariants.{Stops, Leads}
use Rattle.runs.specs.Runs.{goes, run_by, plain_run, chunk_run, colon_at}
use Rattle.runs.specs.Rooms.{part}
use Rattle.runs.specs.Scans.{chunk_look, SkipsRun, Writes, Fetches, TakesChunk, StepsBy, SkipsSome, FetchesSome, SkipsChunk, FetchesChunk, StepsChunk, StepsFetch}
use Rattle.runs.proofs.Fronts.{prefix_trans, prefix_taken}
use Rattle.runs.proofs.Asking.{allows_chunk, skips_after, fetches_within, skips_none, writes_none, unfound, fetch_beyond}

-- a run that stops at each : is a front of the one that looks behind it
stopped_front : (class : ℕ → Bool) (a : List ℕ) → IsPrefix (run_by (goes class Stops) a) (run_by (goes class Leads) a)
stopped_front class [] = ([], refl)
stopped_front class (c ∷ a) = step (stopped_front class a) (class c) (eqb c 0x3A) (class (get_or a 0 0))
  where
    stops : List ℕ
    stops = run_by (goes class Stops) a

    leads : List ℕ
    leads = run_by (goes class Leads) a

    step : IsPrefix stops leads → (is colon after : Bool) → IsPrefix (cond (is && not colon) (c ∷ stops) []) (cond (is && (not colon || after)) (c ∷ leads) [])
    step rest true true after = (cond after (c ∷ leads) [], refl)
    step rest true false after = (rest.0, ap (λ xs. c ∷ xs) rest.1)
    step rest false colon after = ([], refl)

chunk_front : (window : ℕ) (in_flow : Bool) (a : List ℕ) → IsPrefix (chunk_run (colon_at window) in_flow a) (plain_run in_flow a)
chunk_front window in_flow a =
    elim (ltb window 2) as (λ b. IsPrefix (chunk_run (cond b Stops Leads) in_flow a) (plain_run in_flow a))
    [ true ↦ stopped_front (plain_safe in_flow) a | false ↦ ([], append-nil (plain_run in_flow a)) ]

-- so many characters of a chunk that goes by the window are a front of the plain run
pub takes_chunk : (in_flow : Bool) (count window : ℕ) (colon : Colon) (Takes : List ℕ → Type 0) (ahead : List ℕ) → colon ≡ colon_at window
    → Takes (take count (chunk_run colon in_flow ahead)) → TakesChunk in_flow Takes ahead
takes_chunk in_flow count window colon Takes ahead is takes =
    let chunk = chunk_run (colon_at window) in_flow ahead in
    let plain = plain_run in_flow ahead in
    let front = prefix_trans (take count chunk) chunk plain (drop count chunk, take-append-drop count chunk) (chunk_front window in_flow ahead) in
    record {
      wants = length (take count chunk);
      takes = subst Takes (ap (λ (x : Colon). take count (chunk_run x in_flow ahead)) is ∙ sym (prefix_taken (take count chunk) plain front)) takes;
    }

-- where the first and the last window show a : alike, one between them did so too
pub sight : (first window last : ℕ) (colon : Colon) → first ≤ window → window ≤ last → colon ≡ colon_at window → colon_at first ≡ colon_at last → colon ≡ colon_at first
sight first window last colon f l is alike =
    is ∙ elim (cases_lt window 2) [
      | inl low ↦ ap (λ (b : Bool). cond b Stops Leads) (lt-ltb window 2 low ∙ sym (lt-ltb first 2 (omega arith)))
      | inr high ↦ ap (λ (b : Bool). cond b Stops Leads) (le-ltb window 2 high ∙ sym (le-ltb last 2 (omega arith))) ∙ sym alike
    ]

module _ {H : Type 0} (in_flow : Bool) (count : ℕ) (v e w : View H) (s : IsSound v) (some : 0 < count) (l : Looks 1 v e) where
  -- A chunk after its lookahead finds no end that is not due. `fits`: how much of it is taken.
  pub skips_chunk : (fits : List ℕ → List ℕ) (colon : Colon) (n : ℕ) → SkipsRun (ltb n count) (exactly 0) (fits (take count (chunk_run colon in_flow e.ahead))) n e w
      → SkipsRun false (chunk_look v.manner count) (fits (take count (chunk_run colon in_flow v.ahead))) n v w
  skips_chunk fits colon n k =
      skips_after 1 (chunk_look v.manner count) v e w (omega arith) l (allows_chunk v s count some) false (λ a. fits (take count (chunk_run colon in_flow a))) n
      (record {
        keeps = unfound (ltb n count) (exactly 0) e w (omega (arith, l.wide, k.keeps.window)) k.keeps;
        told = k.told;
        wide = k.wide;
        number = k.number;
        ahead = k.ahead;
      })

  pub fetches_chunk : (colon : Colon) (room : List ℕ) (filled : ℕ) (r : Fetched) (left : List ℕ) → filled ≤ length room
      → SkipsRun (ltb r.count count) (exactly 0) (part room filled (take count (chunk_run colon in_flow e.ahead))) r.count e w
      → Writes (take count (chunk_run colon in_flow e.ahead)) room filled r left
      → Fetches false (chunk_look v.manner count) (take count (chunk_run colon in_flow v.ahead)) room filled r left v w
  fetches_chunk colon room filled r left h k writes =
      fetches_within false (chunk_look v.manner count) (take count (chunk_run colon in_flow v.ahead)) room filled r left v w h
      (skips_chunk (part room filled) colon r.count k)
      (subst (λ (a : List ℕ). Writes (take count (chunk_run colon in_flow a)) room filled r left) l.ahead writes)

-- a chunk of none
module _ {H : Type 0} (in_flow : Bool) (count : ℕ) (v : View H) (s : IsSound v) (none : count ≡ 0) where
  unasked : exactly 0 ≡ chunk_look v.manner count
  unasked =
      let least : 0 ≡ min (cond v.manner.steps 1 0) count = omega arith in
      let most : 0 ≡ min 1 count = omega arith in
      λ i. record { least = least i; most = most i }

  nothing : take count (chunk_run (colon_at v.window) in_flow v.ahead) ≡ []
  nothing = ap (λ k. take k (chunk_run (colon_at v.window) in_flow v.ahead)) none

  skips_nothing : SkipsRun false (chunk_look v.manner count) [] 0 v v
  skips_nothing = subst (λ (look : Look). SkipsRun false look [] 0 v v) unasked (skips_none v s)

  module _ (Takes : List ℕ → Type 0) (takes : Takes []) where
    pub chunk_of_none : TakesChunk in_flow Takes v.ahead
    chunk_of_none = record { wants = 0; takes = takes }

    pub steps_of_none : (n : ℕ) → n ≡ 0 → StepsBy in_flow count Takes false n v v
    steps_of_none n zero =
        record { colon = colon_at v.window; sight = λ _. refl; takes = subst Takes (sym nothing) takes; stopped = sym (le-ltb n count (omega arith)) }

  pub skip_of_none : SkipsChunk in_flow count (false, 0) v v
  skip_of_none = chunk_of_none (SkipsSome count 0 v v) skips_nothing

  pub skip_steps_none : StepsChunk in_flow count (false, 0) v v
  skip_steps_none = steps_of_none (SkipsSome count 0 v v) skips_nothing 0 refl

  module _ (room : List ℕ) (filled : ℕ) (r : Fetched) (h : filled ≤ length room) (is : r ≡ record { count = 0; filled = filled; refusal = None }) where
    fits_none : part room filled [] ≡ []
    fits_none = ap (λ (b : Bool). cond b [] []) (le-ltb (length room) filled h)

    fetches_nothing : FetchesSome count room filled r room v v []
    fetches_nothing =
        subst (λ (x : Fetched). FetchesSome count room filled x room v v []) (sym is)
        (fetches_within false (chunk_look v.manner count) [] room filled (record { count = 0; filled = filled; refusal = None }) room v v h
        (subst (λ (run : List ℕ). SkipsRun false (chunk_look v.manner count) run 0 v v) (sym fits_none) skips_nothing)
        (writes_none [] room filled None fits_none
        (sym (λ i. cond (le-ltb (length room) filled h i) (6, []) (cond (ltb (length (fits_none i)) 0) (7, []) (0, []))))))

    pub fetch_of_none : FetchesChunk in_flow count room filled (false, r) room v v
    fetch_of_none = chunk_of_none (FetchesSome count room filled r room v v) fetches_nothing

    pub fetch_steps_none : StepsFetch in_flow count room filled (false, r) room v v
    fetch_steps_none = steps_of_none (FetchesSome count room filled r room v v) fetches_nothing r.count (ap (λ (x : Fetched). x.count) is)

-- a chunk whose filled count lies beyond the room
module _ {H : Type 0} (in_flow : Bool) (count : ℕ) (room : List ℕ) (filled : ℕ) (r : Fetched) (v : View H) (s : IsSound v) (h : length room < filled)
    (is : r ≡ record { count = 0; filled = filled; refusal = Some BeyondRoom }) where
  pub chunk_beyond : (stopped : Bool) → FetchesChunk in_flow count room filled (stopped, r) room v v
  chunk_beyond stopped = record { wants = 0; takes = fetch_beyond false (chunk_look v.manner count) _ room filled r v s h is }

  pub steps_beyond : StepsFetch in_flow count room filled (ltb 0 count, r) room v v
  steps_beyond =
      record {
        colon = colon_at v.window;
        sight = λ _. refl;
        takes = fetch_beyond false (chunk_look v.manner count) _ room filled r v s h is;
        stopped = ap (λ (x : Fetched). ltb x.count count) (sym is);
      }
