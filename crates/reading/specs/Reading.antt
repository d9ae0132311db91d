-- A reading: the calls of a list, each with its answer, as one input goes through them.
use Rattle.std.specs.Prelude.{◌≡◌, ℕ, ◌<◌, ◌≤◌, min, max, Bool, true, false, cond, not, ◌&&◌, ◌||◌, List, [], ◌∷◌, ◌++◌, length, map, is_some, None, Option, nat_lt}
use Rattle.std.specs.List.{concat, filter, fold, list_any}
use Rattle.error.specs.Numbers.{Ending, fault_of}
use Rattle.error.specs.declared.Fault.{Fault}
use Rattle.input.specs.View.{View, IsSound, IsNew}
use Rattle.input.specs.Calls.{closing_at, closing_of}
use Rattle.input.specs.declared.Closing.TheVariants.{Left}
use Rattle.calls.specs.declared.call.Call.{Call}
use Rattle.calls.specs.declared.call.Answer.{Answer}
use Rattle.calls.specs.declared.call.Step.{Step}
use Rattle.calls.specs.Entries.{Entry, entry_of, opens, answer_number, Performs}
use Rattle.calls.specs.Kinds.{kind_of, looks, finds_end, Took}

module _ {C : Type 0} where
  -- what a call is given: its room and filled count matter only if it fetches
  abbrev pub call_given : Entry C → Call C × List ℕ × ℕ
  call_given e =
      let fetches = (kind_of e.call).fetches in
      (e.call, cond fetches e.room [], cond fetches e.filled 0)

  -- its answer, by number and values, and every byte of its room then
  abbrev pub answer_got : Entry C → (ℕ × List ℕ) × List ℕ
  answer_got e = (answer_number e.answer, cond (kind_of e.call).fetches e.left [])

  -- the calls that two inputs are compared by, and what came of them
  abbrev pub compared_entries : List (Entry C) → List (Entry C)
  compared_entries = filter (λ e. (kind_of e.call).compared)

  abbrev pub calls : List (Entry C) → List (Call C × List ℕ × ℕ)
  calls es = map call_given (compared_entries es)

  abbrev pub answers : List (Entry C) → List ((ℕ × List ℕ) × List ℕ)
  answers es = map answer_got (compared_entries es)

  -- no chunk, and no peek or test reaches further than the lookaheads before it asked for
  abbrev pub IsReadingList : ℕ → List (Entry C) → Type 0
  IsReadingList reach [] = Unit {0}
  IsReadingList reach (e ∷ es) =
      let kind = kind_of e.call in
      (kind.plain ≡ true) × (kind.reaches ≤ reach) × IsReadingList (max reach kind.lengthens) es

  -- Two inputs with the same characters ahead give one list the same answers and leave the same
  -- bytes in its rooms, whatever lookaheads are added.
  abbrev pub SameAnswers : {H K : Type 0} → List (Entry C) → List (Entry C) → View H → View K
      → Type 0
  SameAnswers es fs v u =
      calls es ≡ calls fs → IsReadingList 0 es → v.ahead ≡ u.ahead → answers es ≡ answers fs

-- a call of a reading: the input's meaning before it, what it took, and the meaning after it
pub record Event (C H : Type 0) : Type 0 where
  pub entry : Entry C
  pub before : View H
  pub taken : List ℕ
  pub after : View H

-- A closing, by number and values, where `taken` was taken of `all`: left if that is less, else as
-- the ending is, so whole only if all was taken.
pub data ClosesAfter (taken all : List ℕ) (ending : Ending) (a : ℕ × List ℕ) : Type 0 where
  left : length taken < length all → a ≡ answer_number (Answer.Closed Left)
      → ClosesAfter taken all ending a
  done : taken ≡ all → a ≡ answer_number (Answer.Closed (closing_at ending))
      → ClosesAfter taken all ending a

-- the fault of a met ending, unless it was told
abbrev pub untold_fault : {H : Type 0} → View H → Bool → Option Fault
untold_fault v told = cond (v.met && not told) (fault_of v.ending) None

module _ {C H : Type 0} where
  -- a property of each event and of those before it
  abbrev pub AllAlong :
      (List (Event C H) → Event C H → Type 0) → List (Event C H) → List (Event C H) → Type 0
  AllAlong P earlier [] = Unit {0}
  AllAlong P earlier (m ∷ ms) = P earlier m × AllAlong P (earlier ++ (m ∷ [])) ms

  abbrev pub Each : (Event C H → Type 0) → List (Event C H) → Type 0
  Each P = AllAlong (λ _. P) []

  abbrev pub all_taken : List (Event C H) → List ℕ
  all_taken ms = concat (map (λ m. m.taken) ms)

  -- nothing is lost or doubled
  pub record KeepsAll (v w : View H) (ms : List (Event C H)) : Type 0 where
    pub whole : all_taken ms ++ w.ahead ≡ v.ahead
    pub moves : Each (λ m. m.before.ahead ≡ m.taken ++ m.after.ahead) ms
    pub took : Each (λ m. Took m.entry.call m.entry.answer m.entry m.before.ahead m.taken) ms
    pub ending : Each (λ m. m.before.ending ≡ v.ending) ms
    -- whole means all: a closing says whole, or failed, only if every character was taken
    pub closes :
        AllAlong
        (λ earlier m. m.entry.call ≡ Call.Close
        → ClosesAfter (all_taken earlier) v.ahead m.before.ending
        (answer_number m.entry.answer)) [] ms
    -- once the ending is met, no call changes the value of what is held, for a ring its source
    pub still : Each (λ m. m.before.met ≡ true → m.after.held ≡ m.before.held) ms

  -- the count that the call of an event asks for
  abbrev pub looked_for : Event C H → ℕ
  looked_for m = (looks m.before.manner m.entry.call m.entry).least

  -- a call that makes the ending due, where n is the largest count asked for up to it
  abbrev pub due_at : ℕ → Event C H → Bool
  due_at n m =
      nat_lt (length m.after.ahead) (min 16 n)
      || finds_end m.entry.call m.entry m.before.ahead m.after.ahead

  -- the ending is due once one of the calls made it so
  abbrev pub due : ℕ → List (Event C H) → Bool
  due n [] = false
  due n (m ∷ ms) = due_at (max n (looked_for m)) m || due (max n (looked_for m)) ms

  -- one of the calls was an asking once the ending was met
  abbrev pub fault_was_asked : List (Event C H) → Bool
  fault_was_asked = list_any (λ m. (kind_of m.entry.call).takes_fault && m.before.met)

  -- the ending is told
  pub record TellsEnding (v : View H) (ms : List (Event C H)) : Type 0 where
    -- the first asking once a fault is met gives it, and every other asking gives none
    pub fault :
        AllAlong
        (λ earlier m. m.entry.call ≡ Call.TakeSourceError → answer_number m.entry.answer
        ≡ answer_number (Answer.Asked (untold_fault m.before (fault_was_asked earlier)))) [] ms
    pub stays : Each (λ m. m.before.met ≡ true → m.after.met ≡ true) ms
    pub waits : Each (λ m. length m.after.ahead < m.after.window → m.after.met ≡ true) ms
    pub met : AllAlong (λ earlier m. due 0 (earlier ++ (m ∷ [])) ≡ true → m.after.met ≡ true) [] ms
    -- a prompt kind of input meets its ending exactly when it is due
    pub exactly :
        v.manner.prompt ≡ true
        → AllAlong (λ earlier m. m.after.met ≡ due 0 (earlier ++ (m ∷ []))) [] ms
    pub closes :
        Each
        (λ m. m.entry.call ≡ Call.Close → answer_number m.entry.answer
        ≡ answer_number (Answer.Closed (closing_of m.before.ahead m.before.ending))) ms

module _ {C H : Type 0} (member : C → ℕ → Bool) where
  -- the events of a reading, each tied to its call, from the meaning v of the input to w
  abbrev pub Trace : List (Entry C) → View H → View H → List (Event C H) → Type 0
  Trace [] v w [] = w ≡ v
  Trace (e ∷ es) v w (m ∷ ms) =
      (m.entry ≡ e) × (m.before ≡ v)
      × Performs member e v m.after × IsSound m.after × Trace es m.after w ms
  Trace _ v w _ = ⊥

  -- the trace of a reading, with what was taken and, of a new input, how its ending was told
  pub record Account (es : List (Entry C)) (v w : View H) : Type 0 where
    pub events : List (Event C H)
    pub trace : Trace es v w events
    pub kept : KeepsAll v w events
    pub told : IsNew v → TellsEnding v events

module _ {C : Type 0} where
  -- the entries of a list's steps, before its calls were made and after
  abbrev pub log_of : List (Step C) → List (Step C) → List (Entry C)
  log_of (s ∷ ss) (t ∷ ts) = entry_of s t ∷ log_of ss ts
  log_of _ _ = []

  abbrev pub call_and_filled : Step C → Call C × ℕ
  call_and_filled s = (s.call, s.filled)

  -- the calls of a list and their filled counts stay as they are
  abbrev pub SameCalls : List (Step C) → List (Step C) → Type 0
  SameCalls ss ts = map call_and_filled ts ≡ map call_and_filled ss

  -- whether a reading is open after the calls of a list
  abbrev pub open_after : List (Step C) → Bool → Bool
  open_after ss before = fold (λ was_open s. opens s.call was_open) before ss

-- an input with its list, before or after its calls, and whether a reading of it is open
pub record Side (C H : Type 0) : Type 0 where
  pub input : View H
  pub steps : List (Step C)
  pub is_open : Bool

abbrev pub side : {C H R : Type 0} → View H → List (Step C) → Option R → Side C H
side v steps held = record { input = v; steps = steps; is_open = is_some held }

-- a side before its calls, and after: its list has the calls that it had, and each is accounted for
pub record ReadsList {C H : Type 0} (member : C → ℕ → Bool) (s t : Side C H) : Type 0 where
  pub calls : SameCalls s.steps t.steps
  pub ticket : t.is_open ≡ open_after s.steps s.is_open
  pub account : Account member (log_of s.steps t.steps) s.input t.input

-- two sides, and one list gets the same answers of both
pub record SideBySide {C H K : Type 0} (member : C → ℕ → Bool) (s t : Side C H) (x y : Side C K)
    : Type 0 where
  pub one : ReadsList member s t
  pub other : ReadsList member x y
  pub same : SameAnswers (log_of s.steps t.steps) (log_of x.steps y.steps) s.input x.input
