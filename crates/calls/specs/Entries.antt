-- What each call means: what it says of the input before it, v, and after it, w.
use Rattle.std.specs.Prelude.{◌≡◌, ℕ, Bool, true, false, ◌||◌, List, [], ◌∷◌, ◌++◌, Some, None, vec_items, Vec, Option, Result, slice_index}
use Rattle.std.specs.Bool.{OnTrue}
use Rattle.std.specs.Option.{option_to_list}
use Rattle.std.specs.declared.alloc.Global.{Global}
use Rattle.error.specs.Numbers.{fault_number, outcome}
use Rattle.error.specs.declared.Fault.{Fault}
use Rattle.error.specs.declared.Refusal.{Refusal}
use Rattle.char_traits.specs.Chars.{line_break, breakz, blank, blank_or_breakz, flow, digit, alpha, yaml_non_space, not_breakz, printable_not_breakz}
use Rattle.input.specs.declared.Closing.{Closing}
use Rattle.input.specs.declared.Marker.{Marker}
use Rattle.input.specs.View.{Manner, View, Look, exactly}
use Rattle.input.specs.Calls.{closing_number, Looks, Reads, ReadsInLine, Skips, PeeksNext, TakesFault, Closes}
use Rattle.input.specs.Tests.{flag, Shown, IsFaithful, compare_number, compare_all_number, is_marker, any_marker, start_marker, end_marker, plain_goes_on}
use Rattle.runs.specs.declared.Fetched.{Fetched}
use Rattle.runs.specs.declared.WhitespaceResult.{WhitespaceResult}
use Rattle.runs.specs.Runs.{run_of, plain_run}
use Rattle.runs.specs.Rooms.{fetch_number}
use Rattle.runs.specs.Scans.{scan_look, flags, SkipsRun, Fetches, SkipsBlanks, SkipsToEol, SkipsChunk, FetchesChunk, StepsChunk, StepsFetch}
use Rattle.calls.specs.declared.call.ClassTest.{ClassTest}
use Rattle.calls.specs.declared.call.MarkerTest.{MarkerTest}
use Rattle.calls.specs.declared.call.Test.{Test}
use Rattle.calls.specs.declared.call.SkipCall.{SkipCall}
use Rattle.calls.specs.declared.call.FetchCall.{FetchCall}
use Rattle.calls.specs.declared.call.ScanCall.{ScanCall}
use Rattle.calls.specs.declared.call.Call.{Call}
use Rattle.calls.specs.declared.call.Call.TheVariants.{Lookahead, Added, LookCh, NextCh, Read, ReadNonBreakz, Skip, SkipN, Peek, PeekNth, Test as TestCall, Scan, TakeSourceError, Open, Close}
use Rattle.calls.specs.declared.call.Answer.{Answer}
use Rattle.calls.specs.declared.call.Answer.TheVariants.{Nothing, Character, Next, Tested, Asked, Closed, Count, Fetch, Blanks, ToEol, SkippedChunk, FetchedChunk}
use Rattle.calls.specs.declared.call.Step.{Step}
use Rattle.calls.specs.declared.call.RoomlessStep.{RoomlessStep}

-- the number of each answer, with its values
abbrev pub answer_number : Answer → ℕ × List ℕ
answer_number Nothing = (0, [])
answer_number (Character c) = (1, c ∷ [])
answer_number (Next r) = (2, option_to_list r)
answer_number (Tested r) = (3, (outcome flag r).0 ∷ (outcome flag r).1)
answer_number (Asked None) = (4, [])
answer_number (Asked (Some fault)) = (4, (fault_number fault).0 ∷ (fault_number fault).1)
answer_number (Closed r) = (5, (closing_number r).0 ∷ (closing_number r).1)
answer_number (Count n) = (6, n ∷ [])
answer_number (Fetch r) = (7, (fetch_number r).0 ∷ (fetch_number r).1)
answer_number (Blanks n r) = (8, n ∷ flags r)
answer_number (ToEol n r) = (9, n ∷ (outcome flags r).0 ∷ (outcome flags r).1)
answer_number (SkippedChunk stopped n) = (10, n ∷ flag stopped)
answer_number (FetchedChunk stopped r) =
    (11, (fetch_number r).0 ∷ ((fetch_number r).1 ++ flag stopped))

abbrev pub class_of : ClassTest → ℕ → Bool
class_of ClassTest.BlankOrBreak c = blank c || line_break c
class_of ClassTest.BlankOrBreakz c = blank_or_breakz c
class_of ClassTest.Blank c = blank c
class_of ClassTest.Break c = line_break c
class_of ClassTest.Breakz c = breakz c
class_of ClassTest.Flow c = flow c
class_of ClassTest.Digit c = digit c
class_of ClassTest.Alpha c = alpha c

abbrev pub marker_of : MarkerTest → Option Marker → Bool
marker_of MarkerTest.Indicator = any_marker
marker_of MarkerTest.Start = start_marker
marker_of MarkerTest.End = end_marker

-- what a test tells of what is shown, by the number and the values of its answer
abbrev pub test_number : Test → Shown → ℕ × List ℕ
test_number Test.Z s = (0, flag s.at_end)
test_number (Test.Class class) s = (0, flag (class_of class (s.at 0)))
test_number (Test.CharIs code) s = compare_number code (s.at 0)
test_number (Test.NthIs n code) s = compare_number code (s.at n)
test_number (Test.TwoAre a b) s = compare_all_number (a ∷ b ∷ []) s
test_number (Test.ThreeAre a b c) s = compare_all_number (a ∷ b ∷ c ∷ []) s
test_number (Test.Marker which) s = is_marker (marker_of which) s
test_number (Test.PlainScalar in_flow) s = (0, flag (plain_goes_on in_flow s.at))

-- a call as it went: its room and filled count, its answer, and what it left in its room
pub record Entry (C : Type 0) : Type 0 where
  pub call : Call C
  pub room : List ℕ
  pub filled : ℕ
  pub answer : Answer
  pub left : List ℕ

-- a call that fetches nothing leaves the room as it was
pub record GivesAnswer {C : Type 0} (a : Answer) (e : Entry C) : Type 0 where
  pub answer : e.answer ≡ a
  pub left : e.left ≡ e.room

-- how many bytes of the room are filled after a call, by its answer
abbrev pub filled_after : ℕ → Answer → ℕ
filled_after filled (Fetch r) = r.filled
filled_after filled (FetchedChunk stopped r) = r.filled
filled_after filled _ = filled

-- the bytes of a room; none is an empty one
abbrev pub room_bytes : Option (Vec ℕ Global) → List ℕ
room_bytes None = []
room_bytes (Some room) = vec_items room

-- of a list's calls; `member` is what is in each class of its own
module _ {C : Type 0} (member : C → ℕ → Bool) where
  -- the run that a skip or a fetch takes of what is ahead
  abbrev pub run_skipped : SkipCall C → List ℕ → List ℕ
  run_skipped (SkipCall.While class) ahead = run_of (member class) ahead
  run_skipped SkipCall.WhileBlank ahead = run_of blank ahead
  run_skipped SkipCall.WhileNonBreakz ahead = run_of printable_not_breakz ahead
  run_skipped (SkipCall.PlainRun in_flow) ahead = plain_run in_flow ahead

  abbrev pub run_fetched : FetchCall C → List ℕ → List ℕ
  run_fetched (FetchCall.While class) ahead = run_of (member class) ahead
  run_fetched FetchCall.WhileIsAlpha ahead = run_of alpha ahead
  run_fetched FetchCall.WhileIsYamlNonSpace ahead = run_of yaml_non_space ahead
  run_fetched FetchCall.BlockScalarLine ahead = run_of not_breakz ahead
  run_fetched (FetchCall.PlainRun in_flow) ahead = plain_run in_flow ahead

module _ {C : Type 0} where
  -- the lookahead that it asks for
  abbrev pub skip_look : SkipCall C → Manner → Look
  skip_look (SkipCall.PlainRun in_flow) manner = exactly 2
  skip_look _ manner = scan_look manner

  abbrev pub fetch_look : FetchCall C → Manner → Look
  fetch_look FetchCall.BlockScalarLine manner = exactly 0
  fetch_look (FetchCall.PlainRun in_flow) manner = exactly 2
  fetch_look _ manner = scan_look manner

  -- whether a reading is open after a call
  abbrev pub opens : Call C → Bool → Bool
  opens Open before = true
  opens Close before = false
  opens _ before = before

  -- a step before its call was made, and after
  abbrev pub entry_of : Step C → Step C → Entry C
  entry_of s t =
      let before = room_bytes s.room in
      let after = room_bytes t.room in
      record { call = s.call; room = before; filled = s.filled; answer = t.answer; left = after }

  -- the step that it stands for
  abbrev pub as_step : RoomlessStep C → Step C
  as_step s = record { call = s.call; room = None; filled = 0; answer = s.answer }

module _ {C H : Type 0} (member : C → ℕ → Bool) where
  -- a chunk is some front of a plain run, and pinned where scans go character by character
  abbrev pub Scans : ScanCall C → Entry C → View H → View H → Type 0
  Scans (ScanCall.SkipRun k) e v w =
      (n : ℕ) × GivesAnswer (Count n) e
      × SkipsRun true (skip_look k v.manner) (run_skipped member k v.ahead) n v w
  Scans (ScanCall.FetchRun k) e v w =
      (r : Fetched) × (e.answer ≡ Fetch r) × Fetches true (fetch_look k v.manner)
      (run_fetched member k v.ahead) e.room e.filled r e.left v w
  Scans (ScanCall.SkipWsToEol tabs) e v w =
      (r : ℕ × Result WhitespaceResult Refusal) × GivesAnswer (ToEol r.0 r.1) e × SkipsToEol tabs r v w
  Scans (ScanCall.SkipWsToEolBlanks tabs) e v w =
      (r : ℕ × WhitespaceResult) × GivesAnswer (Blanks r.0 r.1) e × SkipsBlanks tabs r v w
  Scans (ScanCall.SkipPlainScalarChunk count in_flow) e v w =
      (r : Bool × ℕ) × GivesAnswer (SkippedChunk r.0 r.1) e × SkipsChunk in_flow count r v w
      × OnTrue v.manner.steps (StepsChunk in_flow count r v w)
  Scans (ScanCall.FetchPlainScalarChunk count in_flow) e v w =
      (r : Bool × Fetched) × (e.answer ≡ FetchedChunk r.0 r.1)
      × FetchesChunk in_flow count e.room e.filled r e.left v w
      × OnTrue v.manner.steps (StepsFetch in_flow count e.room e.filled r e.left v w)

  -- of an input that shows this
  abbrev pub Means : Shown → Call C → Entry C → View H → View H → Type 0
  Means s (Lookahead n) e v w = GivesAnswer Nothing e × Looks n v w
  Means s (Added n) e v w = GivesAnswer Nothing e × Looks n v w
  Means s LookCh e v w =
      (c : ℕ) × GivesAnswer (Character c) e × Looks 1 v w × (c ≡ slice_index v.ahead 0)
  Means s NextCh e v w = (r : Option ℕ) × GivesAnswer (Next r) e × PeeksNext r v w
  Means s Read e v w = (c : ℕ) × GivesAnswer (Character c) e × Reads c v w
  Means s ReadNonBreakz e v w = (r : Option ℕ) × GivesAnswer (Next r) e × ReadsInLine r v w
  Means s Skip e v w = GivesAnswer Nothing e × Skips 1 v w
  Means s (SkipN n) e v w = GivesAnswer Nothing e × Skips n v w
  Means s Peek e v w = GivesAnswer (Character (s.at 0)) e × (w ≡ v)
  Means s (PeekNth n) e v w = GivesAnswer (Character (s.at n)) e × (w ≡ v)
  Means s (TestCall t) e v w =
      (r : Result Bool Refusal) × GivesAnswer (Tested r) e
      × (outcome flag r ≡ test_number t s) × (w ≡ v)
  Means s (Scan k) e v w = Scans k e v w
  Means s TakeSourceError e v w = (r : Option Fault) × GivesAnswer (Asked r) e × TakesFault r v w
  Means s Open e v w = GivesAnswer Nothing e × (w ≡ v)
  Means s Close e v w = (r : Closing) × GivesAnswer (Closed r) e × Closes r v w

  -- the call of an entry was made of an input with the meaning v, and left it with the meaning w
  abbrev pub Performs : Entry C → View H → View H → Type 0
  Performs e v w = (s : Shown) × IsFaithful s v × Means s e.call e v w
