-- The row of each call: what it looks for and takes, and how two inputs are compared by it.
use Rattle.std.specs.Prelude.{◌≡◌, ℕ, ◌+◌, ◌-◌, min, Bool, true, false, cond, not, ◌&&◌, List, [], ◌∷◌, length, take, drop, nat_lt}
use Rattle.std.specs.Option.{option_to_list}
use Rattle.std.specs.Str.{chars}
use Rattle.input.specs.View.{Manner, Look, exactly}
use Rattle.input.specs.Calls.{none_left}
use Rattle.input.specs.Tests.{without_nul}
use Rattle.runs.specs.declared.Fetched.{Fetched}
use Rattle.runs.specs.Rooms.{beyond}
use Rattle.runs.specs.Scans.{scan_look, chunk_look}
use Rattle.calls.specs.declared.call.Test.{Test}
use Rattle.calls.specs.declared.call.ScanCall.{ScanCall}
use Rattle.calls.specs.declared.call.Call.{Call}
use Rattle.calls.specs.declared.call.Answer.{Answer}
use Rattle.calls.specs.Entries.{Entry, skip_look, fetch_look}

pub record CallKind : Type 0 where
  pub compared : Bool  -- it is no added lookahead, no asking, no opening and no closing
  pub takes_fault : Bool  -- it asks for the fault
  pub plain : Bool  -- it is no chunk, and asks for no NUL among several characters
  pub fetches : Bool  -- it brings a room
  pub look : Manner → Look  -- the lookahead that it asks for
  pub reaches : ℕ  -- how far it reaches, if it is a peek or a test
  pub lengthens : ℕ  -- to what it lengthens the reach of the calls after it

-- a call that is compared, and neither peeks nor looks ahead
abbrev pub moving : CallKind
moving =
    record {
      compared = true;
      takes_fault = false;
      plain = true;
      fetches = false;
      look = λ _. exactly 0;
      reaches = 0;
      lengthens = 0;
    }

abbrev pub test_kind : Test → CallKind
test_kind (Test.NthIs n code) = record moving { reaches = n + 1 }
test_kind (Test.TwoAre a b) = record moving { reaches = 2; plain = without_nul (a ∷ b ∷ []) }
test_kind (Test.ThreeAre a b c) =
    record moving { reaches = 3; plain = without_nul (a ∷ b ∷ c ∷ []) }
test_kind (Test.Marker which) = record moving { reaches = 4 }
test_kind (Test.PlainScalar in_flow) = record moving { reaches = 2 }
test_kind _ = record moving { reaches = 1 }

-- a counted skip took as many as it tells
abbrev pub Counts : ℕ → List ℕ → List ℕ → Type 0
Counts n ahead taken = (taken ≡ take n ahead) × (n ≡ length taken)

module _ {C : Type 0} where
  abbrev pub scan_kind : ScanCall C → CallKind
  scan_kind (ScanCall.SkipRun k) = record moving { look = skip_look k }
  scan_kind (ScanCall.FetchRun k) = record moving { fetches = true; look = fetch_look k }
  scan_kind (ScanCall.SkipPlainScalarChunk count in_flow) =
      record moving { plain = false; look = λ manner. chunk_look manner count }
  scan_kind (ScanCall.FetchPlainScalarChunk count in_flow) =
      record moving { plain = false; fetches = true; look = λ manner. chunk_look manner count }
  scan_kind _ = record moving { look = scan_look }

  abbrev pub kind_of : Call C → CallKind
  kind_of (Call.Lookahead n) = record moving { look = λ _. exactly n; lengthens = min 16 n }
  kind_of (Call.Added n) = record moving { compared = false; look = λ _. exactly n }
  kind_of Call.LookCh = record moving { look = λ _. exactly 1; lengthens = 1 }
  kind_of Call.Peek = record moving { reaches = 1 }
  kind_of (Call.PeekNth n) = record moving { reaches = n + 1 }
  kind_of (Call.Test t) =
      let kind = test_kind t in record moving { plain = kind.plain; reaches = kind.reaches }
  kind_of (Call.Scan k) =
      let kind = scan_kind k in
      record moving { plain = kind.plain; fetches = kind.fetches; look = kind.look }
  kind_of Call.TakeSourceError = record moving { compared = false; takes_fault = true }
  kind_of Call.Open = record moving { compared = false }
  kind_of Call.Close = record moving { compared = false; look = λ _. exactly 1 }
  kind_of _ = moving

  -- a filled count beyond the room, which is refused 6: it asks for nothing, and looks for no end
  abbrev pub overfull : Call C → Entry C → Bool
  overfull k e = (kind_of k).fetches && beyond e.room e.filled

  abbrev pub looks : Manner → Call C → Entry C → Look
  looks manner k e = cond (overfull k e) (exactly 0) ((kind_of k).look manner)

  -- A read, a skip, a scan that is no chunk, or the next-character call found the end.
  abbrev pub finds_end : Call C → Entry C → List ℕ → List ℕ → Bool
  finds_end Call.NextCh e ahead after = none_left ahead
  finds_end Call.Read e ahead after = none_left ahead
  finds_end Call.ReadNonBreakz e ahead after = none_left ahead
  finds_end Call.Skip e ahead after = nat_lt (length ahead) 1
  finds_end (Call.SkipN n) e ahead after = nat_lt (length ahead) n
  finds_end (Call.Scan k) e ahead after =
      ((scan_kind k).plain && not (overfull (Call.Scan k) e)) && none_left after
  finds_end _ e ahead after = false

  -- a fetch took what it appended, and tells how many
  abbrev pub TookAppended : Fetched → Entry C → List ℕ → Type 0
  TookAppended r e taken =
      (taken ≡ chars (take (r.filled - e.filled) (drop e.filled e.left))) × (r.count ≡ length taken)

  -- A read took the character that it answers, if one was ahead; a skip of n took n, or all if that
  -- is fewer. Every other call but a scan took nothing.
  abbrev pub Took : Call C → Answer → Entry C → List ℕ → List ℕ → Type 0
  Took Call.Read (Answer.Character c) e ahead taken = taken ≡ cond (none_left ahead) [] (c ∷ [])
  Took Call.ReadNonBreakz (Answer.Next r) e ahead taken = taken ≡ option_to_list r
  Took Call.Skip a e ahead taken = taken ≡ take 1 ahead
  Took (Call.SkipN n) a e ahead taken = taken ≡ take n ahead
  Took (Call.Scan k) (Answer.Count n) e ahead taken = Counts n ahead taken
  Took (Call.Scan k) (Answer.ToEol n r) e ahead taken = Counts n ahead taken
  Took (Call.Scan k) (Answer.Blanks n r) e ahead taken = Counts n ahead taken
  Took (Call.Scan k) (Answer.SkippedChunk stopped n) e ahead taken = Counts n ahead taken
  Took (Call.Scan k) (Answer.Fetch r) e ahead taken = TookAppended r e taken
  Took (Call.Scan k) (Answer.FetchedChunk stopped r) e ahead taken = TookAppended r e taken
  Took _ a e ahead taken = taken ≡ []
