-- The words of each call, probe and predicate, a row for each.
use Rattle.std.specs.Prelude.{ℕ, List, [], ◌∷◌, codes}
use Rattle.calls.specs.declared.call.ClassTest.{ClassTest}
use Rattle.calls.specs.declared.call.MarkerTest.{MarkerTest}
use Rattle.calls.specs.declared.call.Test.{Test}
use Rattle.calls.specs.declared.call.SkipCall.{SkipCall}
use Rattle.calls.specs.declared.call.FetchCall.{FetchCall}
use Rattle.calls.specs.declared.call.ScanCall.{ScanCall}
use Rattle.calls.specs.declared.call.Call.{Call}
use Rattle.calls.specs.declared.call.NoClass.{NoClass}
use Rattle.protocol.specs.declared.names.Predicate.{Predicate}
use Rattle.protocol.specs.declared.names.Probe.{Probe}
use Rattle.protocol.specs.Forms.{Form, Is, Count, Code, Truth, Tabs}

abbrev pub class_name : ClassTest → List ℕ
class_name ClassTest.BlankOrBreak = codes "next_is_blank_or_break"
class_name ClassTest.BlankOrBreakz = codes "next_is_blank_or_breakz"
class_name ClassTest.Blank = codes "next_is_blank"
class_name ClassTest.Break = codes "next_is_break"
class_name ClassTest.Breakz = codes "next_is_breakz"
class_name ClassTest.Flow = codes "next_is_flow"
class_name ClassTest.Digit = codes "next_is_digit"
class_name ClassTest.Alpha = codes "next_is_alpha"

abbrev pub marker_name : MarkerTest → List ℕ
marker_name MarkerTest.Indicator = codes "next_is_document_indicator"
marker_name MarkerTest.Start = codes "next_is_document_start"
marker_name MarkerTest.End = codes "next_is_document_end"

abbrev pub test_forms : Test → List Form
test_forms Test.Z = Is (codes "next_is_z") ∷ []
test_forms (Test.Class class) = Is (class_name class) ∷ []
test_forms (Test.Marker marker) = Is (marker_name marker) ∷ []
test_forms (Test.CharIs c) = Is (codes "next_char_is") ∷ Code c ∷ []
test_forms (Test.NthIs n c) = Is (codes "nth_char_is") ∷ Count n ∷ Code c ∷ []
test_forms (Test.TwoAre c d) = Is (codes "next_2_are") ∷ Code c ∷ Code d ∷ []
test_forms (Test.ThreeAre c d e) = Is (codes "next_3_are") ∷ Code c ∷ Code d ∷ Code e ∷ []
test_forms (Test.PlainScalar in_flow) = Is (codes "next_can_be_plain_scalar") ∷ Truth in_flow ∷ []

-- no line names a class of the list's own
abbrev pub skip_forms : SkipCall NoClass → List Form
skip_forms (SkipCall.While class) = []
skip_forms SkipCall.WhileBlank = Is (codes "skip_while_blank") ∷ []
skip_forms SkipCall.WhileNonBreakz = Is (codes "skip_while_non_breakz") ∷ []
skip_forms (SkipCall.PlainRun in_flow) = Is (codes "skip_plain_run") ∷ Truth in_flow ∷ []

abbrev pub fetch_forms : FetchCall NoClass → List Form
fetch_forms (FetchCall.While class) = []
fetch_forms FetchCall.WhileIsAlpha = Is (codes "fetch_while_is_alpha") ∷ []
fetch_forms FetchCall.WhileIsYamlNonSpace = Is (codes "fetch_while_is_yaml_non_space") ∷ []
fetch_forms FetchCall.BlockScalarLine = Is (codes "fetch_block_scalar_line") ∷ []
fetch_forms (FetchCall.PlainRun in_flow) = Is (codes "fetch_plain_run") ∷ Truth in_flow ∷ []

abbrev pub scan_forms : ScanCall NoClass → List Form
scan_forms (ScanCall.SkipRun skip) = skip_forms skip
scan_forms (ScanCall.FetchRun fetch) = fetch_forms fetch
scan_forms (ScanCall.SkipWsToEol tabs) = Is (codes "skip_ws_to_eol") ∷ Tabs tabs ∷ []
scan_forms (ScanCall.SkipWsToEolBlanks tabs) = Is (codes "skip_ws_to_eol_blanks") ∷ Tabs tabs ∷ []
scan_forms (ScanCall.SkipPlainScalarChunk count in_flow) =
    Is (codes "skip_plain_scalar_chunk") ∷ Count count ∷ Truth in_flow ∷ []
scan_forms (ScanCall.FetchPlainScalarChunk count in_flow) =
    Is (codes "fetch_plain_scalar_chunk") ∷ Count count ∷ Truth in_flow ∷ []

-- no line adds a lookahead
abbrev pub call_forms : Call NoClass → List Form
call_forms (Call.Lookahead n) = Is (codes "lookahead") ∷ Count n ∷ []
call_forms (Call.Added n) = []
call_forms Call.LookCh = Is (codes "look_ch") ∷ []
call_forms Call.NextCh = Is (codes "next_ch") ∷ []
call_forms Call.Read = Is (codes "raw_read_ch") ∷ []
call_forms Call.ReadNonBreakz = Is (codes "raw_read_non_breakz_ch") ∷ []
call_forms Call.Skip = Is (codes "skip") ∷ []
call_forms (Call.SkipN n) = Is (codes "skip_n") ∷ Count n ∷ []
call_forms Call.Peek = Is (codes "peek") ∷ []
call_forms (Call.PeekNth n) = Is (codes "peek_nth") ∷ Count n ∷ []
call_forms (Call.Test test) = test_forms test
call_forms (Call.Scan scan) = scan_forms scan
call_forms Call.TakeSourceError = Is (codes "take_source_error") ∷ []
call_forms Call.Open = Is (codes "open") ∷ []
call_forms Call.Close = Is (codes "close") ∷ []

abbrev pub probe_forms : Probe → List Form
probe_forms Probe.Buflen = Is (codes "buflen") ∷ []
probe_forms Probe.Bufmaxlen = Is (codes "bufmaxlen") ∷ []
probe_forms Probe.BufIsEmpty = Is (codes "buf_is_empty") ∷ []
probe_forms (Probe.SliceBorrowed from to) = Is (codes "slice_borrowed") ∷ Count from ∷ Count to ∷ []
probe_forms Probe.Steps = Is (codes "steps") ∷ []

abbrev pub predicate_name : Predicate → List ℕ
predicate_name Predicate.Z = codes "is_z"
predicate_name Predicate.Break = codes "is_break"
predicate_name Predicate.Breakz = codes "is_breakz"
predicate_name Predicate.Blank = codes "is_blank"
predicate_name Predicate.BlankOrBreakz = codes "is_blank_or_breakz"
predicate_name Predicate.Digit = codes "is_digit"
predicate_name Predicate.Alpha = codes "is_alpha"
predicate_name Predicate.Hex = codes "is_hex"
predicate_name Predicate.Flow = codes "is_flow"
predicate_name Predicate.Bom = codes "is_bom"
predicate_name Predicate.NonBreak = codes "is_yaml_non_break"
predicate_name Predicate.Printable = codes "is_printable"
predicate_name Predicate.NonSpace = codes "is_yaml_non_space"
predicate_name Predicate.Anchor = codes "is_anchor_char"
predicate_name Predicate.Word = codes "is_word_char"
predicate_name Predicate.Uri = codes "is_uri_char"
predicate_name Predicate.Tag = codes "is_tag_char"
