-- What is printed of each answer and reply.
use Rattle.std.specs.Prelude.{ℕ, ◌/◌, ◌%◌, Bool, false, cond, List, [], ◌∷◌, ◌++◌, Some, None, Ok, Err, codes, decimal, Option, Result, ◌==◌, nat_lt}
use Rattle.std.specs.Char.{digit_char}
use Rattle.error.specs.Numbers.{number}
use Rattle.error.specs.declared.Fault.{Fault}
use Rattle.error.specs.declared.FaultKind.{FaultKind}
use Rattle.error.specs.declared.FaultKind.TheVariants.{InputIo, InputDecoding}
use Rattle.error.specs.declared.Refusal.{Refusal}
use Rattle.error.specs.declared.Refusal.TheVariants.{BeyondRoom}
use Rattle.input.specs.declared.Closing.{Closing}
use Rattle.input.specs.declared.Closing.TheVariants.{Left, Failed, Whole}
use Rattle.runs.specs.declared.Fetched.{Fetched}
use Rattle.runs.specs.declared.WhitespaceResult.{WhitespaceResult}
use Rattle.calls.specs.declared.call.Answer.{Answer}
use Rattle.protocol.specs.declared.answer.Reply.{Reply}
use Rattle.protocol.specs.Digits.{bytes_text}
use Rattle.protocol.specs.Values.{truth_name}

abbrev pub kind_text : FaultKind → List ℕ
kind_text InputIo = codes "InputIo"
kind_text InputDecoding = codes "InputDecoding"

-- a fault by its kind and its place
abbrev pub fault_text : Fault → List ℕ
fault_text fault = kind_text fault.kind ++ (codes " " ++ decimal fault.place)

-- each value after a space
abbrev pub values_text : List ℕ → List ℕ
values_text [] = []
values_text (n ∷ ns) = codes " " ++ (decimal n ++ values_text ns)

-- a refusal by its number and its values
abbrev pub refusal_text : Refusal → List ℕ
refusal_text refusal =
    codes "refused " ++ (decimal (number refusal).0 ++ values_text (number refusal).1)

abbrev pub closing_text : Closing → List ℕ
closing_text Left = codes "left"
closing_text Whole = codes "whole"
closing_text (Failed fault) = codes "failed " ++ fault_text fault

-- the digit that is worth p, in base sixteen
abbrev pub digit_at : ℕ → ℕ → ℕ
digit_at p c = digit_char (c / p % 16)

-- a character's code in hexadecimal digits, of which it has at most six
abbrev pub code_text : ℕ → List ℕ
code_text c =
    cond (nat_lt c 0x10) (digit_char (c % 16) ∷ [])
    (cond (nat_lt c 0x100) (digit_at 0x10 c ∷ digit_char (c % 16) ∷ [])
    (cond (nat_lt c 0x1000) (digit_at 0x100 c ∷ digit_at 0x10 c ∷ digit_char (c % 16) ∷ [])
    (cond (nat_lt c 0x10000)
    (digit_at 0x1000 c ∷ digit_at 0x100 c ∷ digit_at 0x10 c ∷ digit_char (c % 16) ∷ [])
    (cond (nat_lt c 0x100000)
    (digit_at 0x10000 c ∷ digit_at 0x1000 c ∷ digit_at 0x100 c ∷ digit_at 0x10 c
    ∷ digit_char (c % 16) ∷ [])
    (digit_char (c / 0x100000) ∷ digit_at 0x10000 c ∷ digit_at 0x1000 c ∷ digit_at 0x100 c
    ∷ digit_at 0x10 c ∷ digit_char (c % 16) ∷ [])))))

abbrev pub next_text : Option ℕ → List ℕ
next_text None = codes "none"
next_text (Some c) = code_text c

abbrev pub asked_text : Option Fault → List ℕ
asked_text None = codes "none"
asked_text (Some fault) = fault_text fault

-- a test's truth, or its refusal
abbrev pub test_text : Result Bool Refusal → List ℕ
test_text (Ok truth) = truth_name truth
test_text (Err refusal) = refusal_text refusal

-- whether a tab and a space were among the blanks
abbrev pub flags_text : WhitespaceResult → List ℕ
flags_text r = truth_name r.found_tabs ++ (codes " " ++ truth_name r.has_valid_yaml_ws)

-- the flags, or that a comment had no blank before it
abbrev pub eol_text : Result WhitespaceResult Refusal → List ℕ
eol_text (Ok flags) = codes " ok " ++ flags_text flags
eol_text (Err refusal) = codes " err CommentNotSeparated"

-- of a chunk, whether it stopped; the count
abbrev pub taken_text : Option Bool → ℕ → List ℕ
taken_text None count = decimal count ++ codes " "
taken_text (Some stopped) count = truth_name stopped ++ (codes " " ++ (decimal count ++ codes " "))

-- why a fetch stopped early, if it did
abbrev pub end_text : Option Refusal → List ℕ
end_text None = []
end_text (Some refusal) = codes " " ++ refusal_text refusal

abbrev pub is_beyond : Option Refusal → Bool
is_beyond None = false
is_beyond (Some refusal) = (number refusal).0 == 6

-- a fetch with the bytes that it appended; beyond the room nothing was taken, and only the refusal
-- is told
abbrev pub fetched_text : Option Bool → Fetched → List ℕ → List ℕ
fetched_text stopped r bytes =
    cond (is_beyond r.refusal) (refusal_text BeyondRoom)
    (taken_text stopped r.count ++ (bytes_text bytes ++ end_text r.refusal))

-- an answer; of a fetch, with the bytes that it appended
abbrev pub answer_text : Answer → List ℕ → List ℕ
answer_text Answer.Nothing bytes = codes "ok"
answer_text (Answer.Character c) bytes = code_text c
answer_text (Answer.Next next) bytes = next_text next
answer_text (Answer.Tested test) bytes = test_text test
answer_text (Answer.Asked asked) bytes = asked_text asked
answer_text (Answer.Closed closing) bytes = closing_text closing
answer_text (Answer.Count n) bytes = decimal n
answer_text (Answer.Fetch r) bytes = fetched_text None r bytes
answer_text (Answer.Blanks n flags) bytes = decimal n ++ (codes " " ++ flags_text flags)
answer_text (Answer.ToEol n r) bytes = decimal n ++ eol_text r
answer_text (Answer.SkippedChunk stopped n) bytes = truth_name stopped ++ (codes " " ++ decimal n)
answer_text (Answer.FetchedChunk stopped r) bytes = fetched_text (Some stopped) r bytes

abbrev pub steps_text : Option ℕ → List ℕ
steps_text None = codes "none"
steps_text (Some n) = decimal n

abbrev pub reply_text : Reply → List ℕ
reply_text Reply.Bad = codes "bad"
reply_text Reply.NoInput = codes "noinput"
reply_text Reply.Done = codes "ok"
reply_text (Reply.Refused refusal) = refusal_text refusal
reply_text (Reply.Steps steps) = steps_text steps

-- a part of a text, or that there is none
abbrev pub part_text : Option (List ℕ) → List ℕ
part_text None = codes "none"
part_text (Some part) = codes "some " ++ bytes_text part

-- a line ends in a line feed
abbrev pub line_of : List ℕ → List ℕ
line_of text = text ++ (10 ∷ [])
