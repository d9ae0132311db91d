-- The lines of a text.
use Rattle.std.specs.Prelude.{◌≡◌, ℕ, zero, suc, cond, List, [], ◌∷◌, length, drop, Ok, Err, Result, ◌==◌}
use Rattle.reader.specs.declared.Fetched.{Fetched}
use Rattle.reader.specs.declared.Refusal.{Refusal}
use Rattle.reader.specs.Chars.{not_breakz}
use Rattle.reader.specs.Numbers.{number}
use Rattle.reader.specs.Runs.{run_of}
use Rattle.reader.specs.Rooms.{part, refusal_number}
use Rattle.reader.specs.Scans.{Writes}
use Rattle.firmware.specs.declared.Line.{Line}

abbrev pub past_feed : List ℕ → List ℕ
past_feed [] = []
past_feed (c ∷ cs) = cond (c == 0x0A) cs (c ∷ cs)

-- what follows a break: a carriage return, a line feed, or both in this order
abbrev pub past_break : List ℕ → List ℕ
past_break [] = []
past_break (c ∷ cs) = cond (c == 0x0D) (past_feed cs) (past_feed (c ∷ cs))

abbrev pub past_line : List ℕ → List ℕ
past_line cs = past_break (drop (length (run_of not_breakz cs)) cs)

abbrev pub past_lines : ℕ → List ℕ → List ℕ
past_lines zero cs = cs
past_lines (suc n) cs = past_line (past_lines n cs)

-- a line, counted from 0, without its break
abbrev pub nth_line : ℕ → List ℕ → List ℕ
nth_line n cs = run_of not_breakz (past_lines n cs)

-- what fits of a line is written to an empty room, and counted
pub record FetchesLine (run room : List ℕ) (r : Fetched) (left : List ℕ) : Type 0 where
  pub writes : Writes run room 0 r left
  pub count : r.count ≡ length (part room 0 run)

-- what C is told of a fetch, or of its refusal
abbrev pub line_for : Result Fetched Refusal → Line
line_for (Ok r) =
    record { bytes = r.filled; chars = r.count; refusal = (refusal_number r.refusal).0 }
line_for (Err refusal) = record { bytes = 0; chars = 0; refusal = (number refusal).0 }
