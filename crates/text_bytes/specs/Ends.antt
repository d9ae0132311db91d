-- Where runs of characters in a text end, and what of them a fetch takes.
use Rattle.std.specs.Prelude.{◌≡◌, ℕ, ◌-◌, ◌≤◌, true, List, length, take, drop}
use Rattle.std.proofs.Math.Utf8.{encodes}
use Rattle.runs.specs.declared.Fetched.{Fetched}
use Rattle.runs.specs.Rooms.{beyond, part}
use Rattle.runs.specs.Scans.{Writes}
use Rattle.text_bytes.specs.declared.cursor.Cursor.{Cursor}
use Rattle.text_bytes.specs.Cursors.{ahead_from}

-- a run that begins at a place: its end, and how many characters it has
pub record Ends (x : Cursor) (run : List ℕ) (y : Cursor) (count : ℕ) : Type 0 where
  pub text : y.text.now ≡ x.text.now
  pub number : count ≡ length run
  pub order : x.place ≤ y.place
  pub ahead : ahead_from y ≡ drop (length run) (ahead_from x)
  pub bytes : encodes run ≡ take (y.place - x.place) (drop x.place x.text.now)

-- as much of a run as fits is counted and appended to a room
pub record AppendsRun (run room : List ℕ) (filled : ℕ) (r : Fetched) (left : List ℕ) : Type 0 where
  pub number : r.count ≡ length (part room filled run)
  pub writes : Writes run room filled r left

-- a run that begins at a place is appended so, and what was appended ends at the next place
pub record FetchesAt (x : Cursor) (run room : List ℕ) (filled : ℕ) (y : Cursor) (r : Fetched)
    (left : List ℕ) : Type 0 where
  pub appends : AppendsRun run room filled r left
  pub text : y.text.now ≡ x.text.now
  pub ahead : ahead_from y ≡ drop (length (part room filled run)) (ahead_from x)
  pub unmoved : beyond room filled ≡ true → y ≡ x
