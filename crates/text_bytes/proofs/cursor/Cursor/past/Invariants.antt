use Rattle.std.proofs.Common.{◌≡◌, ◌-◌, ◌≤◌, length, drop}
use Rattle.text_bytes.specs.Cursors.{ahead_from}
use Rattle.text_bytes.proofs.cursor.Cursor.past.Given as goal

abbrev pub invariant-loop-left : goal.invariant-loop-left
invariant-loop-left l =
    (l.at.text.now ≡ l.self.text.now) × (ahead_from l.at ≡ drop (l.count - l.left) (ahead_from l.self)) × (l.left ≤ l.count)

-- what is left of the text
abbrev pub decreases-loop-left : goal.decreases-loop-left
decreases-loop-left l = length l.at.text.now - l.at.place
