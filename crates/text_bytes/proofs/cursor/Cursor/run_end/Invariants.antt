use Rattle.std.proofs.Common.{◌≡◌, ◌+◌, ◌-◌, ◌≤◌, length}
use Rattle.runs.specs.Runs.{goes}
use Rattle.text_bytes.specs.Cursors.{ahead_from}
use Rattle.text_bytes.proofs.Running.{Running}
use Rattle.text_bytes.proofs.cursor.Cursor.run_end.Given as goal

abbrev pub invariant-loop-c : goal.invariant-loop-c
invariant-loop-c g l =
    (l.end.text.now ≡ l.self.text.now)
    × (l.self.place + l.count ≤ l.end.place)
    × Running (goes (g.C.Class.member l.class) l.colon) (ahead_from l.self) (ahead_from l.end) l.count

abbrev pub decreases-loop-c : goal.decreases-loop-c
decreases-loop-c g l = length l.end.text.now - l.end.place
