use Rattle.std.proofs.Common.{◌+◌, ◌-◌, ◌≤◌, length}
use Rattle.text_bytes.proofs.Fitting.{Fitted}
use Rattle.text_bytes.proofs.cursor.Cursor.fitting_end.Given as goal

abbrev pub invariant-loop-next : goal.invariant-loop-next
invariant-loop-next l = (l.self.place + l.count ≤ l.end.place) × (l.end.place ≤ l.limit) × Fitted l.self l.limit l.end l.count

abbrev pub decreases-loop-next : goal.decreases-loop-next
decreases-loop-next l = length l.end.text.now - l.end.place
