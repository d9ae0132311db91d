use Rattle.std.proofs.Common.{◌≡◌, ◌+◌, ◌≤◌, length}
use Rattle.checklist.specs.Lines.{line_ends}
use Rattle.checklist.proofs.scans.count_line_ends.Given as goal

abbrev pub invariant-loop-c : goal.invariant-loop-c
invariant-loop-c g l =
    (line_ends (g.I.Input.view l.initial.input).ahead ≡ l.count + line_ends (g.I.Input.view l.input).ahead)
    × (l.count + length (g.I.Input.view l.input).ahead ≤ length (g.I.Input.view l.initial.input).ahead)

abbrev pub decreases-loop-c : goal.decreases-loop-c
decreases-loop-c g l = length (g.I.Input.view l.input).ahead
