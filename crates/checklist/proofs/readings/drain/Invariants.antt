use Rattle.std.proofs.Common.{◌≡◌, ◌++◌, length, vec_items}
use Rattle.checklist.proofs.readings.drain.Given as goal

abbrev pub invariant-loop-c : goal.invariant-loop-c
invariant-loop-c g l =
    (vec_items l.chars ++ (g.I.Input.view l.input).ahead ≡ (g.I.Input.view l.initial.input).ahead)
    × ((g.I.Input.view l.input).ending ≡ (g.I.Input.view l.initial.input).ending)

abbrev pub decreases-loop-c : goal.decreases-loop-c
decreases-loop-c g l = length (g.I.Input.view l.input).ahead
