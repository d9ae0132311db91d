use Rattle.std.proofs.Common.{length}
use Rattle.runs.proofs.Skipping.{Skipping}
use Rattle.runs.proofs.blanks.skip_blanks.Given as goal

abbrev pub invariant-loop-c : goal.invariant-loop-c
invariant-loop-c g l =
    Skipping l.skip_tabs l.count l.found_tabs l.has_valid_yaml_ws (g.I.Input.view l.initial.input) (g.I.Input.view l.input)

abbrev pub decreases-loop-c : goal.decreases-loop-c
decreases-loop-c g l = length (g.I.Input.view l.input).ahead
