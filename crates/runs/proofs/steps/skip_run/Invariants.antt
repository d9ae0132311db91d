use Rattle.runs.specs.Runs.{goes}
use Rattle.runs.proofs.Running.{Running}
use Rattle.runs.proofs.steps.skip_run.Given as goal

abbrev pub invariant-loop-taken : goal.invariant-loop-taken
invariant-loop-taken g l =
    Running (goes (g.C.Class.member l.class) l.colon) l.most l.taken (g.I.Input.view l.initial.input) (g.I.Input.view l.input)
