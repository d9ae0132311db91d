use Rattle.runs.specs.Runs.{goes}
use Rattle.runs.proofs.Fetching.{Fetching}
use Rattle.runs.proofs.steps.fetch_run.Given as goal

abbrev pub invariant-loop-count : goal.invariant-loop-count
invariant-loop-count g l =
    Fetching (goes (g.C.Class.member l.class) l.colon) l.most l.initial.room l.room l.filled l.end l.count (g.I.Input.view l.initial.input)
    (g.I.Input.view l.input)
