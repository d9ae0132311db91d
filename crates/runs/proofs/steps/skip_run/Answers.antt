use Rattle.std.proofs.Common.{arith}
use Rattle.runs.proofs.Running.{some_of, run_more}
use Rattle.runs.proofs.steps.skip_run.Goals as goal

pub loop-taken-preserved : goal.loop-taken-preserved
loop-taken-preserved g c =
    let s = some_of c.next_of_run.result c.if-is_none.ensures in
    run_more _ _ _ _ _ _ _ c.loop-taken.invariant c.next_of_run.ensures s.0 s.1 (omega arith) _ c.skip.ensures
