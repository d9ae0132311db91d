use Rattle.std.proofs.Common.{sym, arith}
use Rattle.runs.proofs.Laying.{appended, full}
use Rattle.runs.proofs.Fetching.{fetch_more, fetch_ended, fetch_full, answered}
use Rattle.runs.proofs.steps.fetch_run.Goals as goal

pub returns-in_default : goal.returns-in_default
returns-in_default g c =
    let part =
    answered _ _ _ _ _ _ _ _ _ c.new.ensures
    (fetch_ended _ _ _ _ _ _ _ _ _ _ _ c.loop-count.invariant c.next_of_run.ensures c.requires.1 (sym c.in_default.is) (omega arith))
    in
    record { skips = part.0; writes = part.1 }

pub returns-in-Err : goal.returns-in-Err
returns-in-Err g c =
    let part =
    answered _ _ _ _ _ _ _ _ _ c.new-in-Err.ensures
    (fetch_full _ _ _ _ _ _ _ _ _ _ _ c.loop-count.invariant c.next_of_run.ensures c.requires.1 c.in-Some.c (sym c.in-Some.is) (omega arith) c.in-Err.refusal _
    (full _ _ _ _ _ c.loop-count.invariant.inside c.in-Err.ensures))
    in
    record { skips = part.0; writes = part.1 }

pub loop-count-preserved : goal.loop-count-preserved
loop-count-preserved g c =
    fetch_more _ _ _ _ _ _ _ _ _ _ _ c.loop-count.invariant c.next_of_run.ensures c.in-Some.c (sym c.in-Some.is) (omega arith) c.in-Ok.next _
    (appended _ _ _ _ _ c.loop-count.invariant.inside c.in-Ok.ensures) _ c.skip.ensures
