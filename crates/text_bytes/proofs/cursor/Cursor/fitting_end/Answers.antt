use Rattle.std.proofs.Common.{arith}
use Rattle.text_bytes.proofs.Fitting.{fitted_more, fitted_stops, fitted_out}
use Rattle.text_bytes.proofs.cursor.Cursor.fitting_end.Goals as goal
use Rattle.text_bytes.proofs.cursor.Cursor.fitting_end.Goals.{in-Some+then-next-limit, in_default}

pub loop-next-preserved : goal.loop-next-preserved
loop-next-preserved c =
    let i = c.loop-next.invariant in
    let s = c.in-Some.ensures in
    (omega (arith, s.onward), omega arith, fitted_more _ _ _ _ i.2 _ _ s (omega arith))

pub returns-clause-ends : goal.returns-clause-ends
returns-clause-ends c =
    let i = c.loop-next.invariant in
    elim c.match-first.branch [
      | in-Some+then-next-limit w ↦ fitted_stops _ _ _ _ i.2 _ _ w.in-Some.ensures i.1 w.if-next-limit.true
      | in_default w ↦ fitted_out _ _ _ _ i.2 w.in_default.ensures
    ]
