use Rattle.std.proofs.Common.{arith}
use Rattle.runs.specs.declared.Colon.TheVariants.{Free}
use Rattle.runs.specs.Runs.{goes}
use Rattle.runs.proofs.Asking.{allows_scan, fetches_after}
use Rattle.runs.proofs.calls.fetch_while.Goals as goal

pub returns-clause-fetches : goal.returns-clause-fetches
returns-clause-fetches g c =
    fetches_after 1 _ _ _ _ (omega arith) c.lookahead.ensures.looks (allows_scan _ (g.I.Input.sound c.args.input.now)) (goes (g.C.Class.member c.args.class.now) Free)
    (g.I.Input.sound c.lookahead.new.self) _ _ _ _ (omega arith) c.fetch_run.ensures.skips c.fetch_run.ensures.writes
