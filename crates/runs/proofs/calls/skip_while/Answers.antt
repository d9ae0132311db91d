use Rattle.std.proofs.Common.{true, arith}
use Rattle.runs.specs.declared.Colon.TheVariants.{Free}
use Rattle.runs.specs.Runs.{goes, run_of}
use Rattle.runs.proofs.Asking.{allows_scan, skips_all, skips_after}
use Rattle.runs.proofs.calls.skip_while.Goals as goal

pub returns : goal.returns
returns g c =
    let class = g.C.Class.member c.args.class.now in
    skips_after 1 _ _ _ _ (omega arith) c.lookahead.ensures.looks (allows_scan _ (g.I.Input.sound c.args.input.now)) true (run_of class) _
    (skips_all (goes class Free) _ (g.I.Input.sound c.lookahead.new.self) _ _ c.skip_run.ensures)
