use Rattle.std.proofs.Common.{arith}
use Rattle.char_traits.specs.Chars.{not_breakz}
use Rattle.runs.specs.declared.Colon.TheVariants.{Free}
use Rattle.runs.specs.Runs.{goes}
use Rattle.runs.proofs.Asking.{allows_all, looks_none, fetches_after}
use Rattle.runs.proofs.calls.fetch_line.Goals as goal

pub returns-clause-fetches : goal.returns-clause-fetches
returns-clause-fetches g c =
    let sound = g.I.Input.sound c.args.input.now in
    fetches_after 0 _ _ _ _ (omega arith) (looks_none _ sound) (allows_all 0 _) (goes not_breakz Free) sound _ _ _ _ (omega arith)
    c.fetch_run.ensures.skips c.fetch_run.ensures.writes
