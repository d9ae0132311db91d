use Rattle.std.proofs.Common.{arith}
use Rattle.runs.proofs.Asking.{ahead_short}
use Rattle.checklist.proofs.scans.count_line_ends.Goals as goal

pub overflow_add-count : goal.overflow_add-count
overflow_add-count g c =
    let short = ahead_short (g.I.Input.view c.args.input.now) (g.I.Input.sound c.args.input.now) in
    omega (arith, c.loop-c.invariant.1)
