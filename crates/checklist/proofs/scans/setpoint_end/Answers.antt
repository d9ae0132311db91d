use Rattle.std.proofs.Common.{rules, tests}
use Rattle.checklist.specs.Lines.{after}
use Rattle.checklist.proofs.Setpoints.{first_found}
use Rattle.checklist.proofs.scans.setpoint_end.Goals as goal

pub returns-in-Some : goal.returns-in-Some
returns-in-Some c =
    let found = first_found _ _ c.args.bytes.now c.windows.result c.windows.ensures.rest c.windows.ensures.size c.windows.ensures.runs (λ x b q k. search (rules, tests)) c.in-Some.place c.in-Some.ensures.runs in
    after c.in-Some.place found.0 found.1 c.digits_end.ensures.ends
