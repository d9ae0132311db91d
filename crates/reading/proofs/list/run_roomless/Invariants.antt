use Rattle.std.proofs.Common.{◌≡◌, is_some, drop, map}
use Rattle.calls.specs.Entries.{as_step}
use Rattle.reading.specs.Reading.{SameCalls, open_after}
use Rattle.reading.proofs.Runs.{Upto}
use Rattle.reading.proofs.list.run_roomless.Given as goal

abbrev pub invariant-loop-step : goal.invariant-loop-step
invariant-loop-step g l =
    let first = map as_step l.initial.steps in
    let steps = map as_step l.steps in
    record {
      upto : Upto g.C.Class.member l.step-index first steps (g.I.Input.view l.initial.input) (g.I.Input.view l.input);
      calls : SameCalls first steps;
      ticket : open_after (drop l.step-index steps) (is_some l.held) ≡ open_after first (is_some l.initial.held);
    }
