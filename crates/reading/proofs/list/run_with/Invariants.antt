use Rattle.std.proofs.Common.{◌≡◌, is_some, drop}
use Rattle.reading.specs.Reading.{SameCalls, open_after}
use Rattle.reading.proofs.Runs.{Upto}
use Rattle.reading.proofs.list.run_with.Given as goal

abbrev pub invariant-loop-step : goal.invariant-loop-step
invariant-loop-step g l =
    record {
      upto : Upto g.C.Class.member l.step-index l.initial.steps l.steps (g.I.Input.view l.initial.input) (g.I.Input.view l.input);
      calls : SameCalls l.initial.steps l.steps;
      ticket : open_after (drop l.step-index l.steps) (is_some l.held) ≡ open_after l.initial.steps (is_some l.initial.held);
    }
