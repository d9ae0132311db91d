use Rattle.std.proofs.Common.{is_some, arith}
use Rattle.reading.specs.Reading.{log_of, open_after}
use Rattle.reading.proofs.Runs.{more, all, calls_more, open_more, open_all}
use Rattle.reading.proofs.Traces.{account}
use Rattle.reading.proofs.list.run_with.Goals as goal

pub loop-step-preserved : goal.loop-step-preserved
loop-step-preserved g c =
    let s = c.loop-step in
    let called = c.perform-held.ensures in
    let after = c.perform-held.new.step in
    record {
      upto =
          more g.C.Class.member s.step-index c.args.steps.now s.steps after c.step-item.result _ _ _ s.auto.steps c.loop-step-test.true s.invariant.upto called.made
          (g.I.Input.sound c.perform-held.new.input);
      calls = calls_more c.args.steps.now s.steps s.step-index after c.step-item.result s.invariant.calls called.call called.filled;
      ticket =
          open_more s.step-index s.steps after c.step-item.result (is_some s.held) (is_some c.perform-held.result)
          (open_after c.args.steps.now (is_some c.args.held)) (omega arith) called.ticket s.invariant.ticket;
    }

pub returns : goal.returns
returns g c =
    let s = c.loop-step in
    let view = g.I.Input.view in
    let ran = all g.C.Class.member s.step-index c.args.steps.now s.steps (view c.args.input.now) (view s.input) s.auto.steps (omega arith) s.invariant.upto in
    record {
      calls = s.invariant.calls;
      ticket = open_all s.step-index s.steps (is_some s.held) (open_after c.args.steps.now (is_some c.args.held)) (omega arith) s.invariant.ticket;
      account = account g.C.Class.member (view c.args.input.now) (log_of c.args.steps.now s.steps) (view s.input) (g.I.Input.sound c.args.input.now) ran;
    }
