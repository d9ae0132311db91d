use Rattle.std.proofs.Common.{◌≡◌, ◌<◌, ◌≤◌, is_some, length, get_or, map, refl, sym, ap, subst, arith}
use Rattle.std.proofs.Math.ListN.{get_or-map}
use Rattle.std.proofs.lemmas.List.{length-map, map-set, nil_from_length}
use Rattle.calls.specs.declared.call.Step.{Step}
use Rattle.calls.specs.declared.call.RoomlessStep.{RoomlessStep}
use Rattle.calls.specs.Entries.{as_step, entry_of, opens, Performs}
use Rattle.calls.proofs.Performing.{performed}
use Rattle.reading.specs.Reading.{log_of, open_after}
use Rattle.reading.proofs.Runs.{more, all, calls_more, open_more, open_all}
use Rattle.reading.proofs.Traces.{account}
use Rattle.reading.proofs.list.run_roomless.Goals as goal

pub loop-step-preserved : goal.loop-step-preserved
loop-step-preserved g c =
    let s = c.loop-step in
    let called = c.answer_to-answer in
    let view = g.I.Input.view in
    let member = g.C.Class.member in
    let first = map as_step c.args.steps.now in
    let steps = map as_step s.steps in
    let old : RoomlessStep _ = get_or s.steps s.step-index c.step-item.result in
    let new : RoomlessStep _ = record old { answer = called.result.0 } in
    let after = as_step new in
    let item = as_step c.step-item.result in
    let same : as_step old ≡ get_or steps s.step-index item = sym (get_or-map as_step s.steps s.step-index c.step-item.result) in
    let empty = nil_from_length called.new.room called.auto.room in
    let made = performed member _ (as_step old) after _ _ _ _ _ _ (g.I.Input.faithful s.input) called.ensures.means refl empty refl refl in
    let performs = subst (λ (x : Step _). Performs {H = g.I.Input.Held} member (entry_of x after) (view s.input) (view called.new.input)) same made in
    let long : length steps ≡ length first = simp length-map s.auto.steps in
    let more_steps : s.step-index < length first = simp length-map c.loop-step-test.true in
    rw map-set
    record {
      upto =
          more member s.step-index first steps after item (view c.args.input.now) (view s.input) (view called.new.input) long more_steps s.invariant.upto
          performs (g.I.Input.sound called.new.input);
      calls = calls_more first steps s.step-index after item s.invariant.calls (ap (λ (x : Step _). x.call) same) (ap (λ (x : Step _). x.filled) same);
      ticket =
          open_more s.step-index steps after item (is_some s.held) (is_some called.result.1) (open_after first (is_some c.args.held)) (omega arith)
          (subst (λ (x : Step _). is_some called.result.1 ≡ opens x.call (is_some s.held)) same called.ensures.ticket) s.invariant.ticket;
    }

pub returns : goal.returns
returns g c =
    let s = c.loop-step in
    let view = g.I.Input.view in
    let first = map as_step c.args.steps.now in
    let steps = map as_step s.steps in
    let long : length steps ≡ length first = simp length-map s.auto.steps in
    let done : length first ≤ s.step-index = simp length-map c.loop-step-test.false in
    let ran = all g.C.Class.member s.step-index first steps (view c.args.input.now) (view s.input) long done s.invariant.upto in
    record {
      calls = s.invariant.calls;
      ticket = open_all s.step-index steps (is_some s.held) (open_after first (is_some c.args.held)) (omega arith) s.invariant.ticket;
      account = account g.C.Class.member (view c.args.input.now) (log_of first steps) (view s.input) (g.I.Input.sound c.args.input.now) ran;
    }
