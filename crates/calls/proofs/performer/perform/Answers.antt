use Rattle.std.proofs.Common.{sym, ap, ◌∙◌}
use Rattle.std.proofs.lemmas.List.{with_items_is, nil_from_length}
use Rattle.calls.specs.declared.call.Step.{Step}
use Rattle.calls.specs.Entries.{room_bytes}
use Rattle.calls.proofs.Performing.{performed}
use Rattle.calls.proofs.performer.perform.Goals as goal
use Rattle.calls.proofs.performer.perform.Goals.{in-Some, in-None}

pub returns-clause-made : goal.returns-clause-made
returns-clause-made g c =
    let i = g.I.Input in
    let before = c.args.input.now in
    let step = c.args.step.now in
    let after : Step _ = record { call = c.match-step.step.call; room = c.match-step.step.room; filled = c.match-step.step.filled; answer = c.match-step.answer.0 } in
    elim c.match-step.branch [
      | in-Some w ↦
          let left = with_items_is w.in-Some.room w.answer_to.new.room (w.answer_to.auto.room ∙ w.deref_mut.ensures.len) in
          performed _ _ step after _ _ _ _ _ _ (i.faithful before) w.answer_to.ensures.means (w.deref_mut.ensures.value ∙ sym (ap room_bytes w.in-Some.is))
          (sym (ap (λ (s : Step _). room_bytes s.room) w.step-is ∙ left)) (sym (ap (λ x. x.0) w.answer-is)) (sym (ap i.view w.input-is))
      | in-None w ↦
          let empty = nil_from_length w.answer_to-in-None.new.room w.answer_to-in-None.auto.room in
          performed _ _ step after _ _ _ _ _ _ (i.faithful before) w.answer_to-in-None.ensures.means (sym (ap room_bytes w.in-None.is))
          (empty ∙ sym (ap (λ (s : Step _). room_bytes s.room) w.step-is ∙ ap room_bytes w.in-None.is)) (sym (ap (λ x. x.0) w.answer-is)) (sym (ap i.view w.input-is))
    ]
