use Rattle.std.proofs.Common.{◌∙◌, arith}
use Rattle.text_bytes.proofs.Running.{running_more, running_stops, running_out, running_from, running_on, run_ends}
use Rattle.text_bytes.proofs.cursor.Cursor.run_end.Goals as goal
use Rattle.text_bytes.proofs.cursor.Cursor.run_end.Goals.{in-Some+then-not-goes_on, in_default}

pub loop-c-init : goal.loop-c-init
loop-c-init g c =
    let a = c.past_known-count.ensures in
    (a.text, a.order, running_from _ _ _ _ a)

pub loop-c-preserved : goal.loop-c-preserved
loop-c-preserved g c =
    let i = c.loop-c.invariant in
    let s = c.in-Some.ensures in
    let a = c.past_known-more.ensures in (
      a.text ∙ s.text ∙ i.0,
      omega (arith, s.onward, a.order, i.1),
      running_on _ _ _ _ _ _ (running_more _ _ _ _ i.2 _ _ _ s.first c.goes_on.ensures c.if-not-goes_on.false) a,
    )

pub returns : goal.returns
returns g c =
    let i = c.loop-c.invariant in
    run_ends _ _ _ _ i.0 i.2
    (elim c.match-first.branch [
      | in-Some+then-not-goes_on w ↦ running_stops _ _ _ _ i.2 _ _ _ w.in-Some.ensures.first w.goes_on.ensures w.if-not-goes_on.true
      | in_default w ↦ running_out _ _ _ _ i.2 w.in_default.ensures
    ])
