use Rattle.std.proofs.Common.{ap, sym, ◌∙◌, map}
use Rattle.text_bytes.specs.Spans.{lane, must_ask}
use Rattle.text_bytes.proofs.Lanes.{chosen, never, either, from, same}
use Rattle.text_bytes.proofs.spans.asked_lanes.Goals as goal
use Rattle.text_bytes.proofs.spans.asked_lanes.Goals.{in-Asked, in-Printable, in-All}

pub returns : goal.returns
returns c =
    let v = c.args.bytes in
    let long = c.requires in
    elim c.match-wide.branch [
      | in-Asked w ↦ w.result-is ∙ chosen v long _ _ (from v long 192) ∙ ap (λ k. map (λ b. lane (must_ask k b)) v) (sym w.in-Asked.is)
      | in-Printable w ↦ w.result-is ∙ chosen v long _ _ (either v _ _ _ _ (same v long 194) (same v long 239)) ∙ ap (λ k. map (λ b. lane (must_ask k b)) v) (sym w.in-Printable.is)
      | in-All w ↦ w.result-is ∙ never v long ∙ ap (λ k. map (λ b. lane (must_ask k b)) v) (sym w.in-All.is)
    ]
