use Rattle.std.proofs.Common.{Bool, ap, sym, ◌∙◌, map, ◌&&◌}
use Rattle.char_traits.specs.Chars.{flow}
use Rattle.text_bytes.specs.Spans.{lane}
use Rattle.text_bytes.proofs.Lanes.{chosen, never, either, same}
use Rattle.text_bytes.proofs.spans.flow_lanes.Goals as goal

pub returns-then-not-but_flow : goal.returns-then-not-but_flow
returns-then-not-but_flow c =
    let v = c.args.bytes in
    never v c.requires ∙ sym (ap (λ (t : Bool). map (λ b. lane (t && flow b)) v) c.if-not-but_flow.true)

pub returns : goal.returns
returns c =
    let v = c.args.bytes in
    let long = c.requires in
    chosen v long _ _
    (either v _ _ _ _ (same v long 44)
    (either v _ _ _ _ (same v long 91) (either v _ _ _ _ (same v long 93) (either v _ _ _ _ (same v long 123) (same v long 125)))))
    ∙ sym (ap (λ (t : Bool). map (λ b. lane (t && flow b)) v) c.if-not-but_flow.false)
