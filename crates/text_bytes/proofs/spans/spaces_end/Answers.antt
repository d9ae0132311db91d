use Rattle.text_bytes.specs.Spans.{no_space}
use Rattle.std.proofs.Common.{arith}
use Rattle.text_bytes.proofs.Spanning.{spaces_none, spaces_on, none_pass, none_before, within}
use Rattle.text_bytes.proofs.spans.spaces_end.Goals as goal

pub loop-at-init : goal.loop-at-init
loop-at-init c = spaces_none _ _ c.requires

pub loop-at-preserved : goal.loop-at-preserved
loop-at-preserved c = spaces_on _ _ _ 16 c.loop-at.invariant c.loop-at-test.true (none_pass no_space _ _ _ c.loop-at-test.true c.no_space_bits-others.ensures c.if-others-ne0.false)

pub returns-then-others-ne0 : goal.returns-then-others-ne0
returns-then-others-ne0 c =
    let room = c.loop-at-test.true in
    let is = c.no_space_bits-others.ensures in
    let some = c.if-others-ne0.true in
    spaces_on _ _ _ _ c.loop-at.invariant (omega (arith, room, within no_space _ _ _ room is some)) (none_before no_space _ _ _ room is some)
