use Rattle.std.proofs.Common.{[], ◌∷◌, string_bytes, ap, ◌∙◌}
use Rattle.protocol.proofs.Written.{digits_more}
use Rattle.protocol.proofs.digits.push_digits.Goals as goal

pub loop-byte-preserved : goal.loop-byte-preserved
loop-byte-preserved c =
    let high = c.digit_name.ensures in
    let low = c.digit_name-in-loop-byte.ensures in
    digits_more (string_bytes c.args.out.now) _ _ _ _ _ c.args.bytes.now c.loop-byte.byte-index c.loop-byte-test.true c.loop-byte.invariant
    c.in_ok-push.ensures.bytes c.in_ok-push-2.ensures.bytes
    (c.push.ensures.ascii high.ascii ∙ ap (λ d. d ∷ []) high.named)
    (c.push-in-loop-byte.ensures.ascii low.ascii ∙ ap (λ d. d ∷ []) low.named)
