use Rattle.std.proofs.Common.{◌&&◌, ◌||◌, ltb, eqb, map, ap, ◌∙◌}
use Rattle.std.specs.Simd.Lanes.{mask_l}
use Rattle.char_traits.specs.Chars.{flow}
use Rattle.text_bytes.specs.Spans.{must_ask}
use Rattle.text_bytes.proofs.Lanes.{bits, either, both, under, over, same, again}
use Rattle.text_bytes.proofs.spans.unsure_bits.Goals as goal

pub returns : goal.returns
returns c =
    let v = c.args.bytes in
    let long = c.requires in
    let known = c.args.known in
    bits v long _ _
    (either v _ _ _ _ (either v _ _ _ _ (under v long _) (both v _ _ _ _ (over v long _) (under v long 128)))
    (either v _ _ _ _ (either v _ _ _ _ (again v long _ _ c.asked_lanes.ensures) (same v long _)) (again v long _ _ c.flow_lanes.ensures)))
    ∙ ap
    (λ s. mask_l (map (λ b. (ltb b known.low || (ltb known.high b && ltb b 128)) || ((must_ask known.wide b || eqb b s) || (known.but_flow && flow b))) v))
    c.byte_of.ensures
