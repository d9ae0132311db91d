use Rattle.text_bytes.proofs.Lanes.{bits, either, under, from}
use Rattle.text_bytes.proofs.spans.begin_bits.Goals as goal

pub returns : goal.returns
returns c =
    let v = c.args.bytes in
    bits v c.requires _ _ (either v _ _ _ _ (under v c.requires 128) (from v c.requires 192))
