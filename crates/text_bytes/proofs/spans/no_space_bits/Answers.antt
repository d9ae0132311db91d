use Rattle.text_bytes.proofs.Lanes.{bits, other}
use Rattle.text_bytes.proofs.spans.no_space_bits.Goals as goal

pub returns : goal.returns
returns c = bits c.args.bytes c.requires _ _ (other c.args.bytes c.requires 32)
