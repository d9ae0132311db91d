use Rattle.std.proofs.Common.{sym}
use Rattle.buffered.specs.RingLaws.{held_length}
use Rattle.buffered.proofs.ring.Ring.len.Goals as goal

pub returns : goal.returns
returns c = sym (held_length c.args.self.now.places c.args.self.now.head c.args.self.now.len)
