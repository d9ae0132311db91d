use Rattle.std.proofs.Common.{arith}
use Rattle.buffered.proofs.Rings.{held_pop}
use Rattle.buffered.proofs.ring.Ring.pop.Goals as goal

pub returns : goal.returns
returns c =
    held_pop c.args.self.now.places c.args.self.now.head c.args.self.now.len c.args.self.now.inside (omega arith)
