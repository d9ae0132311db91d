use Rattle.std.proofs.Common.{sym, arith}
use lib.ListN.{get_or-eq_default}
use Rattle.buffered.specs.Ring.{queue}
use Rattle.buffered.specs.RingLaws.{held_length}
use Rattle.buffered.proofs.Rings.{held_get}
use Rattle.buffered.proofs.ring.RingShows.at.Goals as goal

pub returns-then-n-self : goal.returns-then-n-self
returns-then-n-self c =
    sym (held_get c.args.self.now.places c.args.self.now.head c.args.self.now.len c.args.n c.if-n-self.true)

pub returns-else-n-self : goal.returns-else-n-self
returns-else-n-self c =
    sym
    (get_or-eq_default (queue c.args.self.now) 0
    (omega (arith, held_length c.args.self.now.places c.args.self.now.head c.args.self.now.len)))
