use Rattle.player.proofs.Laid.{unwritten}
use Rattle.player.proofs.usual.Usual.new.Goals as goal

pub invariant_of-result : goal.invariant_of-result
invariant_of-result c =
    let l = unwritten 70000 _ c.in_ok-bytes.ensures in
    record { size = l.all; within = l.within; rest = l.rest }
