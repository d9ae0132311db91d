use Rattle.std.proofs.Common.{arith}
use Rattle.receiver.proofs.Slots.{few}
use Rattle.receiver.proofs.packets.PacketsFallibleSource.step.Goals as goal

pub overflow_add-self : goal.overflow_add-self
overflow_add-self c = let f = few _ c.loop-self.self.short in omega arith
