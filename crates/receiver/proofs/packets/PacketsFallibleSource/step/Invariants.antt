use Rattle.std.proofs.Common.{◌≡◌, length}
use Rattle.receiver.specs.Packets.{packets_ahead, packets_ending, packets_given}
use Rattle.receiver.proofs.packets.PacketsFallibleSource.step.Given as goal

-- gaps change nothing of what the packets are
abbrev pub invariant-loop-self : goal.invariant-loop-self
invariant-loop-self l =
    (packets_ahead l.self ≡ packets_ahead l.initial.self) × (packets_ending l.self ≡ packets_ending l.initial.self)
    × (packets_given l.self ≡ packets_given l.initial.self)

abbrev pub decreases-loop-self : goal.decreases-loop-self
decreases-loop-self l = length l.self.slots.now
