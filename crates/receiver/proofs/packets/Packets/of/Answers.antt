use Rattle.std.proofs.Common.{Bool, cond, [], sym, ap, arith, lt-ltb}
use Rattle.receiver.specs.SlotLimit.{slot_limit}
use Rattle.receiver.proofs.packets.Packets.of.Goals as goal

pub returns-then-slots-gt-SLOT_LIMIT-clause-answers : goal.returns-then-slots-gt-SLOT_LIMIT-clause-answers
unfolding slot_limit
returns-then-slots-gt-SLOT_LIMIT-clause-answers c = sym (ap (λ (b : Bool). cond b (1, []) (0, [])) (lt-ltb _ _ c.if-slots-gt-SLOT_LIMIT.true))

pub invariant_of-result : goal.invariant_of-result
unfolding slot_limit
invariant_of-result c = record { short = omega (arith, c.if-slots-gt-SLOT_LIMIT.false) }
