use Rattle.std.proofs.Common.{ap, ◌∙◌, arith}
use lib.Utf8.{scalars}
use Rattle.receiver.proofs.Holding.{scalars_shifted}
use Rattle.receiver.proofs.hold.Hold.pop.Goals as goal

pub invariant_of-self : goal.invariant_of-self
invariant_of-self c =
    let h = c.args.self.now in
    let e = c.rotate_left.ensures.after in
    record { row = c.rotate_left.ensures.len ∙ h.row; characters = ap scalars e ∙ scalars_shifted h.places h.characters; room = omega (arith, h.room) }
