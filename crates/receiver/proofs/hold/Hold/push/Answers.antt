use Rattle.std.proofs.Common.{◌≡◌, true, ◌∙◌, arith, rules}
use lib.Utf8.{scalar}
use Rattle.std.proofs.lemmas.List.{length-set}
use Rattle.input.specs.Held.{scalars_set}
use Rattle.receiver.proofs.hold.Hold.push.Goals as goal

pub invariant_of-self : goal.invariant_of-self
invariant_of-self c =
    let h = c.args.self.now in
    let s : scalar c.args.c ≡ true = search rules in
    record { row = length-set h.places _ _ ∙ h.row; characters = scalars_set h.places _ c.args.c s h.characters; room = omega (arith, c.requires) }
