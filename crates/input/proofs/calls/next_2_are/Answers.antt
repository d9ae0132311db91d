use Rattle.std.proofs.Common.{sym}
use Rattle.input.proofs.Comparing.{no_more, one_more, compared}
use Rattle.input.proofs.calls.next_2_are.Goals as goal

pub returns : goal.returns
returns g c =
    compared _ _ (g.I.Input.shown c.args.input.now) _
    (one_more c.args.first c.in_ok-character.field-0 (sym c.in_ok-character.ensures)
    (one_more c.args.second c.in_ok-character-2.field-0 (sym c.in_ok-character-2.ensures) no_more)) c.next_are.ensures
