use Rattle.card_and_cable.proofs.Made.{checked_second}
use Rattle.card_and_cable.proofs.radio.radio_and_card.Goals as goal

pub returns-clause-checked : goal.returns-clause-checked
returns-clause-checked g c = checked_second _ _ c.made_side_by_side.ensures.answers
