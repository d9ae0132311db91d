use Rattle.card_and_cable.proofs.Made.{checked_first}
use Rattle.card_and_cable.proofs.card_and_cable.Goals as goal

pub returns-clause-checked : goal.returns-clause-checked
returns-clause-checked g c = checked_first _ _ c.made_side_by_side.ensures.answers
