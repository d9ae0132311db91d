use Rattle.char_traits.proofs.Laws.{ties}
use Rattle.char_traits.proofs.classes_tie.Goals as goal

pub returns : goal.returns
returns c = ties
