use Rattle.std.proofs.lemmas.List.{take_rest}
use Rattle.listing.proofs.Steps.{cut_there}
use Rattle.listing.proofs.cut_line.Goals as goal

pub returns : goal.returns
returns c = cut_there _ _ c.len_of_line-len.ensures.len _ (rw take_rest at c.width_of_break.ensures)
