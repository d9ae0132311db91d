use Rattle.std.proofs.lemmas.List.{take_rest}
use Rattle.checklist.proofs.Setpoints.{digits_from}
use Rattle.checklist.proofs.scans.digits_end.Goals as goal

pub returns-clause-ends : goal.returns-clause-ends
returns-clause-ends c = digits_from _ _ _ c.requires (rw take_rest at c.digits_len.ensures.len)
