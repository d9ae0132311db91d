use Rattle.utf8.proofs.Leads.{begins}
use Rattle.utf8.proofs.decoder.first_char.Goals as goal

pub returns : goal.returns
returns c = begins _ _ _ _ c.next.result c.chars.ensures.rest c.next.ensures.steps.0
