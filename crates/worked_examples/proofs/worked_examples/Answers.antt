use Rattle.worked_examples.proofs.Working.{worked}
use Rattle.worked_examples.proofs.worked_examples.Goals as goal

pub returns : goal.returns
returns g c = worked g.I.Input.Held
