use Rattle.runs.proofs.Fronts.{part_prefix, fetches_all}
use Rattle.runs.proofs.laws.fetches_are_fronts.Goals as goal

pub returns : goal.returns
returns g c = record { part = part_prefix; whole = fetches_all }
