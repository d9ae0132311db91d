use Rattle.runs.proofs.Longest.{run_longest, class_longest, plain_longest, fitting_longest}
use Rattle.runs.proofs.laws.runs_are_longest.Goals as goal

pub returns : goal.returns
returns c = record { run = run_longest; class = class_longest; plain = plain_longest; fits = fitting_longest }
