use Rattle.std.proofs.Common.{◌+◌, length}
use Rattle.fieldcheck.proofs.print_lines.Given as goal

abbrev pub decreases-loop-card : goal.decreases-loop-card
decreases-loop-card l = length l.card + length l.cable
