use Rattle.std.proofs.Common.{◌+◌, length}
use Rattle.replay.proofs.Turns.{asked_yet}
use Rattle.replay.proofs.run.Given as goal

abbrev pub decreases-loop-asked : goal.decreases-loop-asked
decreases-loop-asked l = length l.lines.rest.now + asked_yet l.asked
