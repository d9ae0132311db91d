use Rattle.std.proofs.Common.{length}
use Rattle.player.specs.Lines.{PassesSome}
use Rattle.player.proofs.list.serve_by.Given as goal

abbrev pub invariant-loop-line : goal.invariant-loop-line
invariant-loop-line g l = PassesSome l.initial.lines.rest.now l.lines.rest.now

abbrev pub decreases-loop-line : goal.decreases-loop-line
decreases-loop-line g l = length l.lines.rest.now
