use Rattle.std.proofs.Common.{length, ◌-◌}
use Rattle.text_bytes.specs.Spans.{Spaces}
use Rattle.text_bytes.proofs.spans.spaces_end.Given as goal

abbrev pub invariant-loop-at : goal.invariant-loop-at
invariant-loop-at l = Spaces l.text l.from l.at

abbrev pub decreases-loop-at : goal.decreases-loop-at
decreases-loop-at l = length l.text - l.at
