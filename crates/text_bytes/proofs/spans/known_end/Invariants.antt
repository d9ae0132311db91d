use Rattle.std.proofs.Common.{length, ◌-◌}
use Rattle.text_bytes.specs.Spans.{Spans}
use Rattle.text_bytes.proofs.spans.known_end.Given as goal

abbrev pub invariant-loop-at : goal.invariant-loop-at
invariant-loop-at l = Spans l.known l.colon l.text l.from l.at l.count

abbrev pub decreases-loop-at : goal.decreases-loop-at
decreases-loop-at l = length l.text - l.at

abbrev pub invariant-loop-at-2 : goal.invariant-loop-at-2
invariant-loop-at-2 l = Spans l.known l.colon l.text l.from l.at l.count

abbrev pub decreases-loop-at-2 : goal.decreases-loop-at-2
decreases-loop-at-2 l = length l.text - l.at
