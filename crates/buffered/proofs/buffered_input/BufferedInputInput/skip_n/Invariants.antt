use Rattle.std.proofs.Common.{◌-◌, ◌≤◌, length}
use Rattle.input.specs.Calls.{Skips}
use Rattle.buffered.specs.Feed.{feed_ahead, Feeds, Frugal}
use Rattle.buffered.specs.Buffered.{ring_view}
use Rattle.buffered.proofs.buffered_input.BufferedInputInput.skip_n.Given as goal

abbrev pub invariant-loop-left : goal.invariant-loop-left
invariant-loop-left g l =
    record {
      left : l.left ≤ l.count;
      skips : Skips (l.count - l.left) (ring_view g.S.Source.ahead l.initial.self) (ring_view g.S.Source.ahead l.self);
      feeds : Feeds g.S.Source.kept g.S.Source.ended l.initial.self.feed l.self.feed;
      few : Frugal (l.count - l.left) l.self.window l.initial.self.feed l.self.feed;
    }

-- a count may be far more than what is ahead
abbrev pub decreases-loop-left : goal.decreases-loop-left
decreases-loop-left g l = length (feed_ahead g.S.Source.ahead l.self.feed)
