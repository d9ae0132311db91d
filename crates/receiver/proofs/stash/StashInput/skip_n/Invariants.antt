use Rattle.std.proofs.Common.{◌-◌, ◌≤◌, length}
use Rattle.input.specs.Calls.{Skips}
use Rattle.receiver.specs.Drawn.{drawn_ahead}
use Rattle.receiver.specs.Stash.{stash_view}
use Rattle.receiver.proofs.stash.StashInput.skip_n.Given as goal

abbrev pub invariant-loop-left : goal.invariant-loop-left
invariant-loop-left g l =
    let view = stash_view g.S.FallibleSource.ahead g.S.FallibleSource.ending in
    record { left : l.left ≤ l.count; skips : Skips (l.count - l.left) (view l.initial.self) (view l.self) }

-- a count may be far more than what is ahead
abbrev pub decreases-loop-left : goal.decreases-loop-left
decreases-loop-left g l = length (drawn_ahead g.S.FallibleSource.ahead l.self.drawn)
