use Rattle.std.proofs.Common.{suc, ◌-◌, cond}
use Rattle.buffered.specs.Feed.{held_count}
use Rattle.buffered.proofs.Filling.{Filling}
use Rattle.buffered.proofs.feed.Feed.fill.Given as goal

abbrev pub invariant-loop-self : goal.invariant-loop-self
invariant-loop-self g l = Filling g.S.Source.ahead g.S.Source.kept g.S.Source.ended l.upto l.initial.self l.self

abbrev pub decreases-loop-self : goal.decreases-loop-self
decreases-loop-self g l = cond l.self.met 0 (suc (l.upto - held_count l.self))
