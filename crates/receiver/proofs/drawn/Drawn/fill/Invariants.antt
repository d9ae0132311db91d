use Rattle.std.proofs.Common.{suc, ◌-◌, cond, is_some}
use Rattle.receiver.proofs.Drawing.{Drawing}
use Rattle.receiver.proofs.drawn.Drawn.fill.Given as goal

abbrev pub invariant-loop-self : goal.invariant-loop-self
invariant-loop-self g l = Drawing g.S.FallibleSource.ahead g.S.FallibleSource.ending l.initial.self l.self

abbrev pub decreases-loop-self : goal.decreases-loop-self
decreases-loop-self g l = cond (is_some l.self.met) 0 (suc (16 - l.self.hold.len))
