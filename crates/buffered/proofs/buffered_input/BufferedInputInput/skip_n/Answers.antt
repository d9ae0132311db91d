use Rattle.std.proofs.Common.{arith}
use Rattle.input.proofs.Skipping.{skips_left, skips_end}
use Rattle.buffered.proofs.Taking.{feeds_on}
use Rattle.buffered.proofs.buffered_input.BufferedInputInput.skip_n.Goals as goal

pub loop-left-preserved : goal.loop-left-preserved
loop-left-preserved g c =
    let s = g.S.Source in
    record {
      left = omega arith;
      skips = skips_left c.args.count c.loop-left.left _ _ _ c.take.result (omega arith) (omega arith) c.loop-left.invariant.skips c.take.ensures.takes;
      feeds = feeds_on s.ahead s.kept s.ended _ _ _ c.loop-left.invariant.feeds c.take.ensures.feeds;
      few = omega arith;
    }

pub returns-then-is_none-clause-skips : goal.returns-then-is_none-clause-skips
returns-then-is_none-clause-skips g c =
    skips_end c.args.count c.loop-left.left _ _ _ c.take.result (omega arith) (omega arith) c.loop-left.invariant.skips c.take.ensures.takes
    c.if-is_none.ensures
