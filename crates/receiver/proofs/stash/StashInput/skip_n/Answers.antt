use Rattle.std.proofs.Common.{arith}
use Rattle.input.proofs.Skipping.{skips_left, skips_end}
use Rattle.receiver.proofs.stash.StashInput.skip_n.Goals as goal

pub loop-left-preserved : goal.loop-left-preserved
loop-left-preserved g c =
    record {
      left = omega arith;
      skips = skips_left c.args.count c.loop-left.left _ _ _ c.take.result (omega arith) (omega arith) c.loop-left.invariant.skips c.take.ensures;
    }

pub returns-then-is_none : goal.returns-then-is_none
returns-then-is_none g c =
    skips_end c.args.count c.loop-left.left _ _ _ c.take.result (omega arith) (omega arith) c.loop-left.invariant.skips c.take.ensures
    c.if-is_none.ensures
