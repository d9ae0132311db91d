use Rattle.std.proofs.Common.{arith}
use Rattle.input.specs.Held.{scalars_take}
use Rattle.checklist.proofs.Fronts.{take_short}
use Rattle.checklist.proofs.Pulling.{pulling_more}
use Rattle.checklist.proofs.pulls.pull_all_over.Goals as goal

pub loop-place-preserved : goal.loop-place-preserved
loop-place-preserved c =
    let p = c.loop-place.invariant.2 in
    let at = p.at in
    let fewer = p.fewer in (
      λ s l. c.one_more-pulls.ensures.told (c.in_ok-told.ensures.told (scalars_take c.loop-place.place _ s) (take_short c.loop-place.place _ _ l)) (c.loop-place.invariant.0 s l),
      c.one_more-pulls.ensures.most c.loop-place.invariant.1,
      pulling_more _ _ _ _ _ _ (omega arith) c.loop-place-test.true (omega arith) p (omega arith) (c.one_more-pulls.ensures.made (omega arith)),
    )
