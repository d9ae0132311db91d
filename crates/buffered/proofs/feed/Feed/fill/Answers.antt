use Rattle.std.proofs.Common.{[], ◌∷◌, length, refl, ap, ◌∙◌, arith, length-append}
use Rattle.buffered.specs.Ring.{queue}
use Rattle.buffered.proofs.Filling.{fill_more, fill_end, fill_all}
use Rattle.buffered.proofs.feed.Feed.fill.Goals as goal

pub loop-self-preserved : goal.loop-self-preserved
loop-self-preserved g c =
    fill_end g.S.Source.ahead g.S.Source.kept g.S.Source.ended c.args.upto c.args.self.now c.loop-self.self c.step.new.self c.loop-self.invariant
    c.if-not-self.true (omega arith) c.in-None.ensures.gives.0 c.step.ensures.keeps (c.in-None.ensures.ends refl)

pub returns-after-loop-self : goal.returns-after-loop-self
returns-after-loop-self g c =
    record {
      fills =
          fill_all g.S.Source.ahead g.S.Source.kept g.S.Source.ended c.args.upto c.args.self.now c.loop-self.self c.loop-self.invariant (λ _. omega arith);
      feeds = c.loop-self.invariant.feeds;
    }

pub loop-self-preserved-in-Some : goal.loop-self-preserved-in-Some
loop-self-preserved-in-Some g c =
    fill_more g.S.Source.ahead g.S.Source.kept g.S.Source.ended c.args.upto c.args.self.now c.loop-self.self c.in-Some.c c.push.new.self c.step.new.self
    c.loop-self.invariant c.if-not-self.true (omega arith) c.push.ensures c.in-Some.ensures.gives c.step.ensures.keeps

pub loop-self-smaller-in-Some : goal.loop-self-smaller-in-Some
loop-self-smaller-in-Some g c =
    grind (arith, ap length c.push.ensures ∙ length-append (queue c.loop-self.self.ring) (c.in-Some.c ∷ []))
