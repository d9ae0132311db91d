use Rattle.std.proofs.Common.{ap, ◌∙◌}
use Rattle.source.specs.Texts.{text_ahead}
use Rattle.replay.proofs.Making.{text_all}
use Rattle.replay.proofs.kinds.ring_of_text.Goals as goal

pub returns-clause-fresh : goal.returns-clause-fresh
returns-clause-fresh c =
    let f = c.new-2.ensures.fresh in
    let s = c.in_ok-source in
    let all = ap text_ahead c.new.ensures.below ∙ text_all s.source c.args.bytes.now s.ensures.all in
    record { new = f.new; manner = f.manner; all = f.all ∙ all; finish = f.finish }
