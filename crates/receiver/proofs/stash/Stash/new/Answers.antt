use Rattle.receiver.proofs.Taking.{fresh}
use Rattle.receiver.proofs.stash.Stash.new.Goals as goal

pub returns : goal.returns
returns g c =
    let s = g.S.FallibleSource in
    fresh s.ahead s.ending s.given c.args.source c.new.result c.fill.new.self c.new.ensures (s.short c.args.source) c.fill.ensures
