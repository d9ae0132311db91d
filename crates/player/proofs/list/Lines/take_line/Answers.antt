use Rattle.std.proofs.Common.{length, sym, arith, rules}
use Rattle.std.proofs.lemmas.List.{take_all, drop_all}
use Rattle.player.proofs.list.Lines.take_line.Goals as goal

pub returns-in-None : goal.returns-in-None
returns-in-None c = (
  search rules,
  length c.args.self.now.rest.now,
  search rules,
  sym (take_all (length c.args.self.now.rest.now) c.args.self.now.rest.now (omega arith)),
  sym (drop_all (length c.args.self.now.rest.now) c.args.self.now.rest.now (omega arith)),
)
