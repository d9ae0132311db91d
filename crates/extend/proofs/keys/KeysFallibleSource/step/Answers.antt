use Rattle.std.proofs.Common.{◌+◌, arith}
use Rattle.reader.specs.Limit.{place_fits}
use Rattle.extend.proofs.keys.KeysFallibleSource.step.Goals as goal

-- the count of characters fits a place
pub overflow_add-self : goal.overflow_add-self
overflow_add-self c = let s = c.args.self.now in omega (arith, place_fits (s.given + 1) (omega (arith, s.few, c.in-0-to-9.len_at_least)))
