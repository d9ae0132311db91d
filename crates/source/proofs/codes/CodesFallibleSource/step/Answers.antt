use Rattle.std.proofs.Common.{length, arith}
use Rattle.error.specs.Limit.{place_fits}
use Rattle.source.specs.CodesLaws.{codes_fit}
use Rattle.source.proofs.codes.CodesFallibleSource.step.Goals as goal

pub overflow_add-self : goal.overflow_add-self
overflow_add-self c =
    let s = c.args.self.now in
    let f = codes_fit (length s.codes.now) s.short in
    let p = place_fits (length s.codes.now) (omega arith) in
    omega (arith, s.inside)
