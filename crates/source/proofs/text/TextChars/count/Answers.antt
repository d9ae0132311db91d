use Rattle.std.proofs.Common.{◌≡◌, length, rules, ap, arith}
use Rattle.std.specs.Str.{chars}
use Rattle.std.proofs.lemmas.Str.{chars_from_encodes, length-le-encodes}
use Rattle.error.specs.Limit.{place_fits}
use Rattle.source.proofs.text.TextChars.count.Goals as goal

pub returns : goal.returns
returns c = search (rules, chars_from_encodes)

pub overflow_cast-result : goal.overflow_cast-result
overflow_cast-result c =
    let s = c.args.self.now in
    let n : c.count.result ≡ length (chars s.text.now) = search (rules, chars_from_encodes) in
    let h = place_fits c.count.result (omega (arith, s.short, length-le-encodes (chars s.text.now), ap length s.formed)) in
    omega arith
