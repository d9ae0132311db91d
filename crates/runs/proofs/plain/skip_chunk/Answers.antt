use Rattle.std.proofs.Common.{◌<◌, refl, arith}
use Rattle.runs.proofs.Chunks.{takes_chunk, sight, skips_chunk}
use Rattle.runs.proofs.plain.skip_chunk.Goals as goal

pub returns : goal.returns
returns g c =
    let some : 0 < c.args.count = (let n = c.if-count-eq0.false in omega arith) in
    let in_flow = c.args.in_flow in
    let sound = g.I.Input.sound c.args.input.now in
    let looks = c.lookahead.ensures.looks in
    let colon = c.colon_in-colon.ensures in
    let skip = c.skip_safe-taken.ensures in
    let takes = skips_chunk in_flow c.args.count _ _ _ sound some looks (λ run. run) _ _ skip in
    record {
      chunk = takes_chunk in_flow c.args.count _ _ _ _ colon takes;
      steps = record { colon = _; sight = sight _ _ _ _ looks.keeps.window skip.keeps.window colon; takes = takes; stopped = refl };
    }
