use Rattle.std.proofs.Common.{◌<◌, refl, arith}
use Rattle.runs.specs.Scans.{FetchesSome}
use Rattle.runs.proofs.Asking.{within}
use Rattle.runs.proofs.Chunks.{takes_chunk, sight, fetches_chunk, fetch_steps_none}
use Rattle.runs.proofs.plain.fetch_chunk.Goals as goal

pub returns : goal.returns
returns g c =
    let some : 0 < c.args.count = (let n = c.if-count-eq0.false in omega arith) in
    let view = g.I.Input.view in
    let in_flow = c.args.in_flow in
    let sound = g.I.Input.sound c.args.input.now in
    let looks = c.lookahead.ensures.looks in
    let colon = c.colon_in-colon.ensures in
    let fetch = c.fetch_safe-taken.ensures in
    let takes = fetches_chunk in_flow c.args.count _ _ _ sound some looks _ _ _ _ _ (omega arith) fetch.skips fetch.writes in
    let some_of = FetchesSome c.args.count c.args.room.now c.args.filled c.fetch_safe-taken.result c.fetch_safe-taken.new.room (view c.args.input.now) (view c.fetch_safe-taken.new.input) in
    record {
      chunk = takes_chunk in_flow c.args.count _ _ some_of _ colon takes;
      steps = record { colon = _; sight = sight _ _ _ _ looks.keeps.window fetch.skips.keeps.window colon; takes = takes; stopped = refl };
      untouched = within _ _ (omega arith);
    }

pub returns-then-count-eq0-clause-steps : goal.returns-then-count-eq0-clause-steps
returns-then-count-eq0-clause-steps g c =
    fetch_steps_none c.args.in_flow c.args.count _ (g.I.Input.sound c.args.input.now) (omega arith) _ _ _ (omega arith) c.new.ensures
