use Rattle.std.proofs.Common.{length, sym, ap, ◌∙◌, arith}
use Rattle.input.specs.Calls.{first_of}
use Rattle.runs.specs.declared.SkipTabs.TheVariants.{Yes}
use Rattle.checklist.specs.Lines.{line_ends}
use Rattle.checklist.proofs.Crossing.{eol_keeps, plain_keeps, printable_keeps, dropped_fewer}
use Rattle.checklist.proofs.scans.next_after_skips.Goals as goal

pub returns : goal.returns
returns g c =
    let e = c.skip_ws_to_eol.ensures.skips in
    let p = c.skip_plain_run.ensures in
    let s = c.skip_while_non_breakz.ensures in
    let n = c.next_ch.ensures in
    record {
      ends =
          ap line_ends n.ahead ∙ printable_keeps _ _ _ s.number s.ahead ∙ plain_keeps _ _ _ p.number p.ahead
          ∙ eol_keeps _ _ _ Yes e.number e.ahead;
      fewer =
          (let x = ap length n.ahead in
          let a = (g.I.Input.view c.args.input.now).ahead in
          let b = (g.I.Input.view c.skip_ws_to_eol.new.self).ahead in
          let d = (g.I.Input.view c.skip_plain_run.new.self).ahead in
          let f = (g.I.Input.view c.skip_while_non_breakz.new.self).ahead in
          let y = dropped_fewer c.skip_while_non_breakz.result d f s.ahead in
          let z = dropped_fewer c.skip_plain_run.result b d p.ahead in
          let w = dropped_fewer c.skip_ws_to_eol.result.0 a b e.ahead in
          omega arith);
      next = n.next ∙ ap first_of (sym n.ahead);
    }
