use Rattle.player.proofs.TakenLines.{passed_more}
use Rattle.player.proofs.list.serve_by.Goals as goal

-- the line that was taken is no new input's
pub loop-line-preserved : goal.loop-line-preserved
loop-line-preserved g c =
    passed_more _ c.loop-line.lines.rest.now c.take_line.new.self.rest.now c.in-Some.line c.parse.result c.loop-line.invariant c.in-Some.ensures c.parse.ensures c.in_default-parse.not-New
