use Rattle.std.proofs.Common.{◌≡◌, ◌+◌, ◌-◌, drop, ap, ◌∙◌, arith}
use Rattle.text_bytes.specs.Cursors.{ahead_from}
use Rattle.text_bytes.proofs.Runs.{one_more}
use Rattle.text_bytes.proofs.cursor.Cursor.past.Goals as goal

pub loop-left-preserved : goal.loop-left-preserved
loop-left-preserved c =
    let i = c.loop-left.invariant in
    let s = c.in-Some.ensures in
    let taken : c.args.count - c.loop-left.left + 1 ≡ c.args.count - (c.loop-left.left - 1) = omega (arith, c.loop-left-test.true, i.2) in
    (s.text ∙ i.0, one_more _ _ (c.args.count - c.loop-left.left) i.1 _ _ s.first ∙ ap (λ k. drop k (ahead_from c.args.self.now)) taken, omega arith)
