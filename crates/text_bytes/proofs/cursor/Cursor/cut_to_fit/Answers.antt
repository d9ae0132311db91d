use Rattle.text_bytes.proofs.Fitting.{cut_whole, cut_short}
use Rattle.text_bytes.proofs.cursor.Cursor.cut_to_fit.Goals as goal

pub returns-then-end-self-clause-ends : goal.returns-then-end-self-clause-ends
returns-then-end-self-clause-ends c = λ run e. cut_whole _ run _ _ e c.args.free c.if-end-self.true

pub returns-else-end-self-clause-ends : goal.returns-else-end-self-clause-ends
returns-else-end-self-clause-ends c = λ run e. cut_short _ run _ _ e c.args.free _ _ c.if-end-self.false c.fitting_end.ensures.ends
