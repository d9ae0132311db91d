use Rattle.reading.proofs.Alike.{beside}
use Rattle.reading.proofs.list.side_by_side_with.Goals as goal

pub returns : goal.returns
returns g c =
    beside g.C.Class.member _ _ _ _ (g.L.Input.sound c.args.left.now) (g.R.Input.sound c.args.right.now) c.run_with-held.ensures c.run_with-beside.ensures
