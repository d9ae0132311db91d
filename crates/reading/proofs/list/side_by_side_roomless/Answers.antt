use Rattle.reading.proofs.Alike.{beside}
use Rattle.reading.proofs.list.side_by_side_roomless.Goals as goal

pub returns : goal.returns
returns g c =
    beside g.C.Class.member _ _ _ _ (g.L.Input.sound c.args.left.now) (g.R.Input.sound c.args.right.now) c.run_roomless-open.ensures c.run_roomless.ensures
