use Rattle.std.proofs.Common.{◌≡◌, drop}
use Rattle.text_bytes.specs.Bytes.{begins}
use Rattle.text_bytes.specs.Cursors.{ahead_from}
use Rattle.text_bytes.proofs.cursor.Cursor.begins_with.Given as goal

abbrev pub invariant-loop-want : goal.invariant-loop-want
invariant-loop-want l = begins l.wanted (ahead_from l.self) ≡ begins (drop l.want-index l.wanted) (ahead_from l.at)
