use Rattle.std.proofs.Common.{◌≡◌, length, vec_items}
use Rattle.protocol.proofs.Spelling.{Upto}
use Rattle.protocol.proofs.values.bytes_of.Given as goal

abbrev pub invariant-loop-high : goal.invariant-loop-high
invariant-loop-high l = (length (vec_items l.bytes) ≡ l.high-index) × Upto l.word (vec_items l.bytes) l.high-index
