-- Each list leaves less to answer.
use Rattle.std.proofs.Common.{ℕ, ◌+◌, ◌<◌, List, length, Some, None, Option, ap, arith}
use Rattle.std.specs.Borrow.{Bor}
use Rattle.player.specs.Lines.{Leaves}
use Rattle.player.proofs.TakenLines.{leaves_shorter}

-- a line that is asked for is yet to be answered
abbrev pub asked_yet : Option (Bor (List ℕ)) → ℕ
asked_yet None = 0
asked_yet (Some line) = 1

pub fewer : (text rest : List ℕ) (asked : Option (Bor (List ℕ))) → Leaves text asked rest → length rest + asked_yet asked < length text + 1
fewer text rest None leaves = let none = ap length leaves.0 in omega (arith, none)
fewer text rest (Some line) leaves = let less = leaves_shorter text rest line leaves in omega (arith, less)
