use Rattle.std.proofs.Common.{◌≡◌, ◌+◌, drop}
use Rattle.input.specs.Tests.{are_shown}
use Rattle.input.proofs.shows.Shows.begins_with.Given as goal

abbrev pub invariant-loop-n : goal.invariant-loop-n
invariant-loop-n g l = are_shown (g.Self.Shows.shown l.self) l.wanted ≡ are_shown (λ k. g.Self.Shows.shown l.self (l.n + k)) (drop l.n l.wanted)
