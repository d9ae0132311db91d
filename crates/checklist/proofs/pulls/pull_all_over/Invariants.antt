use Rattle.std.proofs.Common.{◌≡◌, ◌-◌, ◌≤◌, true, length}
use lib.Utf8.{scalars}
use Rattle.source.specs.CodeLimit.{code_limit}
use Rattle.checklist.proofs.Pulling.{Pulling}
use Rattle.checklist.proofs.pulls.pull_all_over.Given as goal

abbrev pub invariant-loop-place : goal.invariant-loop-place
invariant-loop-place l =
    (scalars l.codes ≡ true → length l.codes ≤ code_limit → l.pulls.told ≡ l.pulls.made) × (l.pulls.told ≤ l.pulls.made)
    × Pulling (length l.codes) l.step l.place l.pulls.made

abbrev pub decreases-loop-place : goal.decreases-loop-place
decreases-loop-place l = length l.codes - l.place
