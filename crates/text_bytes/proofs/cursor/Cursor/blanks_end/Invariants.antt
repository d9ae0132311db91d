use Rattle.std.proofs.Common.{◌-◌, length}
use Rattle.text_bytes.proofs.Blanks.{Blanking}
use Rattle.text_bytes.proofs.cursor.Cursor.blanks_end.Given as goal

abbrev pub invariant-loop-place : goal.invariant-loop-place
invariant-loop-place l = Blanking l.tabs l.self l.place l.found_tabs l.has_valid_yaml_ws

abbrev pub decreases-loop-place : goal.decreases-loop-place
decreases-loop-place l = length l.text - l.place
