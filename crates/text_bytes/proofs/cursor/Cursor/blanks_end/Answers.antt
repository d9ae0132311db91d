use Rattle.std.proofs.Common.{refl, sym}
use Rattle.text_bytes.proofs.Blanks.{blanking_tab, blanking_space, blanking_far, blanked_out, blanked_stops}
use Rattle.text_bytes.proofs.cursor.Cursor.blanks_end.Goals as goal
use Rattle.text_bytes.proofs.cursor.Cursor.blanks_end.Goals.{then-loop-place-test+else-is_separator, else-loop-place-test}

pub loop-place-preserved-then-text-place-eq9 : goal.loop-place-preserved-then-text-place-eq9
loop-place-preserved-then-text-place-eq9 c =
    blanking_tab _ _ _ _ _ c.loop-place.invariant c.loop-place-test.true (sym c.if-is_separator.ensures) c.if-text-place-eq9.true

pub loop-place-preserved : goal.loop-place-preserved
loop-place-preserved c =
    blanking_far _ _ _ _ _ (blanking_space _ _ _ _ _ c.loop-place.invariant c.loop-place-test.true (sym c.if-is_separator.ensures) c.if-text-place-eq9.false) c.spaces_end-place.ensures

pub returns : goal.returns
returns c =
    let b = c.loop-place.invariant in
    elim c.loop-place-test.branch [
      | then-loop-place-test+else-is_separator w ↦
          (let end = blanked_stops _ _ _ refl _ _ b w.loop-place-test.true (sym w.if-is_separator.ensures) in
          record { ends = end.ends; seen = end.seen })
      | else-loop-place-test w ↦
          (let end = blanked_out _ _ _ refl _ _ b w.loop-place-test.false in
          record { ends = end.ends; seen = end.seen })
    ]
