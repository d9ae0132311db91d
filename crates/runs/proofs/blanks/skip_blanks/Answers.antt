use Rattle.std.proofs.Common.{true, sym, refl, ap, ◌∙◌, arith}
use Rattle.runs.specs.Runs.{blanks_of}
use Rattle.runs.specs.Scans.{flags_of}
use Rattle.runs.proofs.Asking.{allows_scan, skips_after}
use Rattle.runs.proofs.Skipping.{skipped_more, skipped_all, skipped_flags, so_few}
use Rattle.runs.proofs.blanks.skip_blanks.Goals as goal

pub overflow_add-count : goal.overflow_add-count
overflow_add-count g c = omega (arith, so_few _ _ _ _ _ _ (g.I.Input.sound c.lookahead.new.self) c.loop-c.invariant)

pub loop-c-preserved : goal.loop-c-preserved
loop-c-preserved g c =
    skipped_more _ _ _ _ _ _ _ _ (g.I.Input.sound c.lookahead.new.self) c.loop-c.invariant c.next_blank.ensures c.in-Some.c (sym c.in-Some.is) _ c.skip.ensures _ _
    refl refl

pub returns-clause-skips : goal.returns-clause-skips
returns-clause-skips g c =
    let looks = c.lookahead.ensures.looks in
    let sound = g.I.Input.sound c.lookahead.new.self in
    let over = sym c.in_default.is in
    record {
      skips =
          skips_after 1 _ _ _ _ (omega arith) looks (allows_scan _ (g.I.Input.sound c.args.input.now)) true (blanks_of c.args.skip_tabs) _
          (skipped_all _ _ _ _ _ _ _ _ sound c.loop-c.invariant c.next_blank.ensures over);
      seen =
          skipped_flags _ _ _ _ _ _ _ _ sound c.loop-c.invariant c.next_blank.ensures over
          ∙ ap (λ a. flags_of (blanks_of c.args.skip_tabs a)) looks.ahead;
    }
