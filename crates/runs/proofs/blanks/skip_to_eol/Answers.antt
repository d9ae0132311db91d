use Rattle.std.proofs.Common.{sym, ◌∙◌, arith}
use Rattle.std.proofs.lemmas.Bool.{eq-eqb}
use Rattle.char_traits.specs.Chars.{not_breakz}
use Rattle.runs.specs.declared.Colon.TheVariants.{Free}
use Rattle.runs.specs.Runs.{goes, separates}
use Rattle.runs.proofs.Asking.{run_short, ahead_short, skips_all}
use Rattle.runs.proofs.Eol.{comment_after}
use Rattle.runs.proofs.blanks.skip_to_eol.Goals as goal

pub overflow_add-result : goal.overflow_add-result
overflow_add-result g c =
    let view = g.I.Input.view in
    let u = c.skip_blanks-blanks.new.input in
    let s = c.skip_blanks-blanks.ensures.skips.skips.number in
    let a = run_short (goes (separates c.args.skip_tabs) Free) (view c.args.input.now).ahead in
    let b = ahead_short (view c.args.input.now) (g.I.Input.sound c.args.input.now) in
    let k = (skips_all (goes not_breakz Free) _ (g.I.Input.sound u) _ _ c.skip_run-comment.ensures).number in
    let d = run_short (goes not_breakz Free) (view u).ahead in
    let e = ahead_short (view u) (g.I.Input.sound u) in
    omega arith

pub returns : goal.returns
returns g c =
    let u = c.skip_blanks-blanks.new.input in
    let shown = c.peek_nth.ensures ∙ (g.I.Input.faithful u).at 0 c.skip_blanks-blanks.ensures.looked in
    comment_after _ _ _ _ _ c.skip_blanks-blanks.ensures.skips (eq-eqb _ 35 (sym shown ∙ c.if-peek_nth-ne35.false)) c.if-blanks-eq0.false _ _
    (skips_all (goes not_breakz Free) _ (g.I.Input.sound u) _ _ c.skip_run-comment.ensures)
