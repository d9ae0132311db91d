use Rattle.std.proofs.Common.{◌≡◌, true, arith}
use Rattle.error.specs.Limit.{place_fits}
use Rattle.runs.specs.declared.Colon.TheVariants.{Free}
use Rattle.runs.specs.Runs.{goes, separates, at_hash}
use Rattle.char_traits.specs.Chars.{not_breakz}
use Rattle.str_input.specs.Text.{ahead_of}
use Rattle.str_input.proofs.Scanning.{run_short, skips_comment}
use Rattle.str_input.proofs.str_input.scans.StrInputScan.skip_ws_to_eol.Goals as goal

pub overflow_add-result : goal.overflow_add-result
overflow_add-result c =
    let b = c.skip_ws_to_eol_blanks-blanks.ensures.skips.skips.number in
    let s = c.skip_run-comment.ensures.number in
    let h = place_fits _ (run_short c.args.self.now (goes (separates c.args.skip_tabs) Free)) in
    let k = place_fits _ (run_short c.skip_ws_to_eol_blanks-blanks.new.self (goes not_breakz Free)) in
    omega arith

pub returns-clause-skips : goal.returns-clause-skips
returns-clause-skips c =
    let u = c.skip_ws_to_eol_blanks-blanks.new.self in
    let hash : at_hash (ahead_of u) ≡ true = cc in
    let b = c.skip_ws_to_eol_blanks-blanks.ensures in
    let s = c.skip_run-comment.ensures in
    skips_comment c.args.skip_tabs _ u _ _ _ _ b.skips b.moves hash c.if-blanks-eq0.false s.number s.moves
