use Rattle.std.proofs.Common.{true, arith}
use Rattle.char_traits.specs.Chars.{plain_safe}
use Rattle.runs.specs.declared.Colon.TheVariants.{Leads}
use Rattle.runs.specs.Runs.{goes, plain_run}
use Rattle.runs.proofs.Asking.{allows_all, skips_all, skips_after}
use Rattle.runs.proofs.plain.skip_plain.Goals as goal

pub returns : goal.returns
returns g c =
    skips_after 2 _ _ _ _ (omega arith) c.lookahead.ensures.looks (allows_all 2 _) true (plain_run c.args.in_flow) _
    (skips_all (goes (plain_safe c.args.in_flow) Leads) _ (g.I.Input.sound c.lookahead.new.self) _ _ c.skip_safe.ensures)
