use Rattle.std.proofs.Common.{arith}
use Rattle.char_traits.specs.Chars.{plain_safe}
use Rattle.runs.specs.declared.Colon.TheVariants.{Leads}
use Rattle.runs.specs.Runs.{goes}
use Rattle.runs.proofs.Asking.{allows_all, fetches_after}
use Rattle.runs.proofs.plain.fetch_plain.Goals as goal

pub returns-clause-fetches : goal.returns-clause-fetches
returns-clause-fetches g c =
    fetches_after 2 _ _ _ _ (omega arith) c.lookahead.ensures.looks (allows_all 2 _) (goes (plain_safe c.args.in_flow) Leads)
    (g.I.Input.sound c.lookahead.new.self) _ _ _ _ (omega arith) c.fetch_safe.ensures.skips c.fetch_safe.ensures.writes
