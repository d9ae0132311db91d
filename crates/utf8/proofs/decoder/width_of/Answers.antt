use Rattle.std.proofs.Common.{◌≡◌, rules}
use Rattle.utf8.specs.Decoding.{lead_width}
use Rattle.utf8.proofs.Leads.{no_row_told}
use Rattle.utf8.proofs.decoder.width_of.Goals as goal

pub returns-in_default : goal.returns-in_default
returns-in_default c =
    let leads : lead_width c.args.first ≡ 0 = search rules in
    record { leads = leads; rows = λ rest. no_row_told c.args.first rest leads }
