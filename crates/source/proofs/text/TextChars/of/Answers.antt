use Rattle.std.proofs.Common.{ap, ◌∙◌}
use lib.Utf8.{encodes}
use Rattle.std.proofs.lemmas.Str.{encodes-chars}
use Rattle.utf8.proofs.Texts.{agree}
use Rattle.source.proofs.Texts.{pass}
use Rattle.source.proofs.text.TextChars.of.Goals as goal

pub over-requires : goal.over-requires
over-requires c = pass c.args.bytes.now c.in_ok-check_text.ensures.checked

pub returns : goal.returns
returns c =
    let is = pass c.args.bytes.now c.in_ok-check_text.ensures.checked in
    let all = ap encodes c.over.ensures.all ∙ encodes-chars c.args.bytes.now (agree.formed_text _ is.formed) in
    record { checked = c.in_ok-check_text.ensures.checked; all = all }
