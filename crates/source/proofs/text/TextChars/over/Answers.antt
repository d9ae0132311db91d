use Rattle.std.proofs.Common.{length, refl, ap}
use Rattle.std.proofs.lemmas.Str.{chars-nil, encodes-chars, scalars-chars, IsCharBoundary-start}
use Rattle.utf8.proofs.Texts.{agree}
use Rattle.source.proofs.text.TextChars.over.Goals as goal

pub invariant_of-result : goal.invariant_of-result
invariant_of-result c =
    let text = c.args.text.now in
    let u = agree.formed_text text c.requires.formed in
    record { short = c.requires.short; formed = encodes-chars text u; characters = scalars-chars text u; boundary = IsCharBoundary-start text u }

pub returns : goal.returns
returns c = record { all = refl; none = ap length chars-nil; count = refl }
