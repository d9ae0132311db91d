use Rattle.std.proofs.Common.{refl}
use Rattle.std.proofs.lemmas.Str.{encodes-chars, scalars-chars}
use Rattle.text_bytes.proofs.cursor.Cursor.at.Goals as goal

pub invariant_of-result : goal.invariant_of-result
invariant_of-result c =
    let u = c.in-Ok.ensures.cases.1 in
    record { placed = record { formed = encodes-chars _ u; characters = scalars-chars _ u; boundary = c.if-is_boundary.ensures.0 refl } }
