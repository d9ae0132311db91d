use Rattle.std.proofs.Common.{◌∙◌}
use Rattle.std.proofs.lemmas.Bool.{both_ways}
use Rattle.text_bytes.proofs.Markers.{is_marker_lem, no_marker}
use Rattle.text_bytes.proofs.cursor.Cursor.is_marker.Goals as goal

pub returns-then-is_thrice : goal.returns-then-is_thrice
returns-then-is_thrice c =
    let x = c.args.self.now in
    c.ends_marker.ensures
    ∙ is_marker_lem x.text.now x.place c.args.byte x.placed c.requires.0 c.requires.1 (c.is_thrice.ensures.0 c.if-is_thrice.true)

pub returns-else-is_thrice : goal.returns-else-is_thrice
returns-else-is_thrice c =
    let x = c.args.self.now in
    c.if-is_thrice.false
    ∙ no_marker x.text.now x.place c.args.byte x.placed c.requires.0 c.requires.1 (λ t. both_ways _ c.if-is_thrice.false (c.is_thrice.ensures.1 t))
