use Rattle.std.proofs.Common.{refl, arith}
use Rattle.text_bytes.proofs.Spanning.{span_few}
use Rattle.text_bytes.proofs.Places.{moved}
use Rattle.text_bytes.proofs.Crossing.{crossed_boundary, crossed}
use Rattle.text_bytes.proofs.cursor.Cursor.past_known.Goals as goal

pub returns : goal.returns
returns g c =
    let x = c.args.self.now in
    let e = c.known_end-place.ensures in
    let r = crossed _ _ c.in-Some.ensures c.args.colon _ _ _ _ x.placed e.spans e.stops in
    record { text = refl; order = omega (arith, e.spans.order, span_few _ _ _ _ _ _ e.spans); ahead = r.ahead; run = r.run }

pub invariant_of-result : goal.invariant_of-result
invariant_of-result g c =
    let x = c.args.self.now in
    let e = c.known_end-place.ensures in
    record { placed = moved _ _ _ x.placed (crossed_boundary _ _ c.in-Some.ensures c.args.colon _ _ _ _ x.placed e.spans e.stops) }

pub returns-in_default : goal.returns-in_default
returns-in_default g c = record { text = refl; order = omega arith; ahead = refl; run = omega arith }
