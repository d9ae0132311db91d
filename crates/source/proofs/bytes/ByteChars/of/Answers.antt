use Rattle.std.proofs.Common.{true, false, length, sym, refl, ltb-false, arith, length-take}
use Rattle.error.specs.Limit.{text_limit}
use Rattle.source.proofs.Fronts.{starts, is_front}
use Rattle.source.proofs.Starts.{answered}
use Rattle.source.proofs.bytes.ByteChars.of.Goals as goal

pub returns-then-is_too_long : goal.returns-then-is_too_long
returns-then-is_too_long c =
    record {
      answers = answered true text_limit (length c.args.bytes.now) c.if-is_too_long.ensures;
      starts = tt;
      front = is_front c.args.bytes.now;
    }

pub over-requires : goal.over-requires
over-requires c = record { short = omega (arith, length-take c.formed_end-end.result c.args.bytes.now, ltb-false _ _ (sym c.if-is_too_long.ensures)); formed = c.formed_end-end.ensures.front }

pub returns : goal.returns
returns c =
    let o = c.over.ensures in
    record {
      answers = answered false text_limit (length c.args.bytes.now) c.if-is_too_long.ensures;
      starts = starts c.args.bytes.now c.formed_end-end.result c.over.result _ c.formed_end-end.ensures refl o.all o.none o.count;
      front = is_front c.args.bytes.now;
    }
