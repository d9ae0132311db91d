use Rattle.std.proofs.Common.{true, false, length, refl}
use Rattle.source.specs.CodeLimit.{code_limit}
use Rattle.source.proofs.Listed.{all_codes}
use Rattle.source.proofs.Starts.{answered}
use Rattle.source.proofs.codes.Codes.of.Goals as goal

pub returns-then-is_too_many : goal.returns-then-is_too_many
returns-then-is_too_many c =
    record { answers = answered true code_limit (length c.args.codes.now) c.if-is_too_many.ensures; starts = tt; whole = all_codes c.args.codes.now }

pub returns : goal.returns
returns c =
    record {
      answers = answered false code_limit (length c.args.codes.now) c.if-is_too_many.ensures;
      starts = record { all = refl; ends = refl; none = refl };
      whole = all_codes c.args.codes.now;
    }
