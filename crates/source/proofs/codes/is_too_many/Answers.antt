use Rattle.std.proofs.Common.{refl}
use Rattle.source.specs.CodeLimit.{code_limit}
use Rattle.source.proofs.codes.is_too_many.Goals as goal

pub returns : goal.returns
unfolding code_limit
returns c = refl
