-- What is still to come is a text's characters, as what is ahead is.
use Rattle.std.specs.Prelude.{◌≡◌, ℕ, ◌≤◌, Bool, true, false, List, [], length, refl}
use Rattle.std.proofs.Common.{ap, arith}
use Rattle.std.proofs.Math.Utf8.{encodes, scalars}
use Rattle.error.specs.Limit.{text_limit}
use Rattle.source.specs.Met.{to_come}

pub to_come_characters : (met : Bool) (cs : List ℕ) → scalars cs ≡ true
    → scalars (to_come met cs) ≡ true
to_come_characters true cs h = refl
to_come_characters false cs h = h

pub to_come_short : (met : Bool) (cs : List ℕ) → length (encodes cs) ≤ text_limit
    → length (encodes (to_come met cs)) ≤ text_limit
to_come_short true cs h = omega arith
to_come_short false cs h = h

-- nothing is, once the ending was met
pub to_come_met : (met : Bool) (cs : List ℕ) → met ≡ true → to_come met cs ≡ []
to_come_met met cs m = ap (λ b. to_come b cs) m
