-- What a fetch puts into a room.
use Rattle.std.specs.Prelude.{ℕ, ◌-◌, Bool, cond, List, [], ◌∷◌, length, Some, None, Option, nat_le, nat_lt}
use Rattle.std.proofs.Math.Utf8.{encode}
use Rattle.error.specs.Numbers.{number}
use Rattle.error.specs.declared.Refusal.{Refusal}
use Rattle.runs.specs.declared.Fetched.{Fetched}

-- the longest front of which the bytes fit
abbrev pub front_that_fits : ℕ → List ℕ → List ℕ
front_that_fits free [] = []
front_that_fits free (c ∷ cs) =
    cond (nat_le (length (encode c)) free) (c ∷ front_that_fits (free - length (encode c)) cs) []

-- the filled count lies beyond the room
abbrev pub beyond : List ℕ → ℕ → Bool
beyond room filled = nat_lt (length room) filled

-- what a fetch of a run takes: as much as fits, and nothing beyond the room
abbrev pub part : List ℕ → ℕ → List ℕ → List ℕ
part room filled run = cond (beyond room filled) [] (front_that_fits (length room - filled) run)

-- the number of a refusal and its values, 0 for none
abbrev pub refusal_number : Option Refusal → ℕ × List ℕ
refusal_number None = (0, [])
refusal_number (Some refusal) = number refusal

-- 6 beyond the room, 7 where the run does not fit
abbrev pub fetch_refusal : List ℕ → ℕ → List ℕ → ℕ × List ℕ
fetch_refusal room filled run =
    cond (beyond room filled) (6, [])
    (cond (nat_lt (length (part room filled run)) (length run)) (7, []) (0, []))

-- the number of a fetch's answer, with its count, its filled count and the values of its refusal
abbrev pub fetch_number : Fetched → ℕ × List ℕ
fetch_number r = ((refusal_number r.refusal).0, r.count ∷ r.filled ∷ (refusal_number r.refusal).1)
