-- How many a queue holds, and that these are characters.
use Rattle.std.specs.Prelude.{◌≡◌, ℕ, zero, suc, ◌%◌, true, List, [], ◌∷◌}
use Rattle.std.specs.Prelude.{length, slice_index, refl}
use Rattle.std.proofs.lemmas.Bool.{and_from, and_parts}
use Rattle.std.proofs.Common.{ap}
use Rattle.std.proofs.Math.Utf8.{scalar, scalars}
use Rattle.buffered.specs.Ring.{held_from}

pub held_length : (p : List ℕ) (h n : ℕ) → length (held_from p h n) ≡ n
held_length p h zero = refl
held_length p h (suc n) = ap suc (held_length p (suc h) n)

scalar_get : (p : List ℕ) (k : ℕ) → scalars p ≡ true → scalar (slice_index p k) ≡ true
scalar_get [] k b = refl
scalar_get (x ∷ p) zero b = (and_parts (scalar x) _ b).0
scalar_get (x ∷ p) (suc k) b = scalar_get p k (and_parts (scalar x) _ b).1

pub scalars_held : (p : List ℕ) (h n : ℕ) → scalars p ≡ true → scalars (held_from p h n) ≡ true
scalars_held p h zero b = refl
scalars_held p h (suc n) b =
    and_from (scalar (slice_index p (h % 16))) (scalars (held_from p (suc h) n))
    (scalar_get p (h % 16) b) (scalars_held p (suc h) n b)
