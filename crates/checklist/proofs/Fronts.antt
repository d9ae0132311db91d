-- A front of some codes.
use Rattle.std.proofs.Common.{ℕ, ◌≤◌, List, length, take, arith, length-take}

pub take_short : (n : ℕ) (cs : List ℕ) (most : ℕ) → length cs ≤ most → length (take n cs) ≤ most
take_short n cs most h = omega (arith, length-take n cs)
