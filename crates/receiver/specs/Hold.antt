-- What is held in a row of places.
use Rattle.std.specs.Prelude.{ℕ, List, take}
use Rattle.receiver.specs.declared.hold.Hold.{Hold}

-- the characters in it, in their order
abbrev pub hold_chars : Hold → List ℕ
hold_chars h = take h.len h.places
