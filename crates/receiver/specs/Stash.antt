-- A stash as an input.
use Rattle.std.specs.Prelude.{ℕ, true, false, List, is_some, Some, slice_index}
use Rattle.error.specs.Numbers.{Ending}
use Rattle.input.specs.View.{View, Manner, Making}
use Rattle.input.specs.Calls.{none_left}
use Rattle.input.specs.Tests.{are_shown, marker_in, Shown}
use Rattle.receiver.specs.declared.stash.Stash.{Stash}
use Rattle.receiver.specs.Hold.{hold_chars}
use Rattle.receiver.specs.Drawn.{drawn_ahead, drawn_ending}

-- its window stays, its scans go character by character, and it may meet its ending early
abbrev pub stash_manner : Manner
stash_manner = record { prompt = false; steady = true; steps = true; most = 16 }

-- what a stash is made of: a source
abbrev pub stash_making : {S : Type 0} → (S → List ℕ) → (S → Ending) → (S → ℕ) → S → Making
stash_making ahead ending given s =
    record { manner = stash_manner; chars = ahead s; finish = ending s; given = given s }

-- what is held and what is still to come, behind a window of sixteen
abbrev pub stash_view : {S : Type 0} → (S → List ℕ) → (S → Ending) → Stash S → View S
stash_view ahead ending x =
    record {
      ahead = drawn_ahead ahead x.drawn;
      window = 16;
      ending = drawn_ending ending x.drawn;
      met = is_some x.drawn.met;
      told = x.told;
      manner = stash_manner;
      held = x.drawn.source;
    }

-- a stash shows what it holds, and NUL after that; it refuses no test
abbrev pub stash_shown : {S : Type 0} → Stash S → Shown
stash_shown x =
    let at = slice_index (hold_chars x.drawn.hold) in
    record {
      at = at;
      at_end = none_left (hold_chars x.drawn.hold);
      matches = λ wanted. Some (are_shown at wanted);
      marker = Some (marker_in at);
    }
