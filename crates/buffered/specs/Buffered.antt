-- A source behind a ring, as an input.
use Rattle.std.specs.Prelude.{ℕ, true, false, cond, List, length, nat_lt, slice_index, Some, None}
use Rattle.error.specs.Numbers.{clean}
use Rattle.input.specs.View.{View, Manner, Making}
use Rattle.input.specs.Tests.{are_shown, marker_in, Shown}
use Rattle.buffered.specs.declared.buffered_input.BufferedInput.{BufferedInput}
use Rattle.buffered.specs.Ring.{queue}
use Rattle.buffered.specs.Feed.{feed_ahead, at_end}

abbrev pub ring_manner : Manner
ring_manner = record { prompt = true; steady = true; steps = true; most = 16 }

-- what a ring is made of: a source, which ends clean
abbrev pub ring_making : {S : Type 0} → (S → List ℕ) → S → Making
ring_making ahead s =
    record { manner = ring_manner; chars = ahead s; finish = clean; given = 0 }

-- what is held and, unless its end was met, what the source has; the ending is clean
abbrev pub ring_view : {S : Type 0} → (S → List ℕ) → BufferedInput S → View S
ring_view ahead x =
    record {
      ahead = feed_ahead ahead x.feed;
      window = x.window;
      ending = clean;
      met = x.feed.met;
      told = false;
      manner = ring_manner;
      held = x.feed.source;
    }

-- A ring shows what it holds, and NUL after that. It refuses a test of several characters exactly
-- below a window of that many.
abbrev pub ring_shown : {S : Type 0} → BufferedInput S → Shown
ring_shown x =
    let at = slice_index (queue x.feed.ring) in
    record {
      at = at;
      at_end = at_end x.feed;
      matches = λ wanted. cond (nat_lt x.window (length wanted)) None (Some (are_shown at wanted));
      marker = cond (nat_lt x.window 4) None (Some (marker_in at));
    }
