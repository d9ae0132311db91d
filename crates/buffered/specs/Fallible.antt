-- A failing source behind a ring, as an input.
use Rattle.std.specs.Prelude.{ℕ, List}
use Rattle.error.specs.Numbers.{Ending}
use Rattle.input.specs.View.{View, Making}
use Rattle.source.specs.declared.FallibleSource as FallibleSource
use Rattle.buffered.specs.declared.fallible_buffered_input.FallibleBufferedInput.{FallibleBufferedInput}
use Rattle.buffered.specs.Feed.{feed_ahead}
use Rattle.buffered.specs.Buffered.{ring_manner}

-- what it is made of: a failing source
abbrev pub failing_making : {F : Type 0} → (F → List ℕ) → (F → Ending) → (F → ℕ) → F → Making
failing_making ahead ending given s =
    record { manner = ring_manner; chars = ahead s; finish = ending s; given = given s }

module _ {F : Type 0} {g : FallibleSource.Ghosts F} where
  -- what is ahead as of any ring; the ending is the source's, whose fault is told or not
  abbrev pub failing_view : FallibleBufferedInput F g → View F
  failing_view x =
      record {
        ahead = feed_ahead (λ s. g.ahead s.below) x.inner.feed;
        window = x.inner.window;
        ending = g.ending x.inner.feed.source.below;
        met = x.inner.feed.met;
        told = x.told;
        manner = ring_manner;
        held = x.inner.feed.source.below;
      }
