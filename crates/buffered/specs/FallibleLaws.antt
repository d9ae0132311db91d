-- What holds of every ring over a failing source, and how its tests tell of what is ahead.
use Rattle.input.specs.View.{IsSound}
use Rattle.input.specs.Tests.{IsFaithful}
use Rattle.source.specs.declared.FallibleSource as FallibleSource
use Rattle.buffered.specs.declared.fallible_buffered_input.FallibleBufferedInput.{FallibleBufferedInput}
use Rattle.buffered.specs.Buffered.{ring_shown}
use Rattle.buffered.specs.BufferedLaws.{ring_sound, ring_faithful}
use Rattle.buffered.specs.Fallible.{failing_view}

module _ {F : Type 0} {g : FallibleSource.Ghosts F} where
  pub failing_sound : (x : FallibleBufferedInput F g) → IsSound (failing_view x)
  failing_sound x =
      let s =
      ring_sound (λ s. g.ahead s.below) (λ s. g.characters s.below) (λ s. g.short s.below)
      x.inner
      in
      record { characters = s.characters; short = s.short; waits = s.waits; steps = s.steps }

  pub failing_faithful : (x : FallibleBufferedInput F g)
      → IsFaithful (ring_shown x.inner) (failing_view x)
  failing_faithful x =
      let f = ring_faithful (λ s. g.ahead s.below) x.inner in
      record { at = f.at; at_end = f.at_end; matches = f.matches; marker = f.marker }
