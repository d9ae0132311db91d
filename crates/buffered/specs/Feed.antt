-- What is held of a source, and what is still to come.
use Rattle.std.specs.Prelude.{◌≡◌, ℕ, ◌-◌, ◌<◌, ◌≤◌, max, Bool, true, ◌&&◌, ◌||◌, List}
use Rattle.std.specs.Prelude.{◌++◌, length, drop, Option, nat_lt}
use Rattle.error.specs.Numbers.{Ending}
use Rattle.input.specs.Calls.{none_left, first_of}
use Rattle.source.specs.Met.{to_come}
use Rattle.buffered.specs.declared.feed.Feed.{Feed}
use Rattle.buffered.specs.Ring.{queue}

-- how many characters are held
abbrev pub held_count : {S : Type 0} → Feed S → ℕ
held_count x = length (queue x.ring)

-- the end was met and no character is held
abbrev pub at_end : {S : Type 0} → Feed S → Bool
at_end x = x.met && none_left (queue x.ring)

abbrev pub feed_ahead : {S : Type 0} → (S → List ℕ) → Feed S → List ℕ
feed_ahead ahead x = queue x.ring ++ to_come x.met (ahead x.source)

-- Nothing is drawn ahead of need: of what was held, so many were taken; no more is held than was
-- left of it, or than is needed.
abbrev pub Frugal : {S : Type 0} → ℕ → ℕ → Feed S → Feed S → Type 0
Frugal taken need x y = held_count y ≤ max (held_count x - taken) need

-- characters are drawn until `upto` are held or the source has ended
pub record Fills {S : Type 0} (ahead : S → List ℕ) (upto : ℕ) (x y : Feed S) : Type 0 where
  pub same : feed_ahead ahead y ≡ feed_ahead ahead x
  pub met : y.met ≡ (x.met || nat_lt (length (feed_ahead ahead x)) upto)
  pub full : held_count y < upto → y.met ≡ true
  pub grows : held_count x ≤ held_count y
  pub few : Frugal 0 upto x y
  -- the source is not stepped once its end was met
  pub still : x.met ≡ true → y.source ≡ x.source

-- the first character is taken, held before or drawn
pub record Draws {S : Type 0} (ahead : S → List ℕ) (r : Option ℕ) (x y : Feed S) : Type 0 where
  pub first : r ≡ first_of (feed_ahead ahead x)
  pub rest : feed_ahead ahead y ≡ drop 1 (feed_ahead ahead x)
  pub met : y.met ≡ (x.met || none_left (feed_ahead ahead x))
  pub fewer : held_count y ≡ held_count x - 1
  pub still : x.met ≡ true → y.source ≡ x.source

-- what becomes of the source: it keeps its ending, and has ended once its end is met
pub record Feeds {S : Type 0} (kept : S → Ending) (ended : S → Bool) (x y : Feed S) : Type 0 where
  pub stays : x.met ≡ true → y.met ≡ true
  pub keeps : kept y.source ≡ kept x.source
  pub ends : (x.met ≡ true → ended x.source ≡ true) → y.met ≡ true → ended y.source ≡ true
