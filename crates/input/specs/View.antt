-- What an input means to whoever reads it.
use Rattle.std.specs.Prelude.{◌≡◌, ℕ, ◌+◌, ◌<◌, ◌≤◌, min, max, Bool, true, false, ◌||◌, List, length, nat_lt}
use Rattle.std.proofs.Math.Utf8.{encodes, scalars}
use Rattle.error.specs.Limit.{text_limit}
use Rattle.error.specs.Numbers.{Ending}

-- How an input keeps its window and its ending, and how it scans. No call changes it.
pub record Manner : Type 0 where
  -- its window is the largest count asked for, 16 at most, and its ending is never met before it is due
  pub prompt : Bool
  -- lookaheads alone raise its window, and one of up to 16 no further than it asks for
  pub steady : Bool
  -- its scans go character by character, and ask for lookahead 1
  pub steps : Bool
  -- the window that a lookahead can always have
  pub most : ℕ

-- The characters ahead, the window, the ending, whether it is met, and whether its fault was told; what it holds below it, for a ring its source.
pub record View (H : Type 0) : Type 0 where
  pub ahead : List ℕ
  pub window : ℕ
  pub ending : Ending
  pub met : Bool
  pub told : Bool
  pub manner : Manner
  pub held : H

-- what holds of every value: a ring may hold sixteen characters of four bytes beside what its source has
pub record IsSound {H : Type 0} (v : View H) : Type 0 where
  pub characters : scalars v.ahead ≡ true
  pub short : length (encodes v.ahead) ≤ text_limit + 64
  pub waits : length v.ahead < v.window → v.met ≡ true
  pub steps : v.manner.prompt ≡ true → v.manner.steps ≡ true

-- the lookahead that a call asks for: at least one count, at most another
pub record Look : Type 0 where
  pub least : ℕ
  pub most : ℕ

abbrev pub exactly : ℕ → Look
exactly n = record { least = n; most = n }

-- What every call keeps. `finds`: it looked for a next character and found the end. `look`: the lookahead that it asks for, of 0 if it asks for none.
pub record Keeps {H : Type 0} (finds : Bool) (look : Look) (v w : View H) : Type 0 where
  pub manner : w.manner ≡ v.manner
  pub ending : w.ending ≡ v.ending
  pub window : v.window ≤ w.window
  pub stays : v.met ≡ true → w.met ≡ true
  -- once the ending is met, what is held keeps its value
  pub still : v.met ≡ true → w.held ≡ v.held
  pub meets : finds ≡ true → w.met ≡ true
  pub narrow : v.manner.prompt ≡ true → w.window ≡ max v.window (min 16 look.least)
  pub steady : v.manner.steady ≡ true → w.window ≤ max v.window look.most
  pub late : v.manner.prompt ≡ true → w.met ≡ (v.met || (finds || nat_lt (length w.ahead) w.window))

-- an input as its maker hands it out
pub record IsNew {H : Type 0} (v : View H) : Type 0 where
  pub short : length (encodes v.ahead) ≤ text_limit
  pub untold : v.told ≡ false
  pub closed : v.manner.prompt ≡ true → v.window ≡ 0
  pub unmet : v.manner.prompt ≡ true → v.met ≡ false

-- what an input is made of: how it keeps its window and its ending, its characters, its ending, and how many characters were given before
pub record Making : Type 0 where
  pub manner : Manner
  pub chars : List ℕ
  pub finish : Ending
  pub given : ℕ

-- a new one that is made of it
pub record IsFresh {H : Type 0} (of : Making) (v : View H) : Type 0 where
  pub new : IsNew v
  pub manner : v.manner ≡ of.manner
  pub all : v.ahead ≡ of.chars
  pub finish : v.ending ≡ of.finish
