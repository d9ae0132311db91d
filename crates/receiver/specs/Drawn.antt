-- A source, and what was drawn from it.
use Rattle.std.specs.Prelude.{◌≡◌, ℕ, ◌<◌, true, List, ◌++◌, is_some}
use Rattle.error.specs.Numbers.{Ending}
use Rattle.source.specs.Met.{still_ahead, final_ending}
use Rattle.receiver.specs.declared.drawn.Drawn.{Drawn}
use Rattle.receiver.specs.Hold.{hold_chars}

-- what is held, and what is still to come of the source
abbrev pub drawn_ahead : {S : Type 0} → (S → List ℕ) → Drawn S → List ℕ
drawn_ahead ahead x = hold_chars x.hold ++ still_ahead x.met (ahead x.source)

abbrev pub drawn_ending : {S : Type 0} → (S → Ending) → Drawn S → Ending
drawn_ending ending x = final_ending x.met (ending x.source)

-- characters are drawn until sixteen are held or the ending is met
pub record FillsUp {S : Type 0} (ahead : S → List ℕ) (ending : S → Ending) (x y : Drawn S)
    : Type 0 where
  pub same : drawn_ahead ahead y ≡ drawn_ahead ahead x
  pub ends : drawn_ending ending y ≡ drawn_ending ending x
  pub stays : is_some x.met ≡ true → is_some y.met ≡ true
  pub full : y.hold.len < 16 → is_some y.met ≡ true
  -- the source is not stepped once its ending was met
  pub still : is_some x.met ≡ true → y.source ≡ x.source
