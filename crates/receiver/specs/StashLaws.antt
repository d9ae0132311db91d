-- What holds of every stash as an input.
use Rattle.std.specs.Prelude.{◌≡◌, ◌<◌, ◌≤◌, ℕ, true, false, List, [], ◌∷◌, ◌++◌, length, is_some, refl}
use Rattle.std.proofs.Common.{arith, length-append, length-take, ap, sym}
use Rattle.std.proofs.lemmas.Bool.{both_ways}
use Rattle.std.proofs.Math.Utf8.{scalars, encodes}
use Rattle.error.specs.Limit.{text_limit}
use Rattle.error.specs.Numbers.{Ending}
use Rattle.source.specs.Met.{still_ahead}
use Rattle.source.specs.MetLaws.{to_come_characters, to_come_short, to_come_met}
use Rattle.input.specs.View.{IsSound}
use Rattle.input.specs.Calls.{none_left}
use Rattle.input.specs.Tests.{IsFaithful}
use Rattle.input.specs.Held.{held_characters, held_short, held_shows, scalars_take}
use Rattle.receiver.specs.declared.hold.Hold.{Hold}
use Rattle.receiver.specs.declared.stash.Stash.{Stash}
use Rattle.receiver.specs.Hold.{hold_chars}
use Rattle.receiver.specs.Stash.{stash_view, stash_shown}

pub hold_length : (h : Hold) → length (hold_chars h) ≡ h.len
hold_length h = omega (arith, length-take h.len h.places, h.row, h.room)

module _ {S : Type 0} (ahead : S → List ℕ) (ending : S → Ending) where
  -- sixteen characters of at most four bytes each are 64 bytes
  pub stash_sound : ((s : S) → scalars (ahead s) ≡ true)
      → ((s : S) → length (encodes (ahead s)) ≤ text_limit)
      → (x : Stash S) → IsSound (stash_view ahead ending x)
  stash_sound characters short x =
      let hold = x.drawn.hold in
      let q = hold_chars hold in
      let come = still_ahead x.drawn.met (ahead x.drawn.source) in
      let len : length q ≤ 16 = omega (arith, hold_length hold, hold.room) in
      record {
        characters =
            held_characters q come (scalars_take hold.len hold.places hold.characters)
            (to_come_characters (is_some x.drawn.met) _ (characters x.drawn.source));
        short =
            held_short q come len
            (to_come_short (is_some x.drawn.met) _ (short x.drawn.source));
        waits = λ few. x.full (omega (arith, hold_length hold, length-append q come));
        steps = λ p. absurd (both_ways false refl p);
      }

  -- nothing is ahead exactly if nothing is held, where nothing comes behind a hold that is not full
  end_shown : (q come : List ℕ) → (length q < 16 → come ≡ []) → none_left q ≡ none_left (q ++ come)
  end_shown [] come h = ap none_left (sym (h (omega arith)))
  end_shown (c ∷ q) come h = refl

  pub stash_faithful : (x : Stash S) → IsFaithful (stash_shown x) (stash_view ahead ending x)
  stash_faithful x =
      let q = hold_chars x.drawn.hold in
      let come = still_ahead x.drawn.met (ahead x.drawn.source) in
      let none : length q < 16 → come ≡ [] =
      λ l. to_come_met (is_some x.drawn.met) (ahead x.drawn.source)
      (x.full (omega (arith, hold_length x.drawn.hold)))
      in
      record {
        at = λ n h. held_shows q come n (λ l. none (omega arith));
        at_end = λ h. end_shown q come none;
        matches = λ wanted _ _. refl;
        marker = λ _. refl;
      }

pub stash_wide : 16 ≤ 16
stash_wide = omega arith
