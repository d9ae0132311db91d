-- What holds of every ring, and how its tests tell of what is ahead.
use Rattle.std.specs.Prelude.{◌≡◌, ℕ, ◌<◌, ◌≤◌, Bool, true, false, ◌&&◌, List, [], ◌∷◌, ◌++◌}
use Rattle.std.specs.Prelude.{length, nat_lt, slice_index, refl}
use Rattle.std.proofs.Common.{arith, length-append, ltb-true}
use Rattle.std.proofs.lemmas.Bool.{cond_both}
use Rattle.std.proofs.Math.Utf8.{scalars, encodes}
use Rattle.error.specs.Limit.{text_limit}
use Rattle.input.specs.View.{IsSound}
use Rattle.input.specs.Calls.{none_left}
use Rattle.input.specs.Held.{held_characters, held_short, held_shows}
use Rattle.input.specs.Tests.{Matches, Marks, IsFaithful}
use Rattle.source.specs.Met.{to_come}
use Rattle.source.specs.MetLaws.{to_come_characters, to_come_short, to_come_met}
use Rattle.buffered.specs.declared.buffered_input.BufferedInput.{BufferedInput}
use Rattle.buffered.specs.Ring.{queue}
use Rattle.buffered.specs.RingLaws.{held_length, scalars_held}
use Rattle.buffered.specs.Buffered.{ring_view, ring_shown}

-- with a window, nothing is ahead exactly if nothing is held and the source has ended
end_shown : (met : Bool) (q cs : List ℕ) → (length q < 1 → met ≡ true)
    → (met && none_left q) ≡ none_left (q ++ to_come met cs)
end_shown true [] cs h = refl
end_shown true (c ∷ q) cs h = refl
end_shown false [] cs h = let never : false ≡ true = h (omega arith) in cc
end_shown false (c ∷ q) cs h = refl

module _ {S : Type 0} (ahead : S → List ℕ) where
  -- sixteen characters of at most four bytes each are 64 bytes
  pub ring_sound : ((s : S) → scalars (ahead s) ≡ true)
      → ((s : S) → length (encodes (ahead s)) ≤ text_limit)
      → (x : BufferedInput S) → IsSound (ring_view ahead x)
  ring_sound characters short x =
      let r = x.feed.ring in
      let q = queue r in
      let s = x.feed.source in
      let come = to_come x.feed.met (ahead s) in
      let n = held_length r.places r.head r.len in
      record {
        characters =
            held_characters q come (scalars_held r.places r.head r.len r.characters)
            (to_come_characters x.feed.met _ (characters s));
        short = held_short q come (omega (arith, n, r.room)) (to_come_short x.feed.met _ (short s));
        waits = λ few. x.filled (omega (arith, length-append q come));
        steps = λ _. refl;
      }

  pub ring_faithful : (x : BufferedInput S) → IsFaithful (ring_shown x) (ring_view ahead x)
  ring_faithful x =
      let q = queue x.feed.ring in
      let cs = ahead x.feed.source in
      let shown = slice_index q in
      record {
        at = λ n h. held_shows q _ n (λ l. to_come_met x.feed.met cs (x.filled (omega arith)));
        at_end = λ h. end_shown x.feed.met q cs (λ l. x.filled (omega arith));
        matches = λ wanted.
            cond_both (nat_lt x.window (length wanted)) _ _ (Matches wanted x.window shown)
            (ltb-true x.window (length wanted)) (λ _ _ _. refl);
        marker =
            cond_both (nat_lt x.window 4) _ _ (Marks x.window shown) (ltb-true x.window 4)
            (λ _ _. refl);
      }

pub sixteen : 16 ≤ 16
sixteen = omega arith
