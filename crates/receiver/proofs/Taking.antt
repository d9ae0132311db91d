-- The first character is taken, and the stash filled again.
use Rattle.std.proofs.Common.{◌≡◌, ℕ, ◌<◌, ◌≤◌, Bool, false, List, [], ◌++◌, length, drop, is_some, Some, None, Option, sym, refl, ap, ◌∙◌, subst, arith}
use lib.Utf8.{encodes}
use Rattle.error.specs.Limit.{text_limit}
use Rattle.error.specs.Numbers.{Ending}
use Rattle.source.specs.Steps.{Gives}
use Rattle.input.specs.View.{View, IsSound, IsFresh}
use Rattle.input.specs.Calls.{first_of, TakesNext}
use Rattle.input.proofs.Keeping.{never, none_is}
use Rattle.source.specs.Met.{still_ahead}
use Rattle.source.specs.MetLaws.{to_come_met}
use Rattle.receiver.specs.declared.hold.Hold.{Hold}
use Rattle.receiver.specs.declared.drawn.Drawn.{Drawn}
use Rattle.receiver.specs.declared.stash.Stash.{Stash}
use Rattle.receiver.specs.Hold.{hold_chars}
use Rattle.receiver.specs.StashLaws.{hold_length}
use Rattle.receiver.specs.Drawn.{drawn_ahead, drawn_ending, FillsUp}
use Rattle.receiver.specs.Stash.{stash_manner, stash_making, stash_view}

gives_first : (r : Option ℕ) (q rest come : List ℕ) → Gives r q rest → (length q < 16 → come ≡ [])
    → r ≡ first_of (q ++ come)
gives_first None q rest come g none = sym (ap (λ xs. first_of (xs ++ come)) g.0 ∙ ap first_of (none (omega (arith, ap length g.0))))
gives_first (Some c) q rest come g none = sym (ap (λ xs. first_of (xs ++ come)) g)

gives_rest : (r : Option ℕ) (q rest come : List ℕ) → Gives r q rest → (length q < 16 → come ≡ [])
    → rest ++ come ≡ drop 1 (q ++ come)
gives_rest None q rest come g none =
    let e = none (omega (arith, ap length g.0)) in
    ap (λ xs. xs ++ come) g.1 ∙ e ∙ sym (ap (λ xs. drop 1 (xs ++ come)) g.0 ∙ ap (drop 1) e)
gives_rest (Some c) q rest come g none = sym (ap (λ xs. drop 1 (xs ++ come)) g)

module _ {S : Type 0} (ahead : S → List ℕ) (ending : S → Ending) where
  abbrev pub view_of : Drawn S → Bool → View S
  view_of y told =
      record {
        ahead = drawn_ahead ahead y;
        window = 16;
        ending = drawn_ending ending y;
        met = is_some y.met;
        told = told;
        manner = stash_manner;
        held = y.source;
      }

  pub none_coming : (x : Stash S) → x.drawn.hold.len < 16
      → still_ahead x.drawn.met (ahead x.drawn.source) ≡ []
  none_coming x h = to_come_met (is_some x.drawn.met) _ (x.full h)

  pub takes : (x : Stash S) (hold : Hold) (y : Drawn S) (r : Option ℕ)
      → IsSound (stash_view ahead ending x) → Gives r (hold_chars x.drawn.hold) (hold_chars hold)
      → FillsUp ahead ending (record { source = x.drawn.source; hold = hold; met = x.drawn.met }) y → TakesNext r (stash_view ahead ending x) (view_of y x.told)
  takes x hold y r sound g d =
      let q = hold_chars x.drawn.hold in
      let come = still_ahead x.drawn.met (ahead x.drawn.source) in
      let none : length q < 16 → come ≡ [] = λ h. none_coming x (omega (arith, hold_length x.drawn.hold)) in
      record {
        keeps =
            record {
              manner = refl;
              ending = d.ends;
              window = omega arith;
              stays = d.stays;
              still = d.still;
              steady = λ _. omega arith;
              meets = λ e. d.stays (sound.waits (omega (arith, ap length (none_is (q ++ come) e))));
              narrow = λ h. absurd (never h);
              late = λ h. absurd (never h);
            };
        told = refl;
        ahead = d.same ∙ gives_rest r q (hold_chars hold) come g none;
        first = gives_first r q (hold_chars hold) come g none;
      }

  pub fresh : (given : S → ℕ) (source : S) (hold : Hold) (y : Drawn S) → hold_chars hold ≡ []
      → length (encodes (ahead source)) ≤ text_limit
      → FillsUp ahead ending (record { source = source; hold = hold; met = None }) y → IsFresh (stash_making ahead ending given source) (view_of y false)
  fresh given source hold y none short d =
      let all : drawn_ahead ahead y ≡ ahead source = d.same ∙ ap (λ xs. xs ++ ahead source) none in
      record {
        new =
            record {
              short = subst (λ (xs : List ℕ). length (encodes xs) ≤ text_limit) (sym all) short;
              untold = refl;
              closed = λ h. absurd (never h);
              unmet = λ h. absurd (never h);
            };
        manner = refl;
        all = all;
        finish = d.ends;
      }
