-- What was drawn so far.
use Rattle.std.proofs.Common.{◌≡◌, ℕ, true, false, List, [], ◌∷◌, ◌++◌, is_some, Ok, Some, None, Option, sym, refl, ap, ◌∙◌, subst, append_assoc}
use Rattle.error.specs.Numbers.{Ending}
use Rattle.input.proofs.Keeping.{never}
use Rattle.source.proofs.Steps.{Steps}
use Rattle.source.specs.Met.{still_ahead, final_ending}
use Rattle.receiver.specs.declared.hold.Hold.{Hold}
use Rattle.receiver.specs.declared.drawn.Drawn.{Drawn}
use Rattle.receiver.specs.Hold.{hold_chars}
use Rattle.receiver.specs.Drawn.{drawn_ahead, drawn_ending}

open_coming : (m : Option Ending) (cs : List ℕ) → is_some m ≡ false → still_ahead m cs ≡ cs
open_coming None cs u = refl
open_coming (Some e) cs u = absurd (never (sym u))

open_finish : (m : Option Ending) (e : Ending) → is_some m ≡ false → final_ending m e ≡ e
open_finish None e u = refl
open_finish (Some f) e u = absurd (never (sym u))

-- a step that gave a character
pub gives : (r : Option ℕ) (before after : List ℕ) (ending : Ending) (c : ℕ) → r ≡ Some c
    → Steps (Ok r) before after ending → before ≡ c ∷ after
gives r before after ending c e s = subst (λ (o : Option ℕ). Steps (Ok o) before after ending) e s

module _ {S : Type 0} (ahead : S → List ℕ) (ending : S → Ending) (x : Drawn S) where
  pub record Drawing (y : Drawn S) : Type 0 where
    pub same : drawn_ahead ahead y ≡ drawn_ahead ahead x
    pub ends : drawn_ending ending y ≡ drawn_ending ending x
    pub stays : is_some x.met ≡ true → is_some y.met ≡ true
    pub still : is_some x.met ≡ true → y.source ≡ x.source

  pub draw_more : (y : Drawn S) (c : ℕ) (hold : Hold) (t : S) → Drawing y → is_some y.met ≡ false
      → hold_chars hold ≡ hold_chars y.hold ++ (c ∷ [])
      → ahead y.source ≡ c ∷ ahead t → ending t ≡ ending y.source → Drawing (record { source = t; hold = hold; met = y.met })
  draw_more y c hold t d u h a e =
      record {
        same =
            ap (λ xs. hold_chars hold ++ xs) (open_coming y.met (ahead t) u)
            ∙ ap (λ xs. xs ++ ahead t) h
            ∙ append_assoc (hold_chars y.hold) (c ∷ []) (ahead t)
            ∙ ap (λ xs. hold_chars y.hold ++ xs) (sym a ∙ sym (open_coming y.met (ahead y.source) u))
            ∙ d.same;
        ends = open_finish y.met (ending t) u ∙ e ∙ sym (open_finish y.met (ending y.source) u) ∙ d.ends;
        stays = d.stays;
        still = λ m. absurd (never (sym u ∙ d.stays m));
      }
