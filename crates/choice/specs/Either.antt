-- An input that is one of two means what that one means.
use Rattle.std.specs.Prelude.{ℕ, ◌≤◌, ◌⊎◌, List, Option}
use Rattle.std.proofs.Common.{inl, inr}
use Rattle.input.specs.View.{View, IsSound}
use Rattle.input.specs.Tests.{Shown, IsFaithful}
use Rattle.choice.specs.declared.OneOf.{OneOf}
use Rattle.choice.specs.declared.OneOf.TheVariants.{First, Second}

-- a view with something else held
abbrev pub view_with : {H K : Type 0} → (H → K) → View H → View K
view_with f v =
    record {
      ahead = v.ahead;
      window = v.window;
      ending = v.ending;
      met = v.met;
      told = v.told;
      manner = v.manner;
      held = f v.held;
    }

sound_mapped : {H K : Type 0} (f : H → K) (v : View H) → IsSound v → IsSound (view_with f v)
sound_mapped f v s =
    record { characters = s.characters; short = s.short; waits = s.waits; steps = s.steps }

faithful_mapped : {H K : Type 0} (f : H → K) (shown : Shown) (v : View H) → IsFaithful shown v
    → IsFaithful shown (view_with f v)
faithful_mapped f shown v h =
    record { at = h.at; at_end = h.at_end; matches = h.matches; marker = h.marker }

-- what one of two gives, by the one that it is
abbrev pub by_one : {L R T : Type 0} → (L → T) → (R → T) → OneOf L R → T
by_one first second (First x) = first x
by_one first second (Second y) = second y

abbrev pub LentByOne : {L R : Type 0} → (L → ℕ → ℕ → Option (List ℕ) → Type 0)
    → (R → ℕ → ℕ → Option (List ℕ) → Type 0) → OneOf L R → ℕ → ℕ → Option (List ℕ) → Type 0
LentByOne first second (First x) = first x
LentByOne first second (Second y) = second y

-- what is 16 or more of both is so of the one that it is
pub one_wide : {L R : Type 0} (first : L → ℕ) (second : R → ℕ) → ((x : L) → 16 ≤ first x)
    → ((y : R) → 16 ≤ second y) → (x : OneOf L R) → 16 ≤ by_one first second x
one_wide first second l r (First x) = l x
one_wide first second l r (Second y) = r y

module _ {L R H K : Type 0} (first : L → View H) (second : R → View K) where
  -- its characters, its window, its ending and its manner are those of the one that it is
  abbrev pub one_view : OneOf L R → View (H ⊎ K)
  one_view (First x) = view_with inl (first x)
  one_view (Second y) = view_with inr (second y)

  -- a window of 16 can always be had of it, if it can of each of the two
  pub one_view_wide : ((x : L) → 16 ≤ (first x).manner.most)
      → ((y : R) → 16 ≤ (second y).manner.most) → (x : OneOf L R)
      → 16 ≤ (one_view x).manner.most
  one_view_wide l r (First x) = l x
  one_view_wide l r (Second y) = r y

  pub one_sound : ((x : L) → IsSound (first x)) → ((y : R) → IsSound (second y)) → (x : OneOf L R)
      → IsSound (one_view x)
  one_sound l r (First x) = sound_mapped inl (first x) (l x)
  one_sound l r (Second y) = sound_mapped inr (second y) (r y)

  pub one_faithful : (shown : L → Shown) (beside : R → Shown)
      → ((x : L) → IsFaithful (shown x) (first x))
      → ((y : R) → IsFaithful (beside y) (second y)) → (x : OneOf L R)
      → IsFaithful (by_one shown beside x) (one_view x)
  one_faithful shown beside l r (First x) = faithful_mapped inl (shown x) (first x) (l x)
  one_faithful shown beside l r (Second y) = faithful_mapped inr (beside y) (second y) (r y)
