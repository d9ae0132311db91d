-- A call that was made of an input, as a line of its step.
use Rattle.std.proofs.Common.{◌≡◌, ℕ, Bool, List, subst}
use Rattle.input.specs.View.{View}
use Rattle.input.specs.Tests.{Shown, IsFaithful}
use Rattle.calls.specs.declared.call.Answer.{Answer}
use Rattle.calls.specs.declared.call.Step.{Step}
use Rattle.calls.specs.Entries.{Entry, Means, room_bytes, entry_of, Performs}

pub performed : {C H : Type 0} (member : C → ℕ → Bool) (shown : Shown) (s t : Step C) (v w u : View H) (room left : List ℕ) (a : Answer) → IsFaithful shown v
    → Means member shown s.call (record { call = s.call; room = room; filled = s.filled; answer = a; left = left }) v w → room ≡ room_bytes s.room → left ≡ room_bytes t.room
    → a ≡ t.answer → w ≡ u → Performs member (entry_of s t) v u
performed {C} {H} member shown s t v w u room left a faithful means before after answer moved = (
  shown,
  faithful,
  subst (λ (x : View H). Means member shown s.call (entry_of s t) v x) moved
      (subst (λ (l : Entry C). Means member shown s.call l v w)
      (λ j. record { call = s.call; room = before j; filled = s.filled; answer = answer j; left = after j }) means),
)
