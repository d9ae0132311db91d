-- A fetch that was made with the next room.
use Rattle.std.proofs.Common.{◌≡◌, ℕ, true, cond, List, [], sym, ap, subst, ◌∙◌}
use Rattle.input.specs.View.{View}
use Rattle.input.specs.Tests.{Shown}
use Rattle.calls.specs.declared.call.Answer.{Answer}
use Rattle.calls.specs.declared.call.Call.{Call}
use Rattle.calls.specs.declared.call.NoClass.{NoClass}
use Rattle.calls.specs.Entries.{Entry}
use Rattle.calls.specs.Kinds.{kind_of}
use Rattle.player.specs.declared.rooms.Rooms.{Rooms}
use Rattle.player.specs.Rooms.{next_bytes, next_filled, IsLastRoom}
use Rattle.player.specs.Plays.{entry, AnswersCall, room_of, filled_of, RoomsGo, Plays}

pub fetch_plays : {H : Type 0} (s : Shown) (call : Call NoClass) (room : List ℕ) (filled : ℕ) (a : Answer) (left line : List ℕ) (x y : Rooms) (v w : View H)
    → (kind_of call).fetches ≡ true → next_bytes x.next ≡ room → next_filled x.next ≡ filled → IsLastRoom left y
    → AnswersCall s (entry call room filled a left) line v w → Plays s call line x y v w
fetch_plays s call room filled a left line x y v w is bytes count had goes =
    let room_is : room ≡ room_of call x = sym (ap (λ b. cond b (next_bytes x.next) []) is ∙ bytes) in
    let filled_is : filled ≡ filled_of call x = sym (ap (λ b. cond b (next_filled x.next) 0) is ∙ count) in
    record {
      answer = a;
      left = left;
      goes = subst (λ (e : Entry NoClass). AnswersCall s e line v w) (λ i. entry call (room_is i) (filled_is i) a left) goes;
      rooms = subst (λ b. RoomsGo b left x y) (sym is) had;
    }
