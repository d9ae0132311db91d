-- What a command does where there is an input.
use Rattle.std.specs.Prelude.{◌≡◌, ℕ, Bool, List, Option}
use Rattle.input.specs.View.{View}
use Rattle.input.specs.Tests.{Shown}
use Rattle.calls.specs.Entries.{opens}
use Rattle.protocol.specs.declared.command.Command.{Command}
use Rattle.player.specs.declared.rooms.Rooms.{Rooms}
use Rattle.player.specs.Plays.{Plays, Probes}
use Rattle.player.specs.Aside.{AsideLine, AsideRooms}

-- a call is made of the input, and every other command leaves it as it was
abbrev pub Turns : {H : Type 0} → Shown → Option ℕ → (ℕ → ℕ → Option (List ℕ) → Type 0)
    → Command → List ℕ → Rooms → Rooms → View H → View H → Type 0
Turns s stepped Lends (Command.Call call) line x y v w = Plays s call line x y v w
Turns s stepped Lends (Command.Probe probe) line x y v w =
    Probes stepped Lends probe line v × (y ≡ x) × (w ≡ v)
Turns s stepped Lends command line x y v w =
    AsideLine command x line × AsideRooms command x y × (w ≡ v)

abbrev pub open_next : Command → Bool → Bool
open_next (Command.Call call) before = opens call before
open_next command before = before
