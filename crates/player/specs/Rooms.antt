-- The rooms beside an input.
use Rattle.std.specs.Prelude.{◌≡◌, ℕ, ◌+◌, ◌≤◌, max, List, [], length, Some, None, Option, vec_items}
use Rattle.utf8.specs.Room.{overlay}
use Rattle.player.specs.declared.rooms.Room.{Room}
use Rattle.player.specs.declared.usual.Usual.{Usual}
use Rattle.player.specs.declared.rooms.Last.{Last}
use Rattle.player.specs.declared.rooms.Last.TheVariants.{Usual as TheUsual, Asked as AskedFor}
use Rattle.player.specs.declared.rooms.Rooms.{Rooms}
use Rattle.player.specs.Untouched.{untouched, usual_size}

-- every byte of the room that the last fetch had, or none before the first
abbrev pub shown_of : Option Last → Usual → List ℕ
shown_of None usual = []
shown_of (Some TheUsual) usual = vec_items usual.bytes
shown_of (Some (AskedFor room)) usual = vec_items room.bytes

abbrev pub last_room : Rooms → List ℕ
last_room x = shown_of x.last x.usual

-- the bytes of the next fetch's room, which is the usual one if none was asked for, and its filled
-- count
abbrev pub next_bytes : Option Room → List ℕ
next_bytes None = untouched usual_size
next_bytes (Some room) = vec_items room.bytes

abbrev pub next_filled : Option Room → ℕ
next_filled None = 0
next_filled (Some room) = room.filled

-- no room was asked for, and none was shown yet
pub record AreNewRooms (x : Rooms) : Type 0 where
  pub next : x.next ≡ None
  pub last : x.last ≡ None
  pub bytes : vec_items x.usual.bytes ≡ untouched usual_size
  pub filled : x.usual.filled ≡ 0

-- the next fetch has a room of that size, untouched, and that filled count; the rest stays
pub record Asked (size filled : ℕ) (x y : Rooms) : Type 0 where
  pub room : Room
  pub next : y.next ≡ Some room
  pub bytes : vec_items room.bytes ≡ untouched size
  pub count : room.filled ≡ filled
  pub usual : y.usual ≡ x.usual
  pub last : y.last ≡ x.last

-- a fetch left its room so, which is the last from then on, and no room is asked for any more
pub record IsLastRoom (left : List ℕ) (y : Rooms) : Type 0 where
  pub last : last_room y ≡ left
  pub next : y.next ≡ None

-- Bytes are written from the filled count on, as many as there is room for; all others stay.
pub record Lays (room : List ℕ) (filled : ℕ) (left : List ℕ) (next : ℕ) : Type 0 where
  pub bytes : List ℕ
  pub lies : left ≡ overlay room filled bytes
  pub fills : next ≡ filled + length bytes
  pub fits : next ≤ max filled (length room)
