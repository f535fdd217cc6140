-- Promise: which calls of an object in memory are to fail, and the room that it has.
use Rattle.std.specs.Prelude.{ℕ, ◌-◌, Bool, not, ◌&&◌, nat_lt, List}
use Rattle.edge_io.specs.declared.content.Room.{Room}
use Rattle.edge_io.specs.InMemory.{is_chosen}
use Rattle.edge_io.specs.Outside.{counted}

-- the calls of one method: the numbers of those that are to fail, and how many there were
pub record Calls : Type 0 where
  pub fails : List ℕ
  pub made : ℕ

-- the next call is to fail, by its number
abbrev pub fails_next : Calls → Bool
fails_next calls = is_chosen calls.fails calls.made

-- the calls after one more
abbrev pub after_call : Calls → Calls
after_call calls = record calls { made = counted calls.made }

-- the room that is left has place for one more entry, of so many bytes
abbrev pub has_room : Room → ℕ → Bool
has_room room bytes = nat_lt 0 room.entries && not (nat_lt room.bytes bytes)

-- the room that is left after one more entry, of so many bytes
abbrev pub room_after : Room → ℕ → Room
room_after room bytes = record { entries = room.entries - 1; bytes = room.bytes - bytes }
