-- Promise: how a door in memory answers, and which of its calls fail.
use Rattle.std.specs.Prelude.{ℕ, ◌+◌, Bool, true, false, not, ◌||◌, nat_lt, if◌then◌else◌, List, [], ◌∷◌, ◌++◌, length, drop, All, map, Option, None, Some}
use Rattle.std.specs.Option.{option_map}
use Rattle.edge_io.specs.declared.content.Room.{Room}
use Rattle.edge_io.specs.DialersInMemory.{total_of}
use Rattle.edge_io.specs.Doors.{IsNewStream, ToldDoor, closed_of}
use Rattle.edge_io.specs.Outside.{counted}
use Rattle.edge_io.specs.Rooms.{Calls, after_call, fails_next, has_room, room_after}
use Rattle.edge_io.specs.StreamsInMemory.{StreamInMemory, told_of_stream}

-- each of the streams is new
abbrev pub AreNewStreams : List StreamInMemory → Type 0
AreNewStreams streams = All (λ stream. IsNewStream (told_of_stream stream)) streams

-- the addresses of the binds while there is room for them, and the room that is left
pub record Binding : Type 0 where
  pub list : Option (List (List ℕ))
  pub left : Room

-- after one more bind, for whose address there is room or the list isn't told any more
abbrev pub after_binding : Binding → List ℕ → Binding
after_binding binding address =
    if not (has_room binding.left (length address)) then record binding { list = None }
    else record { list = option_map (λ addresses. addresses ++ address ∷ []) binding.list; left = room_after binding.left (length address) }

-- a door in memory: whether it listens, the streams of its next accepts, the addresses of its binds, its calls by their
-- number, how many accepts gave a stream, the streams that were closed and the most of them that are kept, whether all
-- were kept, and its own counts
pub record DoorInMemory : Type 0 where
  pub listens : Bool
  pub streams : List StreamInMemory
  pub binding : Binding
  pub binds : Calls
  pub accepts : Calls
  pub accepted : ℕ
  pub closed : List StreamInMemory
  pub most : ℕ
  pub is_whole : Bool
  pub refused : ℕ
  pub faults : ℕ
  pub idles : ℕ

-- what a door in memory tells; the counts of the streams that were closed are in its counts
abbrev pub told_of_door : DoorInMemory → ToldDoor
told_of_door door = record {
  listens = door.listens;
  asked = door.binding.list;
  accepted = Some door.accepted;
  closed = if door.is_whole then Some (map (λ stream. closed_of (told_of_stream stream)) door.closed) else None;
  refused = door.refused;
  faults = door.faults + total_of (λ stream. stream.faults) door.closed;
  idles = door.idles + total_of (λ stream. stream.idles) door.closed;
}

-- a door in memory before its first call
abbrev pub new_door : List StreamInMemory → Room → List ℕ → List ℕ → DoorInMemory
new_door streams room binds accepts = record {
  listens = false;
  streams = streams;
  binding = record { list = Some []; left = room };
  binds = record { fails = binds; made = 0 };
  accepts = record { fails = accepts; made = 0 };
  accepted = 0;
  closed = [];
  most = length streams;
  is_whole = true;
  refused = 0;
  faults = 0;
  idles = 0;
}

-- the door after a call that it refused
abbrev pub after_refusal : DoorInMemory → DoorInMemory
after_refusal door = record door { refused = counted door.refused; faults = counted door.faults }

-- the door after a bind to this address, which fails where its number is to fail
abbrev pub after_bind : DoorInMemory → List ℕ → DoorInMemory
after_bind door address =
    let called = record door { binds = after_call door.binds; binding = after_binding door.binding address } in
    if fails_next door.binds then after_refusal called else record called { listens = true }

-- the next accept fails: its number is to fail, or there is no stream any more
abbrev pub accept_fails : DoorInMemory → Bool
accept_fails door = fails_next door.accepts || not (nat_lt 0 (length door.streams))

-- the door after an accept, which takes the stream of its number
abbrev pub after_accept : DoorInMemory → DoorInMemory
after_accept door =
    let called = record door { streams = drop 1 door.streams; accepts = after_call door.accepts } in
    if accept_fails door then after_refusal called else record called { accepted = door.accepted + 1 }

-- the door after this stream was closed; where there is no room for it, both counts go up
abbrev pub after_close : DoorInMemory → StreamInMemory → DoorInMemory
after_close door stream =
    if nat_lt (length door.closed) door.most then record door { closed = door.closed ++ stream ∷ [] }
    else record door { is_whole = false; faults = counted door.faults; idles = counted door.idles }
