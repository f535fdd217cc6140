-- Promise: how a stream in memory answers, and which of its calls fail.
use Rattle.std.specs.Prelude.{ℕ, ◌+◌, ◌-◌, ◌<◌, ⊤, Bool, not, ◌||◌, nat_lt, if◌then◌else◌, List, [], ◌∷◌, ◌++◌, length, take, drop, All, slice_index_or as get_or, Some}
use Rattle.edge_io.specs.declared.content.Given.{Given}
use Rattle.edge_io.specs.declared.content.Given.TheVariants.{Bytes, Idle, End}
use Rattle.edge_io.specs.declared.content.Room.{Room}
use Rattle.edge_io.specs.Outside.{counted}
use Rattle.edge_io.specs.Rooms.{Calls, after_call, fails_next, has_room, room_after}
use Rattle.edge_io.specs.Streams.{ToldStream}

-- the bytes of an answer
abbrev pub bytes_of : Given → List ℕ
bytes_of (Bytes text) = text
bytes_of Idle = []
bytes_of End = []

-- an answer of bytes has one at least
abbrev pub HasBytes : Given → Type 0
HasBytes (Bytes text) = 0 < length text
HasBytes Idle = ⊤
HasBytes End = ⊤

abbrev pub AreGivens : List Given → Type 0
AreGivens givens = All HasBytes givens

-- what a stream in memory holds: its answers, how many of them were given whole, and how many bytes of the one after them
pub record Giving : Type 0 where
  pub givens : List Given
  pub given : ℕ
  pub part : ℕ

abbrev pub giving : List Given → ℕ → ℕ → Giving
giving givens given part = record { givens = givens; given = given; part = part }

-- the answer that is given next, as a whole; after the last one it is the end
abbrev pub next_given : Giving → Given
next_given s = get_or s.givens s.given End

-- what a buffer of this size gets of an answer, of which so many bytes were given before
abbrev pub part_given : Given → ℕ → ℕ → Given
part_given (Bytes text) part size = Bytes (take size (drop part text))
part_given Idle part size = Idle
part_given End part size = End

-- what a read into a buffer of this size answers
abbrev pub next_answer : Giving → ℕ → Given
next_answer s size = part_given (next_given s) s.part size

-- what is held after so many bytes of the next answer were given: the rest of it is left, where there is one
abbrev pub after_given : Giving → ℕ → Giving
after_given s bytes =
    if nat_lt (s.part + bytes) (length (bytes_of (next_given s))) then record s { part = s.part + bytes }
    else giving s.givens (if nat_lt s.given (length s.givens) then s.given + 1 else s.given) 0

-- a stream in memory: what it holds, its answers so far, the room for them that is left, what was written, the room for
-- it that is left, its calls, and how many faults and idle answers there were
pub record StreamInMemory : Type 0 where
  pub held : Giving
  pub answers : List Given
  pub left : Room
  pub written : List ℕ
  pub write_left : ℕ
  pub reads : Calls
  pub writes : Calls
  pub faults : ℕ
  pub idles : ℕ

-- what a stream in memory tells
abbrev pub told_of_stream : StreamInMemory → ToldStream
told_of_stream stream = record { answers = Some stream.answers; written = Some stream.written; faults = stream.faults; idles = stream.idles }

-- a stream in memory before its first call
abbrev pub new_stream : List Given → Room → ℕ → List ℕ → List ℕ → StreamInMemory
new_stream givens room write_room reads writes = record {
  held = giving givens 0 0;
  answers = [];
  left = room;
  written = [];
  write_left = write_room;
  reads = record { fails = reads; made = 0 };
  writes = record { fails = writes; made = 0 };
  faults = 0;
  idles = 0;
}

-- a read into a buffer of this size fails: its number is to fail, or there is no room for its answer
abbrev pub read_fails : StreamInMemory → ℕ → Bool
read_fails stream size = fails_next stream.reads || not (has_room stream.left (length (bytes_of (next_answer stream.held size))))

-- a write of so many bytes fails: its number is to fail, or there is no room for them
abbrev pub write_fails : StreamInMemory → ℕ → Bool
write_fails stream bytes = fails_next stream.writes || nat_lt stream.write_left bytes

-- how many idle answers there are with this one
abbrev pub idles_with : Given → ℕ → ℕ
idles_with (Bytes text) idles = idles
idles_with Idle idles = counted idles
idles_with End idles = idles

-- the stream after this answer of a read
abbrev pub with_answer : StreamInMemory → Given → StreamInMemory
with_answer stream answer =
    let bytes = length (bytes_of answer) in
    record stream {
      held = after_given stream.held bytes;
      answers = stream.answers ++ answer ∷ [];
      left = room_after stream.left bytes;
      idles = idles_with answer stream.idles;
    }

-- the stream after a read into a buffer of this size
abbrev pub after_read : StreamInMemory → ℕ → StreamInMemory
after_read stream size =
    let called = record stream { reads = after_call stream.reads } in
    if read_fails stream size then record called { faults = counted stream.faults } else with_answer called (next_answer stream.held size)

-- the stream after these bytes were to be written
abbrev pub after_write : StreamInMemory → List ℕ → StreamInMemory
after_write stream piece =
    let called = record stream { writes = after_call stream.writes } in
    if write_fails stream (length piece) then record called { faults = counted stream.faults }
    else record called { written = stream.written ++ piece; write_left = stream.write_left - length piece }
