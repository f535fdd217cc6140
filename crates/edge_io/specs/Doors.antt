-- Promise: what a door tells at which streams come in, and what its calls may change of it.
use Rattle.std.specs.Prelude.{◌≡◌, ℕ, ◌≤◌, Bool, List, length, Option}
use Rattle.std.specs.Option.{option_map_or}
use Rattle.edge_io.specs.declared.content.Given.{Given}
use Rattle.edge_io.specs.Outside.{Rose}
use Rattle.edge_io.specs.Streams.{ToldStream}

-- a stream that was closed: the answers of its reads and all that was written, where it told them, and how many faults
-- and idle answers it had
pub record Closed : Type 0 where
  pub answers : Option (List Given)
  pub written : Option (List ℕ)
  pub faults : ℕ
  pub idles : ℕ

-- what a door tells: whether it listens; the addresses of its binds, how many accepts gave a stream, and the streams that
-- were closed, where they are told; and how many refusals, faults and idle answers there were
pub record ToldDoor : Type 0 where
  pub listens : Bool
  pub asked : Option (List (List ℕ))
  pub accepted : Option ℕ
  pub closed : Option (List Closed)
  pub refused : ℕ
  pub faults : ℕ
  pub idles : ℕ

-- no count of refusals, of faults or of idle answers falls
pub record KeepsDoor (old new : ToldDoor) : Type 0 where
  pub refused : old.refused ≤ new.refused
  pub faults : old.faults ≤ new.faults
  pub idles : old.idles ≤ new.idles

-- the counts of the door's refusals and faults rose
pub record DoorRefuses (old new : ToldDoor) : Type 0 where
  pub refused : Rose old.refused new.refused
  pub faults : Rose old.faults new.faults

-- the count of the door's faults rose
pub record DoorFails (old new : ToldDoor) : Type 0 where
  pub rose : Rose old.faults new.faults

-- the count of the door's idle answers rose
pub record DoorIdles (old new : ToldDoor) : Type 0 where
  pub rose : Rose old.idles new.idles

-- a stream whose counts are 0 and which, where it tells them, has no answers and nothing written
pub record IsNewStream (told : ToldStream) : Type 0 where
  pub answers : option_map_or length told.answers 0 ≡ 0
  pub written : option_map_or length told.written 0 ≡ 0
  pub faults : told.faults ≡ 0
  pub idles : told.idles ≡ 0

-- what is told of a stream that is closed
abbrev pub closed_of : ToldStream → Closed
closed_of told = record { answers = told.answers; written = told.written; faults = told.faults; idles = told.idles }
