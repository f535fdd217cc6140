-- Promise: what a stream of bytes tells, and what its calls may answer.
use Rattle.std.specs.Prelude.{ℕ, ◌<◌, ◌≤◌, ⊤, Bool, true, false, List, length, take, Option}
use Rattle.edge_io.specs.declared.content.Given.{Given}
use Rattle.edge_io.specs.declared.content.Given.TheVariants.{Bytes as GivenBytes, Idle as GivenIdle, End as GivenEnd}
use Rattle.edge_io.specs.declared.stream.Got.{Got}
use Rattle.edge_io.specs.declared.stream.Got.TheVariants.{Bytes, Idle, End}
use Rattle.edge_io.specs.Outside.{Rose}

-- what a stream tells: the answers of its reads that didn't fail, and all that was written, where they are told, and how
-- many faults and idle answers there were
pub record ToldStream : Type 0 where
  pub answers : Option (List Given)
  pub written : Option (List ℕ)
  pub faults : ℕ
  pub idles : ℕ

-- no count falls
pub record KeepsStream (old new : ToldStream) : Type 0 where
  pub faults : old.faults ≤ new.faults
  pub idles : old.idles ≤ new.idles

-- the count of the stream's faults rose
pub record StreamFails (old new : ToldStream) : Type 0 where
  pub rose : Rose old.faults new.faults

-- the count of the stream's idle answers rose
pub record StreamIdles (old new : ToldStream) : Type 0 where
  pub rose : Rose old.idles new.idles

-- what a read got into its buffer, with the bytes
abbrev pub answer_of : Got → List ℕ → Given
answer_of (Bytes n) buf = GivenBytes (take n buf)
answer_of Idle buf = GivenIdle
answer_of End buf = GivenEnd

-- bytes that were got are some, and the buffer has them
abbrev pub IsGot : Got → List ℕ → Type 0
IsGot (Bytes n) buf = (0 < n) × (n ≤ length buf)
IsGot Idle buf = ⊤
IsGot End buf = ⊤

-- nothing came for a tick
abbrev pub is_tick : Got → Bool
is_tick (Bytes n) = false
is_tick Idle = true
is_tick End = false
