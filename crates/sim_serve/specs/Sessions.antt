-- Promise: sessions that a simulated implementation serves one after the other, and what a door tells of them.
use Rattle.std.specs.Prelude.{◌≡◌, ℕ, ◌+◌, ◌%◌, ◌^◌, ◌<◌, ◌≤◌, Bool, false, List, [], ◌∷◌, length, map, All, Option, slice_index_or as get_or, ◌⊎◌}
use Rattle.std.specs.Option.{option_map}
use Rattle.lts_base.specs.Alphabet.{Alphabet}
use Rattle.lts_base.specs.System.{System}
use Rattle.edge_io.specs.Doors.{Closed, DoorFails, IsNewStream, KeepsDoor, ToldDoor, closed_of}
use Rattle.edge_io.specs.Outside.{Grew}
use Rattle.edge_io.specs.Streams.{ToldStream}
use Rattle.line_link.specs.Hearing.{pending}
use Rattle.rand_core.specs.Pcg32Seed.{pcg32_seed}
use Rattle.rand_pcg.specs.Lcg.{Lcg}
use Rattle.rand_pcg.specs.Pcg.{pcg32, pcg32_of_seed}
use Rattle.sim_core.specs.declared.serving.Served.{Served}
use Rattle.sim_core.specs.Served.{IsFault}
use Rattle.sim_core.specs.Session.{IsSessionServed}
use Rattle.sim_serve.specs.declared.limits.TheConstants.{MOST_TURNS}
use Rattle.sim_serve.specs.Asked.{Asked, AsksFor}

-- the generator of this number
abbrev pub generator : ℕ → Lcg
generator number = pcg32_of_seed (pcg32_seed 16 number)

-- the number of the generator of the session at this place, counted from 0; after the last number comes 0
abbrev pub number_at : ℕ → ℕ → ℕ
number_at number place = (number + place) % 2 ^ 64

-- a session: what was served, and what is told of its stream, which was closed
pub record Session : Type 0 where
  pub served : Served
  pub closed : Closed

-- a simulation of the system by the generator of this number served the session over a new stream, by the stream's answers and with
-- what was written to it; where the session ended with a fault, the stream has one
pub record IsSession (a : Alphabet) (s : System) (number : ℕ) (session : Session) : Type 0 where
  pub begin : ToldStream
  pub end : ToldStream
  pub rest : List ℕ
  pub is_over : Bool
  pub new : IsNewStream begin
  pub serves : IsSessionServed pcg32 MOST_TURNS s a (generator number) (pending begin [] false) session.served (pending end rest is_over)
  pub closed_is : session.closed ≡ closed_of end
  pub fault : IsFault session.served.end → 0 < session.closed.faults

-- each of the sessions is one, by the generator of its own number
abbrev pub AreSessions : Alphabet → System → ℕ → List Session → Type 0
AreSessions a s number sessions = (place : ℕ) (d : Session) → place < length sessions → IsSession a s (number_at number place) (get_or sessions place d)

-- the list gained these items one after the other, as far as there was room for them
abbrev pub Gained : {X : Type 0} → Option (List X) → Option (List X) → List X → Type 0
Gained old new [] = new ≡ old
Gained {X} old new (item ∷ items) = (mid : Option (List X)) × Grew old mid item × Gained mid new items

-- as many streams were accepted as were closed, and these are they; where one has a fault, the count of the door's faults rose
pub record ClosesAll (old new : ToldDoor) (streams : List Closed) : Type 0 where
  pub accepted : new.accepted ≡ option_map (λ count. count + length streams) old.accepted
  pub closed : Gained old.closed new.closed streams
  pub faults : All (λ stream. (stream.faults ≡ 0) ⊎ DoorFails old new) streams

-- the door was bound once, to this address, and let these streams in
pub record Lets (address : List ℕ) (old new : ToldDoor) (streams : List Closed) : Type 0 where
  pub asked : Grew old.asked new.asked address
  pub closes : ClosesAll old new streams
  pub keeps : KeepsDoor old new

-- the streams of sessions
abbrev pub streams_of : List Session → List Closed
streams_of = map (λ (session : Session). session.closed)

-- what was served in sessions
abbrev pub all_served : List Session → List Served
all_served = map (λ (session : Session). session.served)

-- at the address that is asked for these sessions were served, one after the other, and no more streams were let in
pub record Serves (asked : Asked) (a : Alphabet) (s : System) (old new : ToldDoor) (sessions : List Session) : Type 0 where
  pub few : length sessions ≤ asked.sessions
  pub are : AreSessions a s asked.number sessions
  pub lets : Lets asked.address old new (streams_of sessions)

-- the words ask for this address; the door was bound to it once, and each stream that came in was closed
pub record IsLeftFor (words : List (List ℕ)) (old new : ToldDoor) : Type 0 where
  pub asked : Asked
  pub asks : AsksFor words asked
  pub streams : List Closed
  pub lets : Lets asked.address old new streams

-- on each way out the door is as before, or it was bound once to the address that is asked for, and each stream that it let in was
-- closed
abbrev pub IsLeft : List (List ℕ) → ToldDoor → ToldDoor → Type 0
IsLeft words old new = (new ≡ old) ⊎ IsLeftFor words old new
