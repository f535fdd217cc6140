-- Private: what a part of the work did, over one stream or up to one session.
use Rattle.std.specs.Prelude.{◌≡◌, ℕ, ◌+◌, true, List, length, Option, Some, None, Result, Ok, Err, ◌⊎◌}
use Rattle.std.specs.Option.{option_map}
use Rattle.lts_base.specs.Alphabet.{Alphabet}
use Rattle.lts_base.specs.System.{System}
use Rattle.lts_base.specs.declared.memory.Memory.{Memory as NoMemory}
use Rattle.edge_io.specs.Doors.{Closed, DoorFails, DoorRefuses, KeepsDoor, ToldDoor}
use Rattle.edge_io.specs.Outside.{Grew, ToldSink, KeepsSink, SinkFails, AppendsTo, AppendsFrontTo}
use Rattle.sim_core.specs.declared.serving.Served.{Served}
use Rattle.sim_serve.specs.declared.serving.Halt.{Halt}
use Rattle.sim_serve.specs.declared.serving.Halt.TheVariants.{Door, Out, Memory}
use Rattle.sim_serve.specs.declared.status.SimStatus.{SimStatus}
use Rattle.sim_serve.specs.declared.status.SimStatus.TheVariants.{OutFault, DoorFault, Memory as MemoryStatus}
use Rattle.sim_serve.specs.Asked.{Asked}
use Rattle.sim_serve.specs.Serve.{IsToldOf, Scene}
use Rattle.sim_serve.specs.Sessions.{IsSession, Session}
use Rattle.sim_serve.specs.Told.{session_line}

-- this stream, which had been let in, was closed, and nothing else was asked of the door
pub record ClosesOne (old new : ToldDoor) (stream : Closed) : Type 0 where
  pub listens : new.listens ≡ old.listens
  pub asked : new.asked ≡ old.asked
  pub accepted : new.accepted ≡ old.accepted
  pub closed : Grew old.closed new.closed stream
  pub fails : (stream.faults ≡ 0) ⊎ DoorFails old new
  pub keeps : KeepsDoor old new

-- one stream was let in, and closed, of which this is told
pub record LetsOne (old new : ToldDoor) (stream : Closed) : Type 0 where
  pub listens : new.listens ≡ old.listens
  pub asked : new.asked ≡ old.asked
  pub accepted : new.accepted ≡ option_map (λ count. count + 1) old.accepted
  pub closed : Grew old.closed new.closed stream
  pub fails : (stream.faults ≡ 0) ⊎ DoorFails old new
  pub keeps : KeepsDoor old new

-- the door refused to let a stream in
pub record LetsNone (old new : ToldDoor) : Type 0 where
  pub asked : new.asked ≡ old.asked
  pub accepted : new.accepted ≡ old.accepted
  pub closed : new.closed ≡ old.closed
  pub refuses : DoorRefuses old new
  pub keeps : KeepsDoor old new

-- the session over a stream was served, or memory ran out; the stream was closed
abbrev pub IsOver : Alphabet → System → ℕ → ToldDoor → ToldDoor → Result Served NoMemory → Type 0
IsOver a s number old new (Ok served) = (stream : Closed) × IsSession a s number (record { served = served; closed = stream }) × ClosesOne old new stream
IsOver a s number old new (Err error) = (stream : Closed) × ClosesOne old new stream

-- the line of a session was written, or the output failed after a front of it, or there was no memory for it
abbrev pub IsTold : ℕ → Served → ToldSink → ToldSink → Option Halt → Type 0
IsTold place served before after None = AppendsTo before after (session_line place served) × KeepsSink before after
IsTold place served before after (Some Out) = SinkFails before after × AppendsFrontTo before after (session_line place served)
IsTold place served before after (Some Memory) = after ≡ before
IsTold place served before after (Some Door) = ⊥

-- a session was served over a stream of whose end this is known, and this came of telling it
pub record IsServedAndTold (a : Alphabet) (s : System) (number place : ℕ) (closes : Closed → Type 0) (before after : ToldSink) (halt : Option Halt) : Type 0 where
  pub session : Session
  pub is : IsSession a s number session
  pub closed : closes session.closed
  pub told : IsTold place session.served before after halt

-- memory ran out over a stream of whose end this is known
pub record IsGivenUp (closes : Closed → Type 0) (before after : ToldSink) (halt : Option Halt) : Type 0 where
  pub stream : Closed
  pub closed : closes stream
  pub same : after ≡ before
  pub halt_is : halt ≡ Some Memory

-- what came of a stream that was let in
abbrev pub IsTurn : Alphabet → System → ℕ → ℕ → (Closed → Type 0) → ToldSink → ToldSink → Option Halt → Type 0
IsTurn a s number place closes before after halt =
    IsServedAndTold a s number place closes before after halt ⊎ IsGivenUp closes before after halt

-- no stream was let in
pub record IsRefusedTurn (old new : ToldDoor) (before after : ToldSink) (halt : Option Halt) : Type 0 where
  pub none : LetsNone old new
  pub same : after ≡ before
  pub halt_is : halt ≡ Some Door

-- what came of asking the door for one more stream
abbrev pub IsNext : Alphabet → System → ℕ → ℕ → ToldDoor → ToldDoor → ToldSink → ToldSink → Option Halt → Type 0
IsNext a s number place old new before after halt =
    IsTurn a s number place (LetsOne old new) before after halt ⊎ IsRefusedTurn old new before after halt

-- the answer where no further session is served
abbrev pub halt_status : Halt → SimStatus
halt_status Door = DoorFault
halt_status Out = OutFault
halt_status Memory = MemoryStatus

-- so many sessions were served and told, and the door listens
pub record IsSoFar (asked : Asked) (a : Alphabet) (s : System) (x : Scene) (count : ℕ) : Type 0 where
  pub sessions : List Session
  pub count_is : length sessions ≡ count
  pub told : IsToldOf asked a s x sessions
  pub keeps : KeepsSink x.before x.after
  pub listens : x.new.listens ≡ true
