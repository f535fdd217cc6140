-- Promise: what the simulated implementation answers and prints, by its words, its file, and the streams that come in at its door.
use Rattle.std.specs.Prelude.{◌≡◌, ℕ, ◌+◌, ◌<◌, List, [], ◌∷◌, ◌++◌, length, take, ◌⊎◌}
use Rattle.lts_base.specs.Alphabet.{Alphabet}
use Rattle.lts_base.specs.System.{System}
use Rattle.edge_io.specs.Doors.{Closed, DoorRefuses, ToldDoor}
use Rattle.edge_io.specs.Outside.{ToldFiles, ToldSink, SinkFails, AppendsTo, AppendsFrontTo}
use Rattle.torx_words.specs.declared.kind.UsageKind.TheVariants.{Words}
use Rattle.tool_base.specs.declared.refusal.Stop.TheVariants.{Usage as BadWords}
use Rattle.tool_base.specs.declared.report.Report.{Report}
use Rattle.sim_serve.specs.declared.status.SimStatus.{SimStatus}
use Rattle.sim_serve.specs.declared.status.SimStatus.TheVariants.{Served, OutFault, DoorFault, Memory}
use Rattle.sim_serve.specs.Asked.{Asked, AsksFor, IsNoRequest}
use Rattle.sim_serve.specs.Loaded.{IsImp, IsNoImp}
use Rattle.sim_serve.specs.Report.{IsOrNoMemory, IsWritten, stop_report}
use Rattle.sim_serve.specs.Sessions.{AreSessions, Lets, Serves, Session, all_served, streams_of}
use Rattle.sim_serve.specs.Told.{listening_text, served_text, session_line}

-- what a door and the output tell before and after
pub record Scene : Type 0 where
  pub old : ToldDoor
  pub new : ToldDoor
  pub before : ToldSink
  pub after : ToldSink

abbrev pub scene : ToldDoor → ToldDoor → ToldSink → ToldSink → Scene
scene old new before after = record { old = old; new = new; before = before; after = after }

-- no session: the door isn't asked for anything, and a report is written for which there is this cause
pub record IsTurnedDown (cause : Report SimStatus → Type 0) (x : Scene) (status : SimStatus) : Type 0 where
  pub report : Report SimStatus
  pub why : cause report
  pub same : x.new ≡ x.old
  pub written : IsWritten report x.before x.after status

-- these sessions were served, and each of them was told
pub record IsToldOf (asked : Asked) (a : Alphabet) (s : System) (x : Scene) (sessions : List Session) : Type 0 where
  pub serves : Serves asked a s x.old x.new sessions
  pub written : AppendsTo x.before x.after (served_text (all_served sessions))

-- all sessions that are asked for were served and told
pub record IsAllServed (asked : Asked) (a : Alphabet) (s : System) (x : Scene) : Type 0 where
  pub sessions : List Session
  pub all : length sessions ≡ asked.sessions
  pub told : IsToldOf asked a s x sessions

-- the door refused to listen at the address: no stream came in, and nothing is written
pub record IsUnbound (asked : Asked) (x : Scene) : Type 0 where
  pub lets : Lets asked.address x.old x.new []
  pub refuses : DoorRefuses x.old x.new
  pub written : AppendsTo x.before x.after []

-- the door refused to let a further stream in: fewer sessions were served than are asked for
pub record IsShut (asked : Asked) (a : Alphabet) (s : System) (x : Scene) : Type 0 where
  pub sessions : List Session
  pub fewer : length sessions < asked.sessions
  pub told : IsToldOf asked a s x sessions
  pub refuses : DoorRefuses x.old x.new

-- the output failed before any stream was let in
pub record IsUnheard (asked : Asked) (x : Scene) : Type 0 where
  pub lets : Lets asked.address x.old x.new []
  pub fails : SinkFails x.before x.after
  pub front : AppendsFrontTo x.before x.after listening_text

-- the output failed within the line of the last session: no stream was let in after it
pub record IsCut (asked : Asked) (a : Alphabet) (s : System) (x : Scene) : Type 0 where
  pub earlier : List Session
  pub last : Session
  pub serves : Serves asked a s x.old x.new (earlier ++ last ∷ [])
  pub fails : SinkFails x.before x.after
  pub count : ℕ
  pub front : AppendsTo x.before x.after (served_text (all_served earlier) ++ take count (session_line (length earlier + 1) last.served))

-- memory ran out over a stream that was let in: it was closed, and nothing is written of it
pub record IsOutOfMemory (asked : Asked) (a : Alphabet) (s : System) (x : Scene) : Type 0 where
  pub sessions : List Session
  pub stream : Closed
  pub fewer : length sessions < asked.sessions
  pub are : AreSessions a s asked.number sessions
  pub lets : Lets asked.address x.old x.new (streams_of sessions ++ stream ∷ [])
  pub written : AppendsTo x.before x.after (served_text (all_served sessions))

-- what came of the sessions that are asked for
abbrev pub IsOpened : Asked → Alphabet → System → Scene → SimStatus → Type 0
IsOpened asked a s x Served = IsAllServed asked a s x
IsOpened asked a s x DoorFault = IsUnbound asked x ⊎ IsShut asked a s x
IsOpened asked a s x OutFault = IsUnheard asked x ⊎ IsCut asked a s x
IsOpened asked a s x Memory = IsOutOfMemory asked a s x
IsOpened asked a s x other = ⊥

-- the words are refused, or there was no memory to say so
abbrev pub IsRefusedWords : Report SimStatus → Type 0
IsRefusedWords report = IsOrNoMemory (stop_report (BadWords Words)) report

-- for words that ask for this: there is no system that can be served, or it was served
abbrev pub IsServedFor : Asked → ToldFiles → ToldFiles → Scene → SimStatus → Type 0
IsServedFor asked old new x status = IsTurnedDown (IsNoImp old new asked.imp) x status ⊎
    ((a : Alphabet) × (s : System) × IsImp old.content asked.imp a s × IsOpened asked a s x status)

-- the words ask for nothing, or for this
abbrev pub IsServed : List (List ℕ) → ToldFiles → ToldFiles → Scene → SimStatus → Type 0
IsServed words old new x status = (IsNoRequest words × IsTurnedDown IsRefusedWords x status) ⊎
    ((asked : Asked) × AsksFor words asked × IsServedFor asked old new x status)
