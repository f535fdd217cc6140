-- How sessions that are served one after the other go on and end.
use Rattle.std.proofs.Common.{arith, ◌≡◌, ◌∙◌, ℕ, ◌+◌, ◌<◌, ◌≤◌, true, List, [], ◌∷◌, ◌++◌, length, None, Some, ◌⊎◌, inl, inr, refl, sym, ap, subst, get_or}
use Rattle.std.proofs.lemmas.List.{get_or_append_left, get_or_push, length_push, map_push}
use Rattle.std.proofs.lemmas.Bool.{cases_lt}
use Rattle.lts_base.specs.Alphabet.{Alphabet}
use Rattle.lts_base.specs.System.{System}
use Rattle.edge_io.specs.Doors.{Closed, KeepsDoor, ToldDoor}
use Rattle.edge_io.specs.Outside.{Grew, ToldSink, AppendsTo, KeepsSink}
use Rattle.edge_io.proofs.DoorLaws.{DoorRefuses-before}
use Rattle.edge_io.proofs.OutsideLaws.{AppendsTo-then, KeepsSink-then, SinkFails-before}
use Rattle.sim_serve.specs.declared.serving.Halt.{Halt}
use Rattle.sim_serve.specs.declared.serving.Halt.TheVariants.{Door, Out, Memory}
use Rattle.sim_serve.specs.Asked.{Asked}
use Rattle.sim_serve.specs.Serve.{IsAllServed, IsOpened, IsOutOfMemory, Scene, scene}
use Rattle.sim_serve.specs.Sessions.{AreSessions, IsSession, Serves, Session, all_served, number_at, streams_of}
use Rattle.sim_serve.specs.Told.{listening_text, served_text, session_line}
use Rattle.sim_serve.specs.Turn.{IsNext, IsServedAndTold, IsSoFar, LetsOne, halt_status}
use Rattle.sim_serve.proofs.LetLaws.{Lets-none, Lets-one, Lets-refused}
use Rattle.sim_serve.proofs.TextLaws.{text_push}

-- one session more
AreSessions-push : (a : Alphabet) (s : System) (number : ℕ) (sessions : List Session) (last : Session) → AreSessions a s number sessions → IsSession a s (number_at number (length sessions)) last →
    AreSessions a s number (sessions ++ last ∷ [])
AreSessions-push a s number sessions last are is place d below = go (cases_lt place (length sessions))
  where
    go : (place < length sessions) ⊎ (length sessions ≤ place) → IsSession a s (number_at number place) (get_or (sessions ++ last ∷ []) place d)
    go (inl before) = rw (get_or_append_left sessions (last ∷ []) d place before) (are place d before)
    go (inr after) =
        let count : length (sessions ++ last ∷ []) ≡ length sessions + 1 = length_push sessions last in
        let here : length sessions ≡ place = omega (arith, below, after, count) in
        rw (get_or_push sessions last d place here) (subst (λ (n : ℕ). IsSession a s (number_at number n) last) here is)

-- a session more is served at the address
serves_more : (asked : Asked) (a : Alphabet) (s : System) (old mid new : ToldDoor) (sessions : List Session) (last : Session) → Serves asked a s old mid sessions → length sessions < asked.sessions →
    IsSession a s (number_at asked.number (length sessions)) last → LetsOne mid new last.closed → Serves asked a s old new (sessions ++ last ∷ [])
serves_more asked a s old mid new sessions last serves below is one =
    let count : length (sessions ++ last ∷ []) ≡ length sessions + 1 = length_push sessions last in
    let streams : streams_of (sessions ++ last ∷ []) ≡ streams_of sessions ++ last.closed ∷ [] = map_push _ sessions last in
    record {
      few = omega (arith, count, below);
      are = AreSessions-push a s asked.number sessions last serves.are is;
      lets = rw streams (Lets-one asked.address old mid new (streams_of sessions) last.closed serves.lets one);
    }

-- the door listens, and that was told
pub sofar_none : (asked : Asked) (a : Alphabet) (s : System) (old new : ToldDoor) (before after : ToldSink) → Grew old.asked new.asked asked.address → new.accepted ≡ old.accepted → new.closed ≡ old.closed →
    KeepsDoor old new → new.listens ≡ true → AppendsTo before after listening_text → KeepsSink before after → IsSoFar asked a s (scene old new before after) 0
sofar_none asked a s old new before after binds accepted closed keeps listens written sink = record {
  sessions = [];
  count_is = refl;
  told = record {
    serves = record { few = omega arith; are = λ place d below. absurd (none place below); lets = Lets-none asked.address old new binds accepted closed keeps };
    written = written;
  };
  keeps = sink;
  listens = listens;
}
  where
    none : (place : ℕ) → ¬ (place < 0)
    none place below = omega (arith, below)

-- a session more was served and told
pub sofar_more : (asked : Asked) (a : Alphabet) (s : System) (old mid new : ToldDoor) (before between after : ToldSink) (count number : ℕ) → IsSoFar asked a s (scene old mid before between) count →
    count < asked.sessions → number ≡ number_at asked.number count → IsNext a s number (count + 1) mid new between after None → IsSoFar asked a s (scene old new before after) (count + 1)
sofar_more asked a s old mid new before between after count number far below is (inl (inl served)) =
    let sessions = far.sessions in
    let last = served.session in
    let here : number_at asked.number (length far.sessions) ≡ number = ap (number_at asked.number) far.count_is ∙ sym is in
    let line : session_line (length far.sessions + 1) served.session.served ≡ session_line (count + 1) served.session.served = ap (λ (n : ℕ). session_line (n + 1) served.session.served) far.count_is in
    record {
      sessions = far.sessions ++ served.session ∷ [];
      count_is = length_push far.sessions served.session ∙ ap {B = ℕ} (λ (n : ℕ). n + 1) far.count_is;
      told = record {
        serves = serves_more asked a s old mid new far.sessions served.session far.told.serves (rw far.count_is below) (rw here served.is) served.closed;
        written = rw (text_push far.sessions served.session, line) (AppendsTo-then far.told.written served.told.0);
      };
      keeps = KeepsSink-then far.keeps served.told.1;
      listens = served.closed.listens ∙ far.listens;
    }
sofar_more asked a s old mid new before between after count number far below is (inl (inr given)) = absurd (never given.halt_is)
  where
    never : ¬ (None ≡ Some Memory)
    never e = cc
sofar_more asked a s old mid new before between after count number far below is (inr refused) = absurd (never refused.halt_is)
  where
    never : ¬ (None ≡ Some Door)
    never e = cc

-- all sessions were served and told
pub sofar_all : (asked : Asked) (a : Alphabet) (s : System) (x : Scene) (count : ℕ) → IsSoFar asked a s x count → count ≡ asked.sessions → IsAllServed asked a s x
sofar_all asked a s x count far all = record { sessions = far.sessions; all = far.count_is ∙ all; told = far.told }

-- memory ran out over a stream that was let in
given_up : (asked : Asked) (a : Alphabet) (s : System) (old mid new : ToldDoor) (before between after : ToldSink) (count : ℕ) (stream : Closed) → IsSoFar asked a s (scene old mid before between) count →
    count < asked.sessions → LetsOne mid new stream → after ≡ between → IsOutOfMemory asked a s (scene old new before after)
given_up asked a s old mid new before between after count stream far below one same = record {
  sessions = far.sessions;
  stream = stream;
  fewer = rw far.count_is below;
  are = far.told.serves.are;
  lets = Lets-one asked.address old mid new (streams_of far.sessions) stream far.told.serves.lets one;
  written = subst (λ (t : ToldSink). AppendsTo before t (served_text (all_served far.sessions))) (sym same) far.told.written;
}

-- a session was served, but not told whole
untold : (asked : Asked) (a : Alphabet) (s : System) (old mid new : ToldDoor) (before between after : ToldSink) (count number : ℕ) (halt : Halt) → IsSoFar asked a s (scene old mid before between) count →
    count < asked.sessions → number ≡ number_at asked.number count → IsServedAndTold a s number (count + 1) (LetsOne mid new) between after (Some halt) →
    IsOpened asked a s (scene old new before after) (halt_status halt)
untold asked a s old mid new before between after count number Out far below is served =
    let here : number_at asked.number (length far.sessions) ≡ number = ap (number_at asked.number) far.count_is ∙ sym is in
    let line : session_line (length far.sessions + 1) served.session.served ≡ session_line (count + 1) served.session.served = ap (λ (n : ℕ). session_line (n + 1) served.session.served) far.count_is in
    inr (record {
      earlier = far.sessions;
      last = served.session;
      serves = serves_more asked a s old mid new far.sessions served.session far.told.serves (rw far.count_is below) (rw here served.is) served.closed;
      fails = SinkFails-before far.keeps served.told.0;
      count = served.told.1.0;
      front = rw line (AppendsTo-then far.told.written served.told.1.1);
    })
untold asked a s old mid new before between after count number Memory far below is served = given_up asked a s old mid new before between after count served.session.closed far below served.closed served.told
untold asked a s old mid new before between after count number Door far below is served = absurd served.told

-- no further session is served
pub sofar_halted : (asked : Asked) (a : Alphabet) (s : System) (old mid new : ToldDoor) (before between after : ToldSink) (count number : ℕ) (halt : Halt) → IsSoFar asked a s (scene old mid before between) count →
    count < asked.sessions → number ≡ number_at asked.number count → IsNext a s number (count + 1) mid new between after (Some halt) → IsOpened asked a s (scene old new before after) (halt_status halt)
sofar_halted asked a s old mid new before between after count number halt far below is (inl (inl served)) = untold asked a s old mid new before between after count number halt far below is served
sofar_halted asked a s old mid new before between after count number halt far below is (inl (inr given)) =
    let here : halt ≡ Memory = some_once given.halt_is in
    rw here (given_up asked a s old mid new before between after count given.stream far below given.closed given.same)
  where
    some_once : Some halt ≡ Some Memory → halt ≡ Memory
    some_once e = cc
sofar_halted asked a s old mid new before between after count number halt far below is (inr refused) =
    let here : halt ≡ Door = some_once refused.halt_is in
    rw here (inr (record {
      sessions = far.sessions;
      fewer = rw far.count_is below;
      told = record {
        serves = record { few = far.told.serves.few; are = far.told.serves.are; lets = Lets-refused asked.address old mid new (streams_of far.sessions) far.told.serves.lets refused.none };
        written = subst (λ (t : ToldSink). AppendsTo before t (served_text (all_served far.sessions))) (sym refused.same) far.told.written;
      };
      refuses = DoorRefuses-before far.told.serves.lets.keeps refused.none.refuses;
    }))
  where
    some_once : Some halt ≡ Some Door → halt ≡ Door
    some_once e = cc
