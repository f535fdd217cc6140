-- Promise: which event a session may be told.
use Rattle.std.specs.Prelude.{◌≡◌, ℕ, ◌+◌, List}
use Rattle.edge_io.specs.declared.act.TheConstants.{MOST_HEARD_BYTES}
use Rattle.edge_io.specs.Links.{IsWithinLine}
use Rattle.session_core.specs.declared.event.Event.{Event}
use Rattle.session_core.specs.declared.event.Event.TheVariants.{Choice as EventChoice, Line as EventLine, Idle as EventIdle, IdleMid as EventMid, TooLong as EventLong, End as EventEnd, Sent as EventSent}
use Rattle.session_core.specs.declared.event.Action.{Action}
use Rattle.session_core.specs.declared.event.Action.TheVariants.{Ask as ActionAsk, Look as ActionLook, Send as ActionSend, Hear as ActionHear, Done as ActionDone}
use Rattle.session_core.specs.declared.phase.Phase.{Phase}
use Rattle.session_core.specs.declared.phase.Phase.TheVariants.{Ask, Look, Send, Hear, Done}
use Rattle.session_core.specs.Told.{Told, Chosen, Line, Idle, IdleMid, TooLong, End, Sent}

-- the event as plain data
abbrev pub told : Event → Told
told (EventChoice c) = Chosen c
told (EventLine text) = Line text.now
told EventIdle = Idle
told (EventMid text) = IdleMid text.now
told (EventLong text) = TooLong text.now
told (EventEnd text) = End text.now
told EventSent = Sent

-- what the phase waits for
abbrev pub action_of : Phase → Action
action_of Ask = ActionAsk
action_of (Look a) = ActionLook
action_of (Send a) = ActionSend a
action_of Hear = ActionHear
action_of (Done v) = ActionDone v

-- the phase waits for an event of this kind
abbrev pub CanCome : Phase → Told → Type 0
CanCome Ask (Chosen c) = Unit {0}
CanCome (Look a) (Line text) = Unit {0}
CanCome (Look a) Idle = Unit {0}
CanCome (Look a) (IdleMid text) = Unit {0}
CanCome (Look a) (TooLong text) = Unit {0}
CanCome (Look a) (End text) = Unit {0}
CanCome (Send a) Sent = Unit {0}
CanCome Hear (Line text) = Unit {0}
CanCome Hear Idle = Unit {0}
CanCome Hear (IdleMid text) = Unit {0}
CanCome Hear (TooLong text) = Unit {0}
CanCome Hear (End text) = Unit {0}
CanCome other event = ⊥

-- the text of the event, if it has one, has no LF, and at most as many bytes as a line, or one more where it is too long
abbrev pub HasText : Told → Type 0
HasText (Chosen c) = Unit {0}
HasText (Line text) = IsWithinLine MOST_HEARD_BYTES text
HasText Idle = Unit {0}
HasText (IdleMid text) = IsWithinLine MOST_HEARD_BYTES text
HasText (TooLong text) = IsWithinLine (MOST_HEARD_BYTES + 1) text
HasText (End text) = IsWithinLine MOST_HEARD_BYTES text
HasText Sent = Unit {0}

-- the event fits
abbrev pub Fits : Phase → Told → Type 0
Fits p event = CanCome p event × HasText event
