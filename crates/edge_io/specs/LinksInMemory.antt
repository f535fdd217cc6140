-- Promise: how a link in memory answers, and which of its calls fail.
use Rattle.std.specs.Prelude.{◌≡◌, ℕ, ◌+◌, Bool, not, ◌||◌, nat_lt, if◌then◌else◌, List, [], ◌∷◌, ◌++◌, length, All, slice_index_or as get_or, None, Some}
use Rattle.edge_io.specs.declared.act.Act.{Act}
use Rattle.edge_io.specs.declared.act.Act.TheVariants.{Looked, Listened, Gave}
use Rattle.edge_io.specs.declared.act.Heard.{Heard}
use Rattle.edge_io.specs.declared.act.Heard.TheVariants.{End}
use Rattle.edge_io.specs.declared.content.Reply.{Reply}
use Rattle.edge_io.specs.declared.content.Room.{Room}
use Rattle.edge_io.specs.Links.{IsSaid, ToldLink, is_idle}
use Rattle.edge_io.specs.Outside.{counted}
use Rattle.edge_io.specs.Rooms.{Calls, after_call, fails_next, has_room, room_after}

-- the texts of these answers are as those of any link
abbrev pub AreReplies : List Reply → Type 0
AreReplies replies = All (λ reply. IsSaid reply.heard reply.text) replies

-- what a link in memory holds: its answers, and how many of them were given
pub record Replying : Type 0 where
  pub replies : List Reply
  pub given : ℕ

abbrev pub replying : List Reply → ℕ → Replying
replying replies given = record { replies = replies; given = given }

-- the next answer; after the last one it is the end
abbrev pub next_reply : Replying → Reply
next_reply s = get_or s.replies s.given (record { heard = End; text = [] })

-- what is held when the next answer was given
abbrev pub after_reply : Replying → Replying
after_reply s = record s { given = if nat_lt s.given (length s.replies) then s.given + 1 else s.given }

-- what is held, and the text that is said
pub record Speaking : Type 0 where
  pub held : Replying
  pub said : List ℕ

abbrev pub speaking : Replying → List ℕ → Speaking
speaking held said = record { held = held; said = said }

-- an act leads from one state to another: a look and a hearing meet the next answer, and each text may be sent
abbrev pub GivesReply : Replying → Act → Replying → Type 0
GivesReply s (Looked heard text) t = (next_reply s ≡ record { heard = heard; text = text }) × (t ≡ after_reply s)
GivesReply s (Listened heard text) t = (next_reply s ≡ record { heard = heard; text = text }) × (t ≡ after_reply s)
GivesReply s (Gave text) t = t ≡ s

-- a link in memory: what it holds, its acts, the text of its last answer, the room for acts that is left, its calls, and
-- how many faults and idle answers there were
pub record LinkInMemory : Type 0 where
  pub held : Replying
  pub acts : List Act
  pub said : List ℕ
  pub left : Room
  pub looks : Calls
  pub hears : Calls
  pub sends : Calls
  pub faults : ℕ
  pub idles : ℕ

-- what a link in memory tells
abbrev pub told_in_memory : LinkInMemory → ToldLink
told_in_memory link = record { acts = Some link.acts; said = link.said; faults = link.faults; idles = link.idles }

-- a link in memory before its first call
abbrev pub new_link : List Reply → Room → List ℕ → List ℕ → List ℕ → LinkInMemory
new_link replies room looks hears sends = record {
  held = replying replies 0;
  acts = [];
  said = [];
  left = room;
  looks = record { fails = looks; made = 0 };
  hears = record { fails = hears; made = 0 };
  sends = record { fails = sends; made = 0 };
  faults = 0;
  idles = 0;
}

-- there is no room for an act of so many bytes
abbrev pub lacks_room : LinkInMemory → ℕ → Bool
lacks_room link bytes = not (has_room link.left bytes)

-- a look or a hearing, which were so many calls before, fails: its number is to fail, or there is no room for its act
abbrev pub answer_fails : LinkInMemory → Calls → Bool
answer_fails link calls = fails_next calls || lacks_room link (length (next_reply link.held).text)

-- sending a text of so many bytes fails: its number is to fail, or there is no room for its act
abbrev pub send_fails : LinkInMemory → ℕ → Bool
send_fails link bytes = fails_next link.sends || lacks_room link bytes

-- the link after a call that failed
abbrev pub after_fault : LinkInMemory → LinkInMemory
after_fault link = record link { said = []; faults = counted link.faults }

-- the link after its next answer, which makes this act
abbrev pub with_answer : LinkInMemory → Reply → Act → LinkInMemory
with_answer link reply act = record link {
  held = after_reply link.held;
  acts = link.acts ++ act ∷ [];
  said = reply.text;
  left = room_after link.left (length reply.text);
  idles = if is_idle reply.heard then counted link.idles else link.idles;
}

-- the link after a call that is to fail or else gives the next answer, which makes an act
abbrev pub after_answer : LinkInMemory → Bool → (Heard → List ℕ → Act) → LinkInMemory
after_answer link fails act =
    let reply = next_reply link.held in
    if fails || lacks_room link (length reply.text) then after_fault link else with_answer link reply (act reply.heard reply.text)

abbrev pub after_look : LinkInMemory → LinkInMemory
after_look link = after_answer (record link { looks = after_call link.looks }) (fails_next link.looks) Looked

abbrev pub after_hear : LinkInMemory → LinkInMemory
after_hear link = after_answer (record link { hears = after_call link.hears }) (fails_next link.hears) Listened

-- the link after this text was sent
abbrev pub with_sent : LinkInMemory → List ℕ → LinkInMemory
with_sent link text = record link { acts = link.acts ++ Gave text ∷ []; said = []; left = room_after link.left (length text) }

-- the link after a text was to be sent
abbrev pub after_send : LinkInMemory → List ℕ → LinkInMemory
after_send link text =
    let called = record link { sends = after_call link.sends } in
    if send_fails link (length text) then after_fault called else with_sent called text

-- a link in memory that never fails: what it holds, the text of its last answer, and how many idle answers there were
pub record SureLinkInMemory : Type 0 where
  pub held : Replying
  pub said : List ℕ
  pub idles : ℕ

-- it keeps no acts
abbrev pub sure_link_told : SureLinkInMemory → ToldLink
sure_link_told link = record { acts = None; said = link.said; faults = 0; idles = link.idles }

-- the link after its next answer
abbrev pub after_sure_answer : SureLinkInMemory → SureLinkInMemory
after_sure_answer link =
    let reply = next_reply link.held in
    record { held = after_reply link.held; said = reply.text; idles = if is_idle reply.heard then counted link.idles else link.idles }
