-- Promise: how a dialer in memory answers, and which of its dials fail.
use Rattle.std.specs.Prelude.{ℕ, ◌+◌, Bool, true, false, not, ◌||◌, nat_lt, if◌then◌else◌, List, [], ◌∷◌, ◌++◌, length, drop, All, map, Option, None, Some}
use Rattle.std.specs.Option.{option_map}
use Rattle.edge_io.specs.declared.content.Room.{Room}
use Rattle.edge_io.specs.declared.dialer.DialError.{DialError}
use Rattle.edge_io.specs.declared.dialer.DialError.TheVariants.{Failed}
use Rattle.edge_io.specs.Dials.{Dial, IsNewLink, ToldDialer, hung_up_of}
use Rattle.edge_io.specs.Links.{ToldLink}
use Rattle.edge_io.specs.Outside.{counted}
use Rattle.edge_io.specs.Rooms.{Calls, after_call, fails_next, has_room, room_after}

-- each of the links is new
abbrev pub AreNewLinks : {K : Type 0} → (K → ToldLink) → List K → Type 0
AreNewLinks told links = All (λ link. IsNewLink (told link)) links

-- the counts of these links together
abbrev pub total_of : {K : Type 0} → (K → ℕ) → List K → ℕ
total_of count [] = 0
total_of count (link ∷ links) = count link + total_of count links

-- the dials while there is room for them, and the room that is left
pub record Asking : Type 0 where
  pub list : Option (List Dial)
  pub left : Room

-- after one more dial, for which there is room or the list isn't told any more
abbrev pub after_asking : Asking → Dial → Asking
after_asking asking dial =
    if not (has_room asking.left (length dial.address)) then record asking { list = None }
    else record { list = option_map (λ dials. dials ++ dial ∷ []) asking.list; left = room_after asking.left (length dial.address) }

-- a dialer in memory: the links of its next dials, what was asked, its dials by their number, how many of them gave a
-- link, the links that were hung up and the most of them that are kept, whether all were kept, and its own counts
pub record DialerInMemory (K : Type 0) : Type 0 where
  pub links : List K
  pub asking : Asking
  pub dials : Calls
  pub dialled : ℕ
  pub ended : List K
  pub most : ℕ
  pub is_whole : Bool
  pub faults : ℕ
  pub idles : ℕ

-- what a dialer in memory tells; the counts of the links that were hung up are in its counts
abbrev pub told_of_dialer : {K : Type 0} → (K → ToldLink) → DialerInMemory K → ToldDialer
told_of_dialer told dialer = record {
  asked = dialer.asking.list;
  dialled = Some dialer.dialled;
  ended = if dialer.is_whole then Some (map (λ link. hung_up_of (told link)) dialer.ended) else None;
  faults = dialer.faults + total_of (λ link. (told link).faults) dialer.ended;
  idles = dialer.idles + total_of (λ link. (told link).idles) dialer.ended;
}

-- a dialer in memory before its first call
abbrev pub new_dialer : {K : Type 0} → List K → Room → List ℕ → DialerInMemory K
new_dialer links room fails = record {
  links = links;
  asking = record { list = Some []; left = room };
  dials = record { fails = fails; made = 0 };
  dialled = 0;
  ended = [];
  most = length links;
  is_whole = true;
  faults = 0;
  idles = 0;
}

-- the next dial fails: its number is to fail, or there is no link any more
abbrev pub dial_fails : {K : Type 0} → DialerInMemory K → Bool
dial_fails dialer = fails_next dialer.dials || not (nat_lt 0 (length dialer.links))

-- the dialer after a dial, which takes the link of its number
abbrev pub after_dial : {K : Type 0} → DialerInMemory K → List ℕ → ℕ → DialerInMemory K
after_dial dialer address tick =
    let called = record dialer { links = drop 1 dialer.links; dials = after_call dialer.dials } in
    let asked : Option DialError → Asking = λ refused. after_asking dialer.asking (record { address = address; tick = tick; refused = refused }) in
    if dial_fails dialer then record called { asking = asked (Some Failed); faults = counted dialer.faults }
    else record called { asking = asked None; dialled = dialer.dialled + 1 }

-- the dialer after this link was hung up; where there is no room for it, both counts go up
abbrev pub after_hang_up : {K : Type 0} → DialerInMemory K → K → DialerInMemory K
after_hang_up dialer link =
    if nat_lt (length dialer.ended) dialer.most then record dialer { ended = dialer.ended ++ link ∷ [] }
    else record dialer { is_whole = false; faults = counted dialer.faults; idles = counted dialer.idles }
