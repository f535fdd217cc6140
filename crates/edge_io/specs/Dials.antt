-- Promise: what a dialer tells, and what its calls may change of it.
use Rattle.std.specs.Prelude.{◌≡◌, ℕ, ◌+◌, ◌≤◌, List, length, Option, None, Some, IfSome, Result, Ok, Err}
use Rattle.std.specs.Option.{option_map_or}
use Rattle.edge_io.specs.declared.act.Act.{Act}
use Rattle.edge_io.specs.declared.dialer.DialError.{DialError}
use Rattle.edge_io.specs.Links.{ToldLink}
use Rattle.edge_io.specs.Outside.{Rose}

-- a dial: its address, its tick, and why it gave no link, where it gave none
pub record Dial : Type 0 where
  pub address : List ℕ
  pub tick : ℕ
  pub refused : Option DialError

-- a link that was hung up: its acts, where it kept them, and how many faults and idle answers it had
pub record HungUp : Type 0 where
  pub acts : Option (List Act)
  pub faults : ℕ
  pub idles : ℕ

-- what a dialer tells: the dials, how many of them gave a link, and the links that were hung up, where they are told,
-- and how many faults and idle answers there were
pub record ToldDialer : Type 0 where
  pub asked : Option (List Dial)
  pub dialled : Option ℕ
  pub ended : Option (List HungUp)
  pub faults : ℕ
  pub idles : ℕ

-- no count of faults or of idle answers falls
pub record KeepsDialer (old new : ToldDialer) : Type 0 where
  pub faults : old.faults ≤ new.faults
  pub idles : old.idles ≤ new.idles

-- the count of the dialer's faults rose
pub record DialerFails (old new : ToldDialer) : Type 0 where
  pub rose : Rose old.faults new.faults

-- the count of the dialer's idle answers rose
pub record DialerIdles (old new : ToldDialer) : Type 0 where
  pub rose : Rose old.idles new.idles

-- a link whose counts are 0, that said nothing and, where it keeps its acts, has none
pub record IsNewLink (told : ToldLink) : Type 0 where
  pub acts : option_map_or length told.acts 0 ≡ 0
  pub said : length told.said ≡ 0
  pub faults : told.faults ≡ 0
  pub idles : told.idles ≡ 0

-- a dial and its answer
abbrev pub asked_of : {K : Type 0} → List ℕ → ℕ → Result K DialError → Dial
asked_of address tick (Ok link) = record { address = address; tick = tick; refused = None }
asked_of address tick (Err error) = record { address = address; tick = tick; refused = Some error }

-- what is told of a link that is hung up
abbrev pub hung_up_of : ToldLink → HungUp
hung_up_of told = record { acts = told.acts; faults = told.faults; idles = told.idles }

-- it was told before how many were hung up and how many were dialled, and with these and those the two are as many
abbrev pub HadBefore : ToldDialer → ℕ → ℕ → Type 0
HadBefore old ended dialled = (before : List HungUp) × (n : ℕ) × (old.ended ≡ Some before) × (old.dialled ≡ Some n) × (ended + n ≡ length before + dialled)

-- of the links that were dialled between two moments so many aren't hung up, where it is told how many were dialled and
-- which were hung up
pub record AreOpen (count : ℕ) (old new : ToldDialer) : Type 0 where
  pub as_many : IfSome new.ended (λ ended. IfSome new.dialled (λ dialled. HadBefore old (length ended + count) dialled))
