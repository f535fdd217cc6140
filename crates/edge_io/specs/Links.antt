-- Promise: what a link tells, and what its calls may answer.
-- An act is an answer of a look or of a hearing with its text, or a text that was sent.
use Rattle.std.specs.Prelude.{◌≡◌, ℕ, ◌+◌, ◌≤◌, Bool, true, false, List, [], ◌∷◌, length, Contains, Option}
use Rattle.edge_io.specs.declared.act.TheConstants.{MOST_HEARD_BYTES}
use Rattle.edge_io.specs.declared.act.Act.{Act}
use Rattle.edge_io.specs.declared.act.Heard.{Heard}
use Rattle.edge_io.specs.declared.act.Heard.TheVariants.{Line, Idle, IdleMid, TooLong, End}
use Rattle.edge_io.specs.Outside.{Rose}

-- what a link tells: its acts, where it keeps them, the text of its last answer, and how many faults and idle answers there were
pub record ToldLink : Type 0 where
  pub acts : Option (List Act)
  pub said : List ℕ
  pub faults : ℕ
  pub idles : ℕ

-- no count falls
pub record KeepsLink (old new : ToldLink) : Type 0 where
  pub faults : old.faults ≤ new.faults
  pub idles : old.idles ≤ new.idles

-- the count of the link's faults rose
pub record LinkFails (old new : ToldLink) : Type 0 where
  pub rose : Rose old.faults new.faults

-- the count of the link's idle answers rose
pub record LinkIdles (old new : ToldLink) : Type 0 where
  pub rose : Rose old.idles new.idles

-- the acts lead from one state to another, one after the other
abbrev pub Leads : {S : Type 0} → (S → Act → S → Type 0) → S → List Act → S → Type 0
Leads gives s [] t = t ≡ s
Leads {S} gives s (act ∷ acts) t = (m : S) × gives s act m × Leads gives m acts t

-- nothing came for a tick
abbrev pub is_idle : Heard → Bool
is_idle Line = false
is_idle Idle = true
is_idle IdleMid = true
is_idle TooLong = false
is_idle End = false

-- bytes of one line without its LF, of which there are at most so many
abbrev pub IsWithinLine : ℕ → List ℕ → Type 0
IsWithinLine most text = ¬ Contains text 10 × (length text ≤ most)

-- the text of an answer is the line, or the bytes of the unfinished one
abbrev pub IsSaid : Heard → List ℕ → Type 0
IsSaid Line text = IsWithinLine MOST_HEARD_BYTES text
IsSaid Idle text = text ≡ []
IsSaid IdleMid text = IsWithinLine MOST_HEARD_BYTES text
IsSaid TooLong text = IsWithinLine (MOST_HEARD_BYTES + 1) text
IsSaid End text = IsWithinLine MOST_HEARD_BYTES text
