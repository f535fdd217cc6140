-- Promise: how a simulated implementation serves a session over a link to a tester.
use Rattle.std.specs.Prelude.{◌≡◌, ℕ, ◌<◌, Bool, true, false, List, [], ◌∷◌, length, All, ◌⊎◌}
use Rattle.std.specs.List.{count_by, AllZip}
use Rattle.edge_io.specs.Links.{Leads as LeadsLink}
use Rattle.edge_io.specs.declared.act.Heard.{Heard}
use Rattle.edge_io.specs.declared.act.Heard.TheVariants.{Line, Idle, IdleMid, TooLong, End as HeardEnd}
use Rattle.edge_io.specs.declared.act.Act.{Act}
use Rattle.edge_io.specs.declared.act.Act.TheVariants.{Listened, Gave as ActGave}
use Rattle.sim_core.specs.declared.serving.Served.{Served}
use Rattle.sim_core.specs.declared.serving.ServedEnd.{ServedEnd}
use Rattle.sim_core.specs.declared.serving.ServedEnd.TheVariants.{End, BadInput, Long, Fault, Spent}
use Rattle.sim_core.specs.declared.serving.ServedTurn.{ServedTurn}
use Rattle.sim_core.specs.declared.serving.ServedTurn.TheVariants.{Took, Gave, Waited, Ended}
use Rattle.sim_core.specs.Acts.{Simulated, GivesSimulated, IsNoInput}
use Rattle.sim_core.specs.Linked.{Linked}

-- a simulation and the state of the link to a tester
pub record Serving (R S : Type 0) : Type 0 where
  pub sim : Simulated R
  pub link : S

abbrev pub serving : {R S : Type 0} → Linked R → S → Serving R S
serving sim link = record { sim = sim.simulated; link = link }

-- nothing came for a tick
abbrev pub IsWaiting : Heard → Type 0
IsWaiting Idle = Unit {0}
IsWaiting IdleMid = Unit {0}
IsWaiting Line = ⊥
IsWaiting TooLong = ⊥
IsWaiting HeardEnd = ⊥

-- what is done with a line: an input is taken, any other one ends the session
abbrev pub IsTaken : {R : Type 0} → (R → ℕ × R) → Simulated R → List ℕ → ServedTurn → Simulated R → Type 0
IsTaken step x text Took y = GivesSimulated step x (ActGave text) y
IsTaken step x text (Ended BadInput) y = IsNoInput x.system x.texts text × (y ≡ x)
IsTaken step x text (Ended End) y = ⊥
IsTaken step x text (Ended Long) y = ⊥
IsTaken step x text (Ended Fault) y = ⊥
IsTaken step x text (Ended Spent) y = ⊥
IsTaken step x text Gave y = ⊥
IsTaken step x text Waited y = ⊥

-- what is done where nothing came: the simulation is heard, and the line of an output is written; where that fails, nothing is said
-- of the link's state
abbrev pub IsGiven : {R S : Type 0} → (S → Act → S → Type 0) → (R → ℕ × R) → Serving R S → ServedTurn → Serving R S → Type 0
IsGiven gives step p Gave q = (text : List ℕ) × GivesSimulated step p.sim (Listened Line text) q.sim × gives p.link (ActGave text) q.link
IsGiven gives step p Waited q = (text : List ℕ) × GivesSimulated step p.sim (Listened Idle text) q.sim × (q.link ≡ p.link)
IsGiven gives step p (Ended Fault) q = (text : List ℕ) × GivesSimulated step p.sim (Listened Line text) q.sim
IsGiven gives step p (Ended End) q = ⊥
IsGiven gives step p (Ended BadInput) q = ⊥
IsGiven gives step p (Ended Long) q = ⊥
IsGiven gives step p (Ended Spent) q = ⊥
IsGiven gives step p Took q = ⊥

-- the tester's side was heard so, and this was done
abbrev pub IsTurnAfter : {R S : Type 0} → (S → Act → S → Type 0) → (R → ℕ × R) → Serving R S → Heard → List ℕ → ServedTurn → Serving R S → Type 0
IsTurnAfter gives step p Line text turn q = IsTaken step p.sim text turn q.sim × (q.link ≡ p.link)
IsTurnAfter gives step p Idle text turn q = IsGiven gives step p turn q
IsTurnAfter gives step p IdleMid text turn q = IsGiven gives step p turn q
IsTurnAfter gives step p TooLong text turn q = (turn ≡ Ended Long) × (q ≡ p)
IsTurnAfter gives step p HeardEnd text turn q = (turn ≡ Ended End) × (q ≡ p)

-- one turn: a hearing of the link, and what is done then; or the hearing failed
abbrev pub IsTurn : {R S : Type 0} → (S → Act → S → Type 0) → (R → ℕ × R) → Serving R S → ServedTurn → Serving R S → Type 0
IsTurn {R} {S} gives step p turn q =
    ((heard : Heard) × (text : List ℕ) × (m : S) × gives p.link (Listened heard text) m × IsTurnAfter gives step (record p { link = m }) heard text turn q)
    ⊎ ((turn ≡ Ended Fault) × (q.sim ≡ p.sim))

-- the turns, one after the other
abbrev pub AreTurns : {R S : Type 0} → (S → Act → S → Type 0) → (R → ℕ × R) → Serving R S → List ServedTurn → Serving R S → Type 0
AreTurns gives step p [] q = q ≡ p
AreTurns {R} {S} gives step p (turn ∷ turns) q = (m : Serving R S) × IsTurn gives step p turn m × AreTurns gives step m turns q

-- the turn took a line; it wrote one
abbrev pub is_taking : ServedTurn → Bool
is_taking Took = true
is_taking Gave = false
is_taking Waited = false
is_taking (Ended e) = false

abbrev pub is_giving : ServedTurn → Bool
is_giving Took = false
is_giving Gave = true
is_giving Waited = false
is_giving (Ended e) = false

abbrev pub is_ending : ServedTurn → Bool
is_ending Took = false
is_ending Gave = false
is_ending Waited = false
is_ending (Ended e) = true

-- turns that went on, of which so many took a line and so many wrote one
pub record AreServed {R S : Type 0} (gives : S → Act → S → Type 0) (step : R → ℕ × R) (p : Serving R S) (turns : List ServedTurn) (inputs outputs : ℕ) (q : Serving R S) : Type 0 where
  pub are : AreTurns gives step p turns q
  pub on : count_by is_ending turns ≡ 0
  pub taken : inputs ≡ count_by is_taking turns
  pub given : outputs ≡ count_by is_giving turns

-- how it ended after so many turns: these were all that there may be, or one more ended it
abbrev pub IsEnd : {R S : Type 0} → (S → Act → S → Type 0) → (R → ℕ × R) → ℕ → ℕ → Serving R S → ServedEnd → Serving R S → Type 0
IsEnd gives step most count m end q = ((count ≡ most) × (end ≡ Spent) × (q ≡ m)) ⊎ ((count < most) × IsTurn gives step m (Ended end) q)

-- a session of at most so many turns
abbrev pub IsServed : {R S : Type 0} → (S → Act → S → Type 0) → (R → ℕ × R) → ℕ → Serving R S → Served → Serving R S → Type 0
IsServed {R} {S} gives step most p served q =
    (turns : List ServedTurn) × (m : Serving R S) × AreServed gives step p turns served.inputs served.outputs m × IsEnd gives step most (length turns) m served.end q

-- a call of the link failed
abbrev pub IsFault : ServedEnd → Type 0
IsFault end = end ≡ Fault

abbrev pub IsFaultTurn : ServedTurn → Type 0
IsFaultTurn turn = turn ≡ Ended Fault

-- what a turn that goes on has the simulation do: it is given a line, or heard
abbrev pub IsActOf : ServedTurn → Act → Type 0
IsActOf Took (ActGave text) = Unit {0}
IsActOf Gave (Listened Line text) = Unit {0}
IsActOf Waited (Listened Idle text) = Unit {0}
IsActOf turn act = ⊥

-- these turns go on from p to q
abbrev pub AreGoingTurns : {R S : Type 0} → (S → Act → S → Type 0) → (R → ℕ × R) → Serving R S → List ServedTurn → Serving R S → Type 0
AreGoingTurns gives step p turns q = All (λ turn. is_ending turn ≡ false) turns × AreTurns gives step p turns q

-- they have the simulation do these acts
abbrev pub HasActs : {R S : Type 0} → (R → ℕ × R) → Serving R S → List ServedTurn → Serving R S → Type 0
HasActs step p turns q = (acts : List Act) × AllZip IsActOf turns acts × LeadsLink (GivesSimulated step) p.sim acts q.sim
