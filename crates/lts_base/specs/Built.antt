-- Promise: why parts make no system. Private: how a system keeps its moves and its cycles.
use Rattle.std.specs.Prelude.{◌≡◌, ℕ, ◌+◌, ◌-◌, ◌<◌, ◌≤◌, List, [], length, take, All, Bool, slice_index_or as get_or}
use Rattle.std.specs.List.Sorted.{IsNonDecreasingBy, IsPartitionPoint}
use Rattle.lts_base.specs.declared.action.Act.TheVariants.{Tau}
use Rattle.lts_base.specs.declared.action.Move.{Move}
use Rattle.lts_base.specs.declared.system.LtsError.{LtsError}
use Rattle.lts_base.specs.declared.system.LtsError.TheVariants.{NoState, StartRange, StateRange, LabelRange, Memory}
use Rattle.lts_base.specs.declared.divergence.Divergence.TheVariants.{Refuse, Quiet}
use Rattle.lts_base.specs.declared.divergence.Divergence.{Divergence}
use Rattle.lts_base.specs.Alphabet.{Alphabet}
use Rattle.lts_base.specs.System.{System, IsSystem, IsActOf, IsMoveOf, AreCycleFlags}

abbrev pub move_at : List Move → ℕ → Move
move_at moves k = get_or moves k (record { from = 0; act = Tau; to = 0 })

-- both ends of the move are states
abbrev pub HasEnds : ℕ → Move → Type 0
HasEnds states m = (m.from < states) × (m.to < states)

-- the move, which is number k, is at fault: an end of it is no state, or else what it carries is none of the n labels
abbrev pub IsFaultOf : ℕ → ℕ → Move → ℕ → LtsError → Type 0
IsFaultOf states n m k (StateRange j) = (j ≡ k) × (¬ HasEnds states m)
IsFaultOf states n m k (LabelRange j) = (j ≡ k) × HasEnds states m × (¬ IsActOf n m.act)
IsFaultOf states n m k NoState = ⊥
IsFaultOf states n m k StartRange = ⊥
IsFaultOf states n m k Memory = ⊥

-- move number k is at fault, and none before it is
pub record IsFirstFault (states n : ℕ) (moves : List Move) (k : ℕ) (e : LtsError) : Type 0 where
  pub before : All (IsMoveOf states n) (take k moves)
  pub below : k < length moves
  pub fault : IsFaultOf states n (move_at moves k) k e

-- some move is at fault, and it is the first one
abbrev pub HasFirstFault : ℕ → ℕ → List Move → LtsError → Type 0
HasFirstFault states n moves e = (k : ℕ) × IsFirstFault states n moves k e

-- why the parts make no system: there is no state; the start is no state; the first move at fault
abbrev pub RefusesParts : ℕ → ℕ → ℕ → List Move → LtsError → Type 0
RefusesParts states start n moves NoState = states ≡ 0
RefusesParts states start n moves StartRange = (0 < states) × (states ≤ start)
RefusesParts states start n moves (StateRange k) = (start < states) × IsFirstFault states n moves k (StateRange k)
RefusesParts states start n moves (LabelRange k) = (start < states) × IsFirstFault states n moves k (LabelRange k)
RefusesParts states start n moves Memory = Unit {0}

-- the system has so many states and this first one, over these labels, and cycles of moves with Tau mean nothing in it
pub record IsBuiltOf (count first : ℕ) (labels : Alphabet) (s : System) : Type 0 where
  pub states : s.states ≡ count
  pub start : s.start ≡ first
  pub inputs : s.inputs ≡ labels.inputs
  pub outputs : s.outputs ≡ length labels.texts - labels.inputs
  pub divergence : s.divergence ≡ Refuse

-- the moves stand in the order of the states that they leave
abbrev pub AreByState : List Move → Type 0
AreByState moves = IsNonDecreasingBy (λ (m : Move). m.from) moves

-- offset number p is the place of the first move that leaves p or a later state
pub record AreOffsets (states : ℕ) (moves : List Move) (offsets : List ℕ) : Type 0 where
  pub long : length offsets ≡ states + 1
  pub within : All (λ i. i ≤ length moves) offsets
  pub points : (p : ℕ) → p ≤ states → IsPartitionPoint (λ (m : Move). m.from < p) (λ (m : Move). p ≤ m.from) moves (get_or offsets p 0)

-- the flags that a system keeps of its states on cycles: one for each state where it is read so that these are quiet
abbrev pub AreFlagsFor : Divergence → System → List Bool → Type 0
AreFlagsFor Refuse s flags = flags ≡ []
AreFlagsFor Quiet s flags = AreCycleFlags s flags

-- the system of these parts
abbrev pub system_of : ℕ → ℕ → ℕ → ℕ → Divergence → List Move → System
system_of states start inputs outputs divergence moves = record {
  states = states;
  start = start;
  inputs = inputs;
  outputs = outputs;
  divergence = divergence;
  moves = moves;
}

-- how a system is kept: it is sound, its moves stand by state, and these are their offsets and the flags of its states
pub record IsLaidOut (s : System) (places : List ℕ) (marks : List Bool) : Type 0 where
  pub system : IsSystem s
  pub by_state : AreByState s.moves
  pub offsets : AreOffsets s.states s.moves places
  pub flags : AreFlagsFor s.divergence s marks
