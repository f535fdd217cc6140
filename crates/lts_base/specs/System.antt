-- Promise: what a system is, and when a state is stable and quiet.
-- Tretmans, "Model Based Testing with Labelled Transition Systems" (2008), labelled transition systems with inputs and
-- outputs, and quiescence.
use Rattle.std.specs.Prelude.{◌≡◌, ◌↔◌, ℕ, ◌+◌, ◌^◌, ◌<◌, ◌≤◌, List, [], ◌∷◌, length, All, Contains, Bool, true, false, ◌==◌, ◌⊎◌, slice_index_or as get_or}
use Rattle.lts_base.specs.declared.action.Act.{Act}
use Rattle.lts_base.specs.declared.action.Act.TheVariants.{Tau, Label}
use Rattle.lts_base.specs.declared.action.Move.{Move}
use Rattle.lts_base.specs.declared.divergence.Divergence.{Divergence}
use Rattle.lts_base.specs.declared.divergence.Divergence.TheVariants.{Refuse, Quiet}
use Rattle.lts_base.specs.declared.limits.TheConstants.{MOST_LABELS}
use Rattle.lts_base.specs.declared.item.Item.{Item}
use Rattle.lts_base.specs.declared.item.Item.TheVariants.{Input, Output, Delta}

-- a system: a number of states, a start state, how many of the labels are inputs and how many outputs, how cycles of
-- moves with Tau are read, and its moves
pub record System : Type 0 where
  pub states : ℕ
  pub start : ℕ
  pub inputs : ℕ
  pub outputs : ℕ
  pub divergence : Divergence
  pub moves : List Move

-- the same system, read so that states on cycles of moves with Tau are quiet
abbrev pub quieted : System → System
quieted s = record s { divergence = Quiet }

-- the same system, read so that cycles of moves with Tau mean nothing
abbrev pub refused : System → System
refused s = record s { divergence = Refuse }

-- how many visible labels there are; the inputs have the first numbers, the outputs the others
abbrev pub label_count : System → ℕ
label_count s = s.inputs + s.outputs

-- what the move carries is Tau or one of n labels
abbrev pub IsActOf : ℕ → Act → Type 0
IsActOf n Tau = Unit {0}
IsActOf n (Label a) = a < n

-- the move's ends are states, and what it carries is Tau or a label
pub record IsMoveOf (states n : ℕ) (m : Move) : Type 0 where
  pub from : m.from < states
  pub to : m.to < states
  pub act : IsActOf n m.act

-- the place of what a move carries: Tau comes first, and then the labels by their numbers
abbrev pub act_place : Act → ℕ
act_place Tau = 0
act_place (Label a) = a + 1

-- m is n or comes before it: by the state that it leaves, then by what it carries, then by the state that it leads to
abbrev pub IsMoveAtMost : Move → Move → Type 0
IsMoveAtMost m n = (m.from < n.from) ⊎ ((m.from ≡ n.from) × ((act_place m.act < act_place n.act) ⊎ ((act_place m.act ≡ act_place n.act) × (m.to ≤ n.to))))

-- each move comes before every later one or is the same (d would be read past the end, and never is)
abbrev pub AreSorted : List Move → Type 0
AreSorted moves = (j k : ℕ) (d : Move) → j < k → k < length moves → IsMoveAtMost (get_or moves j d) (get_or moves k d)

-- the start is a state, each move stays within the states and the labels, there are at most `MOST_LABELS` labels, and the moves
-- are sorted
pub record IsSystem (s : System) : Type 0 where
  pub start : s.start < s.states
  pub states : s.states < 2 ^ 32
  pub few : label_count s ≤ MOST_LABELS
  pub moves : All (IsMoveOf s.states (label_count s)) s.moves
  pub sorted : AreSorted s.moves

-- a move with this leads from p to q
abbrev pub HasMove : System → ℕ → Act → ℕ → Type 0
HasMove s p act q = Contains s.moves (record { from = p; act = act; to = q })

-- some move with the label a leaves p
abbrev pub Takes : System → ℕ → ℕ → Type 0
Takes s p a = (q : ℕ) × HasMove s p (Label a) q

-- p is stable: no move with Tau leaves it
abbrev pub IsStable : System → ℕ → Type 0
IsStable s p = (q : ℕ) → ¬ HasMove s p Tau q

-- no move with an output leaves p
abbrev pub GivesNoOutput : System → ℕ → Type 0
GivesNoOutput s p = (a : ℕ) → s.inputs ≤ a → ¬ Takes s p a

-- moves with Tau lead from p along these states to q
abbrev pub IsTauPath : System → ℕ → List ℕ → ℕ → Type 0
IsTauPath s p [] q = p ≡ q
IsTauPath s p (r ∷ rs) q = HasMove s p Tau r × IsTauPath s r rs q

-- moves with Tau, maybe none, lead from p to q
abbrev pub TauLeads : System → ℕ → ℕ → Type 0
TauLeads s p q = (rs : List ℕ) × IsTauPath s p rs q

-- a non-empty path of moves with Tau leads from p to p
abbrev pub IsOnTauCycle : System → ℕ → Type 0
IsOnTauCycle s p = (r : ℕ) × (rs : List ℕ) × IsTauPath s p (r ∷ rs) p

-- the system is read so that p, which lies on a cycle of moves with Tau, is quiet
abbrev pub IsOnQuietCycle : System → ℕ → Type 0
IsOnQuietCycle s p = (s.divergence ≡ Quiet) × IsOnTauCycle s p

-- p is quiet: it is stable, and no move with an output leaves it; or it lies on a cycle of moves with Tau, in a system that
-- is read so that such states are quiet
abbrev pub IsQuiet : System → ℕ → Type 0
IsQuiet s p = (IsStable s p × GivesNoOutput s p) ⊎ IsOnQuietCycle s p

-- the item is an input, an output or `delta` of the system's alphabet
abbrev pub IsItemOf : System → Item → Type 0
IsItemOf s (Input a) = a < s.inputs
IsItemOf s (Output a) = (s.inputs ≤ a) × (a < label_count s)
IsItemOf s Delta = Unit {0}

-- the move leaves the state p
abbrev pub leaves : ℕ → Move → Bool
leaves p m = m.from == p

-- these are the moves of the state p
pub record AreMovesOf (s : System) (p : ℕ) (ms : List Move) : Type 0 where
  pub each : All (λ m. (m.from ≡ p) × Contains s.moves m) ms
  pub all : (m : Move) → m.from ≡ p → Contains s.moves m → Contains ms m

-- for each state the flag says whether it lies on a cycle of moves with Tau
pub record AreCycleFlags (s : System) (flags : List Bool) : Type 0 where
  pub long : length flags ≡ s.states
  pub each : (p : ℕ) → p < s.states → (get_or flags p false ≡ true) ↔ IsOnTauCycle s p
