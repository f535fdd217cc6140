-- Promise: cycles of moves with Tau.
use Rattle.std.specs.Prelude.{◌≡◌, ℕ, ◌+◌, ◌-◌, ◌<◌, ◌≤◌, List, length, slice_index_or as get_or}
use Rattle.lts_base.specs.declared.action.Act.TheVariants.{Tau}
use Rattle.lts_base.specs.Built.{move_at}
use Rattle.lts_base.specs.System.{System, HasMove}

-- the states are a cycle of moves with Tau: each has one to the next state, and the last one has one to the first
pub record IsTauCycle (s : System) (ps : List ℕ) : Type 0 where
  pub some : 0 < length ps
  pub next : (k : ℕ) → k + 1 < length ps → HasMove s (get_or ps k 0) Tau (get_or ps (k + 1) 0)
  pub last : HasMove s (get_or ps (length ps - 1) 0) Tau (get_or ps 0 0)

-- a move with Tau leads from p to q, and p has a count
abbrev pub IsSource : System → List ℕ → ℕ → ℕ → Type 0
IsSource s counts q p = HasMove s p Tau q × (p < s.states) × (0 < get_or counts p 0)

-- for each of the first n moves that carries Tau and leaves a state with a count, there is a source of its target
pub record AreSources (s : System) (counts : List ℕ) (n : ℕ) (sources : List ℕ) : Type 0 where
  pub long : length sources ≡ s.states
  pub each : (k : ℕ) → k < n → (move_at s.moves k).act ≡ Tau → 0 < get_or counts (move_at s.moves k).from 0 →
      IsSource s counts (move_at s.moves k).to (get_or sources (move_at s.moves k).to 0)

-- each state but the first has a move with Tau to the one before it
abbrev pub IsPathBack : System → List ℕ → Type 0
IsPathBack s ps = (k : ℕ) → k + 1 < length ps → HasMove s (get_or ps (k + 1) 0) Tau (get_or ps k 0)

-- the states are a path of moves with Tau, back to front, and the state p has a move with Tau to the last of them
pub record IsTrail (s : System) (ps : List ℕ) (p : ℕ) : Type 0 where
  pub back : IsPathBack s ps
  pub last : (k : ℕ) → k + 1 ≡ length ps → HasMove s p Tau (get_or ps k 0)

-- these are the last states of the list, from its end back to the state p
pub record IsTurned (ps : List ℕ) (p : ℕ) (turned : List ℕ) : Type 0 where
  pub some : 0 < length turned
  pub within : length turned ≤ length ps
  pub each : (k : ℕ) → k < length turned → get_or turned k 0 ≡ get_or ps (length ps - 1 - k) 0
  pub last : get_or turned (length turned - 1) 0 ≡ p
