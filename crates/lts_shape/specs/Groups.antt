-- Private: the moves by groups, those with Tau by the state that they lead to, the others by their label.
use Rattle.std.specs.Prelude.{◌≡◌, ℕ, ◌+◌, ◌<◌, ◌≤◌, List, length, Contains, slice_index_or as get_or}
use Rattle.lts_base.specs.declared.action.Act.{Act}
use Rattle.lts_base.specs.declared.action.Act.TheVariants.{Tau, Label}
use Rattle.lts_base.specs.declared.action.Move.{Move}
use Rattle.lts_base.specs.Built.{move_at}
use Rattle.lts_base.specs.System.{System, label_count}

-- the group of a move with this action to this state: with Tau it is that of the state, and the groups of the labels come
-- after those of the states
abbrev pub group_with : ℕ → Act → ℕ → ℕ
group_with states Tau to = to
group_with states (Label a) to = states + a

abbrev pub group_of : ℕ → Move → ℕ
group_of states m = group_with states m.act m.to

abbrev pub group_count : System → ℕ
group_count s = s.states + label_count s

-- n tells the last of the first i moves that is in the group, by its number from 1; it is 0 where there is none
pub record IsLatest (s : System) (group i n : ℕ) : Type 0 where
  pub within : n ≤ i
  pub is : (k : ℕ) → k + 1 ≡ n → group_of s.states (move_at s.moves k) ≡ group
  pub none : (k : ℕ) → n ≤ k → k < i → ¬ (group_of s.states (move_at s.moves k) ≡ group)

-- the first i moves are chained: for each group there is its last one, and for each move the one before it in its group
pub record AreGroups (s : System) (i : ℕ) (lasts befores : List ℕ) : Type 0 where
  pub groups : length lasts ≡ group_count s
  pub moves : length befores ≡ i
  pub last : (g : ℕ) → g < group_count s → IsLatest s g i (get_or lasts g 0)
  pub before : (k : ℕ) → k < i → IsLatest s (group_of s.states (move_at s.moves k)) k (get_or befores k 0)

-- a move of the group leaves p
abbrev pub LeavesIn : System → ℕ → ℕ → Type 0
LeavesIn s group p = (m : Move) × (m.from ≡ p) × Contains s.moves m × (group_of s.states m ≡ group)
