-- Private: which labels the members of a set take, as passes over their moves find it.
use Rattle.std.specs.Prelude.{◌≡◌, ◌↔◌, ℕ, ◌+◌, ◌<◌, ◌≤◌, List, length, Bool, true, false, ◌⊎◌, slice_index_or as get_or}
use Rattle.lts_base.specs.declared.action.Act.TheVariants.{Label}
use Rattle.lts_base.specs.declared.action.Move.{Move}
use Rattle.lts_base.specs.declared.item.Mode.{Mode}
use Rattle.lts_base.specs.declared.item.Mode.TheVariants.{Ioco, Uioco}
use Rattle.lts_base.specs.After.{AllStableTake}
use Rattle.lts_base.specs.Built.{move_at}
use Rattle.lts_base.specs.System.{System, IsStable, Takes, label_count}
use Rattle.state_sets.specs.Finds.{IsTakenIn}

-- for each label the flag says whether P holds of it
pub record AreFlags (s : System) (P : ℕ → Type 0) (flags : List Bool) : Type 0 where
  pub long : length flags ≡ label_count s
  pub each : (a : ℕ) → a < label_count s → (get_or flags a false ≡ true) ↔ P a

-- the label was marked before, or P holds of it
abbrev pub IsMarked : (ℕ → Type 0) → List Bool → ℕ → Type 0
IsMarked P old a = (get_or old a false ≡ true) ⊎ P a

-- one of the first j moves has the label
abbrev pub IsAmong : List Move → ℕ → ℕ → Type 0
IsAmong ms j a = (k : ℕ) × (k < j) × (k < length ms) × ((move_at ms k).act ≡ Label a)

-- a move with the label leaves one of the first i members
abbrev pub IsTakenBelow : System → List ℕ → ℕ → ℕ → Type 0
IsTakenBelow s ps i a = (k : ℕ) × (k < i) × (k < length ps) × Takes s (get_or ps k 0) a

-- the state has to take each input that is allowed
abbrev pub HasToTake : Mode → System → ℕ → Type 0
HasToTake Ioco s q = ⊥
HasToTake Uioco s q = IsStable s q

-- each of the first i members that has to takes the label
abbrev pub AllTake : Mode → System → List ℕ → ℕ → ℕ → Type 0
AllTake mode s ps i a = (k d : ℕ) → k < i → HasToTake mode s (get_or ps k d) → Takes s (get_or ps k d) a

-- some member takes the label, and each member that has to
abbrev pub IsHeld : Mode → System → List ℕ → ℕ → Type 0
IsHeld mode s ps a = IsTakenIn s ps a × AllStableTake mode s ps a

-- the front of each label is at most n, and is n exactly where P holds of the label
pub record AreFronts (s : System) (n : ℕ) (P : ℕ → Type 0) (fronts : List ℕ) : Type 0 where
  pub long : length fronts ≡ label_count s
  pub within : (a : ℕ) → a < label_count s → get_or fronts a 0 ≤ n
  pub each : (a : ℕ) → a < label_count s → (get_or fronts a 0 ≡ n) ↔ P a

-- the front rises from n by one where P holds of the label, and stays elsewhere
abbrev pub IsRisen : ℕ → Type 0 → ℕ → ℕ → Type 0
IsRisen n P old new = (P × (old ≡ n) × (new ≡ n + 1)) ⊎ (¬ (P × (old ≡ n)) × (new ≡ old))

pub record IsAdvanced (s : System) (n : ℕ) (P : ℕ → Type 0) (old new : List ℕ) : Type 0 where
  pub long : length new ≡ label_count s
  pub each : (a : ℕ) → a < label_count s → IsRisen n (P a) (get_or old a 0) (get_or new a 0)
