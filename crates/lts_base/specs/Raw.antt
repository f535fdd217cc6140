-- Promise: systems as files hold them: labels by their texts, not yet sorted into inputs and outputs.
use Rattle.std.specs.Prelude.{◌≡◌, ℕ, ◌^◌, ◌<◌, List, length, map, All, Option, Some, None, slice_index_or as get_or}
use Rattle.lts_base.specs.declared.action.Act.{Act}
use Rattle.lts_base.specs.declared.action.Act.TheVariants.{Tau, Label}
use Rattle.lts_base.specs.declared.action.Move.{Move}
use Rattle.lts_base.specs.declared.raw.RawMove.{RawMove}
use Rattle.lts_base.specs.System.{IsMoveOf}
use Rattle.lts_base.specs.Alphabet.{IsLabel, text_at}

-- a system of a file: a number of states, a start state, distinct label texts, and moves that name them by number
pub record RawSystem : Type 0 where
  pub states : ℕ
  pub start : ℕ
  pub labels : List (List ℕ)
  pub moves : List RawMove

-- no label is Tau
abbrev pub raw_act : Option ℕ → Act
raw_act None = Tau
raw_act (Some a) = Label a

-- the move with the file's own label numbers
abbrev pub as_move : RawMove → Move
as_move m = record { from = m.from; act = raw_act m.label; to = m.to }

abbrev pub raw_move_at : List RawMove → ℕ → RawMove
raw_move_at moves k = get_or moves k (record { from = 0; label = None; to = 0 })

-- move number k carries label number a
abbrev pub Carries : List RawMove → ℕ → ℕ → Type 0
Carries moves k a = (k < length moves) × ((raw_move_at moves k).label ≡ Some a)

-- the texts are distinct labels, each carried by a move, in the order in which the moves first carry them
pub record AreLabelsOf (moves : List RawMove) (labels : List (List ℕ)) : Type 0 where
  pub few : length labels < 2 ^ 32
  pub texts : All IsLabel labels
  pub distinct : (j k : ℕ) → j < k → k < length labels → ¬ (text_at labels j ≡ text_at labels k)
  pub carried : (a : ℕ) → a < length labels → (k : ℕ) × Carries moves k a
  pub ordered : (a b k : ℕ) → a < b → Carries moves k b → (j : ℕ) × (j < k) × Carries moves j a

-- the start is a state, each move stays within the states and the labels, and the labels are those of the moves
pub record IsRaw (r : RawSystem) : Type 0 where
  pub start : r.start < r.states
  pub few : length r.moves < 2 ^ 32
  pub moves : All (IsMoveOf r.states (length r.labels)) (map as_move r.moves)
  pub labels : AreLabelsOf r.moves r.labels
