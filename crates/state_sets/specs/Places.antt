-- Private: places among the moves of a state.
use Rattle.std.specs.Prelude.{ℕ, ◌<◌, List, slice_index_or as get_or}
use Rattle.lts_base.specs.declared.action.Act.{Act}
use Rattle.lts_base.specs.declared.action.Move.{Move}
use Rattle.lts_base.specs.System.{act_place}

-- the first n of the moves come before the action
abbrev pub ComeBefore : List Move → Act → ℕ → Type 0
ComeBefore moves act n = (k : ℕ) (d : Move) → k < n → act_place (get_or moves k d).act < act_place act
