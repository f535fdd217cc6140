use Rattle.std.proofs.Common.{ℕ, ◌<◌, get_or}
use Rattle.lts_base.specs.declared.action.Move.{Move}
use Rattle.lts_base.proofs.MoveLaws.{IsInputAct}
use Rattle.lts_base.proofs.system.takes_inputs_alone.Given as goal

abbrev pub invariant-moves : goal.invariant-moves
invariant-moves l = (k : ℕ) (d : Move) → k < l.m-index → IsInputAct l.lts.inputs (get_or l.moves k d).act
