use Rattle.std.proofs.Common.{◌≡◌, ℕ, ◌<◌, get_or}
use Rattle.lts_base.specs.declared.action.Act.TheVariants.{Tau}
use Rattle.lts_base.specs.declared.action.Move.{Move}
use Rattle.cmd_outs.proofs.taken.is_stable.Given as goal

abbrev pub invariant-moves : goal.invariant-moves
invariant-moves l = (k : ℕ) (d : Move) → k < l.m-index → ¬ ((get_or l.moves k d).act ≡ Tau)
