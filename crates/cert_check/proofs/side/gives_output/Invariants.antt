use Rattle.std.proofs.Common.{◌≡◌, ℕ, ◌<◌, ◌≤◌, get_or}
use Rattle.lts_base.specs.declared.action.Act.TheVariants.{Label}
use Rattle.lts_base.specs.declared.action.Move.{Move}
use Rattle.cert_check.proofs.side.gives_output.Given as goal

abbrev pub invariant-moves : goal.invariant-moves
invariant-moves l = (k : ℕ) (d : Move) (a : ℕ) → k < l.m-index → (get_or l.moves k d).act ≡ Label a → l.inputs ≤ a → ⊥
