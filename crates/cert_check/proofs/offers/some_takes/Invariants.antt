use Rattle.std.proofs.Common.{ℕ, ◌<◌, get_or}
use Rattle.lts_base.specs.System.{Takes}
use Rattle.cert_check.proofs.offers.some_takes.Given as goal

abbrev pub invariant-states : goal.invariant-states
invariant-states l = (k d : ℕ) → k < l.state-index → Takes l.lts (get_or l.list k d) l.label → ⊥
