use Rattle.std.proofs.Common.{ℕ, ◌<◌, get_or}
use Rattle.lts_base.specs.System.{IsStable, Takes}
use Rattle.cert_check.proofs.offers.all_stable_take.Given as goal

abbrev pub invariant-states : goal.invariant-states
invariant-states l = (k d : ℕ) → k < l.state-index → IsStable l.lts (get_or l.list k d) → Takes l.lts (get_or l.list k d) l.label
