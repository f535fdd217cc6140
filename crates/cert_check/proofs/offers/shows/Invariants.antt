use Rattle.std.proofs.Common.{ℕ, ◌<◌, get_or}
use Rattle.lts_base.specs.After.{Gives}
use Rattle.cert_check.proofs.offers.shows.Given as goal

abbrev pub invariant-states : goal.invariant-states
invariant-states l = (k d : ℕ) → k < l.state-index → Gives l.side (get_or l.list k d) l.item → ⊥
