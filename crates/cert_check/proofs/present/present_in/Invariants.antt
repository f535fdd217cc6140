use Rattle.cert_check.specs.Present.{ArePresent}
use Rattle.cert_check.proofs.present.present_in.Given as goal

abbrev pub invariant-states : goal.invariant-states
invariant-states l = ArePresent l.lts l.list l.state-index l.present.items
