use Rattle.std.proofs.Common.{◌≡◌, ◌-◌}
use Rattle.lts_base.proofs.FindLaws.{IsClosing}
use Rattle.state_sets.proofs.step.close.Given as goal

abbrev pub invariant-finds : goal.invariant-finds
invariant-finds l = record {
  states : l.search.states ≡ l.fn.lts.states;
  closing : IsClosing l.fn.lts l.fn.search.found l.search.found l.at;
}

abbrev pub decreases-finds : goal.decreases-finds
decreases-finds l = l.search.states - l.at
