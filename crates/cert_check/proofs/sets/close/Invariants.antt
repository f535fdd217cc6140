use Rattle.std.proofs.Common.{◌≡◌, ◌-◌}
use Rattle.lts_base.proofs.FindLaws.{IsClosing}
use Rattle.cert_check.proofs.sets.close.Given as goal

abbrev pub invariant-finds : goal.invariant-finds
invariant-finds l = record {
  states : l.marks.states ≡ l.fn.lts.states;
  closing : IsClosing l.fn.lts l.fn.marks.found l.marks.found l.at;
}

abbrev pub decreases-finds : goal.decreases-finds
decreases-finds l = l.marks.states - l.at
