use Rattle.std.proofs.Common.{◌≡◌, ◌-◌}
use Rattle.cert_check.proofs.QuietLaws.{IsReturning}
use Rattle.cert_check.proofs.side.returns.Given as goal

abbrev pub invariant-finds : goal.invariant-finds
invariant-finds l = record {
  states : l.marks.states ≡ l.lts.states;
  returning : IsReturning l.lts l.state l.marks.found l.at;
}

abbrev pub decreases-finds : goal.decreases-finds
decreases-finds l = l.marks.states - l.at
