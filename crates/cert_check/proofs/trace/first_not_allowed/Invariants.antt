use Rattle.std.proofs.Common.{◌≡◌, ◌<◌, All}
use Rattle.cert_check.proofs.TraceLaws.{IsAllowedTo}
use Rattle.cert_check.proofs.trace.first_not_allowed.Given as goal

abbrev pub invariant-items : goal.invariant-items
invariant-items l = record {
  marks : l.marks.states ≡ l.spec.states;
  place : l.place ≡ l.item-index;
  within : All (λ q. q < l.spec.states) l.set.items;
  walked : IsAllowedTo l.mode l.spec l.items l.item-index l.set.items;
}
