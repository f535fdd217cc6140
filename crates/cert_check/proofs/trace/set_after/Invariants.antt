use Rattle.std.proofs.Common.{◌≡◌, ◌<◌, All}
use Rattle.cert_check.proofs.TraceLaws.{IsSetAt}
use Rattle.cert_check.proofs.trace.set_after.Given as goal

abbrev pub invariant-items : goal.invariant-items
invariant-items l = record {
  marks : l.marks.states ≡ l.side.states;
  within : All (λ q. q < l.side.states) l.set.items;
  walked : IsSetAt l.side l.items l.item-index l.set.items;
}
