use Rattle.std.proofs.Common.{◌≡◌}
use Rattle.cmd_outs.proofs.OfferLaws.{IsFollowed}
use Rattle.cmd_outs.proofs.follow.follow.Given as goal

abbrev pub invariant-items : goal.invariant-items
invariant-items l = record {
  states : l.search.states ≡ l.lts.states;
  place : l.place ≡ l.item-index;
  followed : IsFollowed l.mode l.lts l.trace l.item-index l.set;
}
