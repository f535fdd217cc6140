use Rattle.std.proofs.Common.{◌≡◌}
use Rattle.lts_base.specs.declared.action.Act.{Act}
use Rattle.lts_base.specs.System.{HasMove}
use Rattle.lts_shape.proofs.FollowLaws.{IsLooking}
use Rattle.lts_shape.proofs.reached.add_targets.Given as goal

abbrev pub invariant-moves : goal.invariant-moves
invariant-moves l = record {
  states : l.search.states ≡ l.lts.states;
  looking : IsLooking (λ q. (act : Act) × HasMove l.lts l.state act q) l.fn.search.found l.search.found l.moves l.m-index;
}
