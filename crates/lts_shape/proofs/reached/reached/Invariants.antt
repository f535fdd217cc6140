use Rattle.std.proofs.Common.{◌≡◌, ◌-◌, Contains}
use Rattle.lts_base.specs.declared.action.Act.{Act}
use Rattle.lts_base.specs.System.{HasMove}
use Rattle.lts_shape.specs.Inputs.{EndsSome}
use Rattle.lts_shape.proofs.FollowLaws.{IsFollowing}
use Rattle.lts_shape.proofs.reached.reached.Given as goal

abbrev pub invariant-finds : goal.invariant-finds
invariant-finds l = record {
  states : l.search.states ≡ l.lts.states;
  start : Contains l.search.found l.lts.start;
  following : IsFollowing (EndsSome l.lts) (λ p q. (act : Act) × HasMove l.lts p act q) l.search.found l.at;
}

abbrev pub decreases-finds : goal.decreases-finds
decreases-finds l = l.search.states - l.at
