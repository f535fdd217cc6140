use Rattle.std.proofs.Common.{◌≡◌, ◌-◌}
use Rattle.lts_base.specs.declared.action.Act.TheVariants.{Tau}
use Rattle.lts_base.specs.System.{HasMove}
use Rattle.lts_shape.specs.Inputs.{CanTake}
use Rattle.lts_shape.proofs.FollowLaws.{IsFollowing, HasTakers}
use Rattle.lts_shape.proofs.inputs.takers.Given as goal

abbrev pub invariant-finds : goal.invariant-finds
invariant-finds l = record {
  states : l.search.states ≡ l.lts.states;
  seeded : HasTakers l.lts l.input l.search.found;
  following : IsFollowing (CanTake l.lts l.input) (λ q p. HasMove l.lts p Tau q) l.search.found l.at;
}

abbrev pub decreases-finds : goal.decreases-finds
decreases-finds l = l.search.states - l.at
