use Rattle.std.proofs.Common.{◌≤◌, ◌<◌, length, ◌∙◌, arith}
use Rattle.lts_shape.specs.Inputs.{CanTake}
use Rattle.lts_shape.proofs.FollowLaws.{IsFollowing-none, IsFollowing-more, All-seeded, AreTakers-all, CanTake-step, Contains-adds}
use Rattle.lts_shape.proofs.inputs.takers.Goals as goal

pub finds-init : goal.finds-init
finds-init c = record {
  states = c.in_ok-add_takers.ensures.states ∙ c.clear.ensures.states ∙ c.requires.states;
  seeded = c.in_ok-add_takers.ensures.adds.all;
  following = IsFollowing-none _ _ _ (All-seeded c.args.lts.now c.args.input _ (rw c.clear.ensures.found at c.in_ok-add_takers.ensures.adds));
}

pub finds-preserved : goal.finds-preserved
finds-preserved c =
    let below : c.finds.at < length c.finds.search.found = omega (arith, c.finds-test.true, c.len.ensures.value) in
    record {
      states = c.in_ok-add_sources.ensures.states ∙ c.finds.invariant.states;
      seeded = λ q takes. Contains-adds _ _ _ q c.in_ok-add_sources.ensures.adds (c.finds.invariant.seeded q takes);
      following = IsFollowing-more (CanTake c.args.lts.now c.args.input) _ _ _ _ _ (λ q r can has. CanTake-step c.args.lts.now c.args.input q r can has) below c.at-state.ensures.value c.in_ok-add_sources.ensures.adds c.finds.invariant.following;
    }

pub returns-clause-takers : goal.returns-clause-takers
returns-clause-takers c =
    let over : length c.finds.search.found ≤ c.finds.at = omega (arith, c.finds-test.false, c.len.ensures.value) in
    AreTakers-all _ _ _ _ over c.finds.invariant.seeded c.finds.invariant.following
