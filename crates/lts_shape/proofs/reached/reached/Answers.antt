use Rattle.std.proofs.Common.{◌≤◌, ◌<◌, ℕ, length, ◌∙◌, arith}
use Rattle.lts_base.proofs.FindLaws.{Contains-added}
use Rattle.lts_base.specs.declared.action.Act.{Act}
use Rattle.lts_base.specs.System.{HasMove}
use Rattle.lts_shape.specs.Inputs.{EndsSome}
use Rattle.lts_shape.proofs.FollowLaws.{IsFollowing-none, IsFollowing-more, IsFollowing-all, EndsSome-step, EndsSome-start, All-started, found_reached, AreMarksOf-from_found, Contains-adds}
use Rattle.lts_shape.proofs.reached.reached.Goals as goal

pub finds-init : goal.finds-init
finds-init c = record {
  states = c.in_ok-add.ensures.states ∙ c.in_ok-search.ensures.states ∙ c.states-states.ensures.states;
  start = rw (← c.start-start.ensures.start) (Contains-added _ _ _ c.in_ok-add.ensures.added);
  following = IsFollowing-none _ _ _ (All-started (EndsSome c.args.lts.now) _ _ (rw c.start-start.ensures.start (EndsSome-start c.args.lts.now)) (rw c.in_ok-search.ensures.found at c.in_ok-add.ensures.added));
}

pub finds-preserved : goal.finds-preserved
finds-preserved c =
    let below : c.finds.at < length c.finds.search.found = omega (arith, c.finds-test.true, c.len.ensures.value) in
    record {
      states = c.in_ok-add_targets.ensures.states ∙ c.finds.invariant.states;
      start = Contains-adds _ _ _ _ c.in_ok-add_targets.ensures.adds c.finds.invariant.start;
      following = IsFollowing-more (EndsSome c.args.lts.now) _ _ _ _ _ (λ q r ends has. EndsSome-step c.args.lts.now q r ends has) below c.at-state.ensures.value c.in_ok-add_targets.ensures.adds c.finds.invariant.following;
    }

pub returns : goal.returns
returns c =
    let over : length c.finds.search.found ≤ c.finds.at = omega (arith, c.finds-test.false, c.len.ensures.value) in
    AreMarksOf-from_found (EndsSome c.args.lts.now) _ _ _ c.finds.invariant.following.each
    (found_reached c.args.lts.now _ c.finds.invariant.start (IsFollowing-all (EndsSome c.args.lts.now) (λ (p q : ℕ). (act : Act) × HasMove c.args.lts.now p act q) _ _ over c.finds.invariant.following)) (rw c.states-states.ensures.states at c.in_ok-marks.ensures)
