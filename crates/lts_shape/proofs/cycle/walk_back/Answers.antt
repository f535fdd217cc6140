use Rattle.std.proofs.Common.{◌∙◌, sym}
use Rattle.lts_shape.proofs.CycleLaws.{IsTrail-none, IsTrail-step, read_source}
use Rattle.lts_shape.proofs.cycle.walk_back.Goals as goal

pub steps-init : goal.steps-init
steps-init c = record {
  states = c.requires.states;
  state = c.requires.state;
  count = c.requires.count;
  trail = rw c.requires.found (IsTrail-none _ _);
}

pub steps-preserved : goal.steps-preserved
steps-preserved c =
    let source = read_source _ _ _ _ _ c.requires.peeled c.in_ok-sources.ensures c.steps.invariant.state c.steps.invariant.count c.index-state.ensures in
    record {
      states = c.in_ok-add.ensures.states ∙ c.steps.invariant.states;
      state = source.1;
      count = source.2;
      trail = IsTrail-step _ _ _ _ _ _ c.in_ok-add.ensures.added (λ same. c.if-len-before.false (c.len.ensures.value ∙ same ∙ sym c.len-before.ensures.value)) source c.steps.invariant.trail;
    }
