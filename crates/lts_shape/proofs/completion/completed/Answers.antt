use Rattle.std.proofs.Common.{◌∙◌}
use Rattle.lts_shape.proofs.AngelicLaws.{AreLoopsUpTo-none}
use Rattle.lts_shape.proofs.completion.completed.Goals as goal

pub inputs-init : goal.inputs-init
inputs-init c = record {
  states = c.in_ok-search.ensures.states ∙ c.states-states.ensures.states;
  loops = AreLoopsUpTo-none _ _ c.in_ok-moves.ensures c.requires;
}
