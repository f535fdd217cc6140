use Rattle.std.proofs.Common.{◌≡◌}
use Rattle.lts_shape.proofs.InputLaws.{IsMissingSoFar}
use Rattle.lts_shape.proofs.inputs.missing_input.Given as goal

abbrev pub invariant-inputs : goal.invariant-inputs
invariant-inputs l = record {
  states : l.search.states ≡ l.lts.states;
  missing : IsMissingSoFar l.lts l.input l.first;
}
