use Rattle.std.proofs.Common.{◌≡◌, ◌∙◌, arith}
use Rattle.lts_shape.specs.Inputs.{AllCanTake, IsLeastLacking}
use Rattle.std.specs.Prelude.{MatchOption}
use Rattle.lts_shape.proofs.InputLaws.{lacking_from_marks, IsMissingSoFar-more, found_missing, exact_missing}
use Rattle.lts_shape.proofs.inputs.missing_input.Goals as goal

pub inputs-preserved : goal.inputs-preserved
inputs-preserved c =
    let lacking : MatchOption c.first_unmarked-lacking.result (AllCanTake c.args.lts.now c.inputs.input) (IsLeastLacking c.args.lts.now c.inputs.input) =
    lacking_from_marks c.args.lts.now c.inputs.input c.args.lts.now.states _ _ _ _ c.in_ok-reached.ensures c.in_ok-takers.ensures.takers (rw c.states-states.ensures.states at c.in_ok-able.ensures)
    (rw (c.deref.ensures.value, c.deref-in-inputs.ensures.value, c.states-states.ensures.states) at c.first_unmarked-lacking.ensures) in
    record {
      states = c.in_ok-takers.ensures.states ∙ c.inputs.invariant.states;
      missing = rw c.earlier-first.ensures (IsMissingSoFar-more _ _ _ _ lacking c.inputs.invariant.missing);
    }

pub returns-clause-found : goal.returns-clause-found
returns-clause-found c =
    let over : c.inputs.input ≡ c.args.lts.now.inputs = omega (arith, c.inputs-test.false, c.inputs.auto.input-end, c.inputs-inputs.ensures.inputs) in
    found_missing _ _ _ over c.inputs.invariant.missing

pub returns-clause-exact : goal.returns-clause-exact
returns-clause-exact c =
    let over : c.inputs.input ≡ c.args.lts.now.inputs = omega (arith, c.inputs-test.false, c.inputs.auto.input-end, c.inputs-inputs.ensures.inputs) in
    exact_missing _ _ _ over c.inputs.invariant.missing
