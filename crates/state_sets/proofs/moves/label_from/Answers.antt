use Rattle.std.proofs.Common.{◌≡◌, ◌+◌, arith}
use Rattle.state_sets.proofs.ActLaws.{among_none, among_more, among_all, among_first}
use Rattle.state_sets.proofs.moves.label_from.Goals as goal

pub states-init : goal.states-init
states-init c = let e : c.inputs.result + c.outputs.result ≡ c.args.lts.now.inputs + c.args.lts.now.outputs = omega (arith, c.inputs.ensures.inputs, c.outputs.ensures.outputs) in among_none c.args.lts.now _ _ _ e (rw e c.requires.from)

pub states-preserved : goal.states-preserved
states-preserved c = among_more c.args.lts.now _ _ _ _ _ _ c.states-test.true c.state_label-least.ensures c.states.invariant

pub returns-then-least-from : goal.returns-then-least-from
returns-then-least-from c = among_first c.args.lts.now _ _ _ _ c.if-least-from.true c.states.invariant

pub returns : goal.returns
returns c = among_all c.args.lts.now _ _ _ _ c.states-test.false c.states.invariant
