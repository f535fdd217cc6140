use Rattle.std.proofs.Common.{◌≡◌, ◌++◌, drop}
use Rattle.tool_base.specs.Texts.{states_text}
use Rattle.tool_base.proofs.text.put_states.Given as goal

abbrev pub invariant-states : goal.invariant-states
invariant-states l = l.text.items ++ states_text (drop l.state-index l.states) ≡ l.fn.text.items ++ states_text l.states
