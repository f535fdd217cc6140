use Rattle.state_sets.proofs.Reaching.{AreSeen-input, AreSeen-output, AreSeen-delta}
use Rattle.state_sets.proofs.step.see.Goals as goal

pub returns-in_ok-along-in-Input-clause-seen : goal.returns-in_ok-along-in-Input-clause-seen
returns-in_ok-along-in-Input-clause-seen c =
    rw c.in-Input.is (AreSeen-input c.args.lts.now _ _ _ (rw c.in-Input.is at c.requires.item) c.in_ok-along-in-Input.ensures.adds)

pub returns-in_ok-along-in-Output-clause-seen : goal.returns-in_ok-along-in-Output-clause-seen
returns-in_ok-along-in-Output-clause-seen c =
    rw c.in-Output.is (AreSeen-output c.args.lts.now _ _ _ (rw c.in-Output.is at c.requires.item) c.in_ok-along-in-Output.ensures.adds)

pub returns-in_ok-rest-in-Delta-clause-seen : goal.returns-in_ok-rest-in-Delta-clause-seen
returns-in_ok-rest-in-Delta-clause-seen c =
    rw c.in-Delta.is (AreSeen-delta c.args.lts.now _ _ c.in_ok-rest-in-Delta.ensures.adds)
