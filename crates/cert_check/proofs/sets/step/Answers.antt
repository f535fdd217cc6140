use Rattle.cert_check.proofs.FindLaws.{AreSeen-input, AreSeen-output, AreSeen-delta}
use Rattle.cert_check.proofs.sets.step.Goals as goal

pub returns-in_ok-spread-in-Input-clause-adds : goal.returns-in_ok-spread-in-Input-clause-adds
returns-in_ok-spread-in-Input-clause-adds c =
    rw c.in-Input.is (AreSeen-input c.args.side.now _ _ _ _ (rw c.in-Input.is at c.requires.item) (rw c.lts.ensures at c.in_ok-spread-in-Input.ensures.adds))

pub returns-in_ok-spread-in-Output-clause-adds : goal.returns-in_ok-spread-in-Output-clause-adds
returns-in_ok-spread-in-Output-clause-adds c =
    rw c.in-Output.is (AreSeen-output c.args.side.now _ _ _ _ (rw c.in-Output.is at c.requires.item) (rw c.lts-in-Output.ensures at c.in_ok-spread-in-Output.ensures.adds))

pub returns-in_ok-rest-in-Delta-clause-adds : goal.returns-in_ok-rest-in-Delta-clause-adds
returns-in_ok-rest-in-Delta-clause-adds c =
    rw c.in-Delta.is (AreSeen-delta c.args.side.now _ _ _ c.in_ok-rest-in-Delta.ensures.adds)
