use Rattle.session_core.proofs.PlayLaws.{driven_logged}
use Rattle.session_core.proofs.StallLaws.{drive_stalls}
use Rattle.session_core.proofs.drive.drive.Goals as goal

pub returns-clause-logged : goal.returns-clause-logged
returns-clause-logged g c = driven_logged _ _ _ _ _ c.next.ensures.seated.patience c.requires.begins c.drive_on.ensures.driven

pub returns-clause-stalled : goal.returns-clause-stalled
returns-clause-stalled g c = drive_stalls _ _ _ _ _ _ _ c.requires.begins c.drive_on.ensures.driven c.drive_on.ensures.stalled
