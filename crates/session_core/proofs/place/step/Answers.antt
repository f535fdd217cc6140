use Rattle.lts_base.proofs.AllowedLaws.{IsAllowed-has}
use Rattle.session_core.proofs.PlaceLaws.{at_next}
use Rattle.session_core.proofs.place.step.Goals as goal

pub returns-in-Ok-Some-clause-ok : goal.returns-in-Ok-Some-clause-ok
returns-in-Ok-Some-clause-ok g c = λ σ at allowed. at_next _ _ _ _ _ _ σ c.step.ensures.grows c.step.ensures.walk at allowed (rw c.in-Ok-Some.field-0-is at c.in-Ok-Some.ensures.ok)

pub returns-in-Err-clause-account : goal.returns-in-Err-clause-account
returns-in-Err-clause-account g c = λ traces σ account at allowed. c.in-Err.ensures.account traces σ account at.set (IsAllowed-has c.args.mode _ _ allowed)
