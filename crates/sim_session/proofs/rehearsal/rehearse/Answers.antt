use Rattle.std.proofs.Common.{refl}
use Rattle.sim_session.proofs.AlongLaws.{not_broken, rehearsed_so}
use Rattle.sim_session.proofs.rehearsal.rehearse.Goals as goal

pub unbroken-requires : goal.unbroken-requires
unbroken-requires g c = not_broken _ _ _ refl c.drive-driven.ensures.broken

pub returns-clause-went : goal.returns-clause-went
returns-clause-went g c = (rehearsed_so _ _ _ _ _ _ _ _ _ _ c.requires.begins c.requires.joined c.unbroken.ensures c.drive-driven.ensures.logged).0

pub returns-clause-rehearsed : goal.returns-clause-rehearsed
returns-clause-rehearsed g c = (rehearsed_so _ _ _ _ _ _ _ _ _ _ c.requires.begins c.requires.joined c.unbroken.ensures c.drive-driven.ensures.logged).1
