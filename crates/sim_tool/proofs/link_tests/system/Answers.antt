use Rattle.std.proofs.Common.{codes}
use Rattle.sim_tool.proofs.LinkLaws.{able}
use Rattle.sim_tool.proofs.link_tests.system.Goals as goal

pub returns-in-Ok : goal.returns-in-Ok
returns-in-Ok c = able _ (codes "RI.aut") _ c.enabled.result c.in-Ok.ensures.loaded c.in-Ok.ensures.over c.enabled.ensures
