use Rattle.std.proofs.Common.{MatchResult, subst, sym}
use Rattle.lts_base.specs.declared.divergence.Divergence.{Divergence}
use Rattle.tool_base.specs.Sources.{RefusesCycles}
use Rattle.tool_base.specs.Given.{IsHalted, IsReadOf, names_of}
use Rattle.tool_base.proofs.StoppedLaws.{settled_refuse}
use Rattle.tool_base.proofs.cycles.settled.Goals as goal

pub returns-in-Refuse-clause-read : goal.returns-in-Refuse-clause-read
returns-in-Refuse-clause-read c =
    subst (λ (d : Divergence). MatchResult c.convergent.result (IsReadOf d c.args.systems) (IsHalted (RefusesCycles d (names_of c.args.names.now) c.args.systems))) (sym c.in-Refuse.is)
    (settled_refuse (names_of c.args.names.now) c.args.systems c.convergent.result c.convergent.ensures)
