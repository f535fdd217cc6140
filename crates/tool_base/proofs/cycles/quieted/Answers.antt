use Rattle.std.proofs.lemmas.List.Elements.{All-push}
use Rattle.lts_base.specs.System.{IsSystem}
use Rattle.tool_base.proofs.LoadLaws.{quieted_more}
use Rattle.tool_base.proofs.cycles.quieted.Goals as goal

pub systems-preserved : goal.systems-preserved
systems-preserved c = rw c.in_ok-push.ensures.ok (record {
  read = quieted_more _ _ c.systems.system-index c.system-item.result _ c.systems-test.true c.system-item.is c.systems.invariant.read c.in_ok-quieted.ensures.quiet;
  sound = All-push IsSystem _ _ c.systems.invariant.sound c.in_ok-quieted.ensures.system;
})
