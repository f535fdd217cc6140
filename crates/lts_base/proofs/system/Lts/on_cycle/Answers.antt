use Rattle.std.proofs.Common.{◌↔◌, ◌<◌, subst, sym}
use Rattle.std.specs.Bool.{IsTrue}
use Rattle.lts_base.specs.System.{System, IsOnQuietCycle}
use Rattle.lts_base.proofs.TauLaws.{IsOnQuietCycle-flag}
use Rattle.lts_base.proofs.system.Lts.on_cycle.Goals as goal

pub returns-in-Quiet : goal.returns-in-Quiet
returns-in-Quiet c =
    let below : c.args.state < c.self.inside.states = subst (λ (s : System). c.args.state < s.states) (sym c.self.view_is) c.requires in
    subst (λ (s : System). IsTrue c.index.result.now ↔ IsOnQuietCycle s c.args.state) c.self.view_is
    (IsOnQuietCycle-flag _ _ _ _ c.in-Quiet.is c.self.invariant.flags below c.index.ensures)
