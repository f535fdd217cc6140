use Rattle.std.proofs.Common.{◌↔◌, ◌<◌, sym, subst}
use Rattle.std.specs.Prelude.{IsTrue}
use Rattle.lts_base.specs.System.{System, IsQuiet}
use Rattle.cert_check.proofs.QuietLaws.{read_quiet}
use Rattle.cert_check.proofs.side.Side.is_quiet.Goals as goal

pub returns : goal.returns
returns c =
    subst (λ (s : System). IsTrue c.index.result.now ↔ IsQuiet s c.args.state) c.self.view_is
    (read_quiet _ _ c.args.state c.index.result.now c.self.invariant.1 (subst (λ (s : System). c.args.state < s.states) (sym c.self.view_is) c.requires) c.index.ensures)
