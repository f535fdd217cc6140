use Rattle.std.proofs.Common.{ℕ, sym, subst}
use Rattle.walk_core.specs.declared.walk.WalkError.{WalkError}
use Rattle.walk_core.specs.Refused.{RefusesOpening}
use Rattle.walk_core.specs.declared.walk.WalkError.TheVariants.{Full}
use Rattle.conf_decide.proofs.OpeningLaws.{imp_refused}
use Rattle.cmd_check.specs.Asked.{check_from, limits_asked}
use Rattle.cmd_check.specs.Printable.{IsFound}
use Rattle.cmd_check.proofs.decision.decision.Goals as goal

pub returns-in-Err-Full : goal.returns-in-Err-Full
returns-in-Err-Full c =
    let full = subst (λ (e : WalkError). RefusesOpening c.args.imp.now c.args.asked.now.members e) c.in-Err-Full.field-0-is c.in-Err-Full.ensures.err in
    subst (IsFound (check_from c.args.asked.now) c.args.imp.now c.args.spec.now) (sym c.at_opening.ensures)
    (imp_refused c.args.asked.now.mode (limits_asked (check_from c.args.asked.now)) c.args.imp.now c.args.spec.now _ c.requires.spec (subst (λ (n : ℕ). RefusesOpening c.args.imp.now c.args.asked.now.members (Full n)) (sym c.in-Err-Full.reached-is) full))
