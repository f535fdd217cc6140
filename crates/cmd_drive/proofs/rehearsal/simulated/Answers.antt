use Rattle.std.proofs.Common.{◌≡◌, ◌∙◌, Result, Err, refl, sym, ap, subst}
use Rattle.lts_base.specs.Alphabet.{Alphabet}
use Rattle.lts_base.specs.System.{System}
use Rattle.rand_pcg.specs.Lcg.{Lcg}
use Rattle.sim_core.specs.Acts.{Simulated}
use Rattle.sim_core.specs.Linked.{Linked}
use Rattle.session_core.specs.declared.verdict.Verdict.{Verdict}
use Rattle.walk_core.specs.declared.walk.WalkError.{WalkError}
use Rattle.cmd_drive.specs.declared.files.Guiding.{Guiding}
use Rattle.cmd_drive.specs.declared.guide.Guide.{Guide}
use Rattle.cmd_drive.specs.declared.outcome.DriveOutcome.TheVariants.{Full}
use Rattle.cmd_drive.specs.AskedRehearse.{rehearse_from}
use Rattle.cmd_drive.specs.Rehearse.{IsOutcomeSo}
use Rattle.cmd_drive.proofs.SimulateLaws.{simulates}
use Rattle.cmd_drive.proofs.rehearsal.simulated.Goals as goal

-- a simulation at its start, with this generator
abbrev pub begun_with : System → Alphabet → Lcg → Simulated Lcg
begun_with s a rng = record { system = s; texts = a.texts; place = record { at = s.start; rng = rng } }

pub returns-in-Ok : goal.returns-in-Ok
returns-in-Ok g c =
    simulates (rehearse_from c.args.request.now) c.args.pair.now c.args.session.now c.rehearse.new.session _ _ _ _ _ (ap {A = Guiding} {B = Guide} (λ x. x.guide) c.seeded-chooser.ensures)
    (ap {A = Linked Lcg} {B = Simulated Lcg} (λ l. l.simulated) c.in_ok-link.ensures ∙ ap (begun_with c.args.pair.now.second c.args.pair.now.labels) c.seed_from_u64-rng.ensures) c.in-Ok.ensures.went c.in-Ok.ensures.rehearsed refl

pub returns-in-Err-Full : goal.returns-in-Err-Full
returns-in-Err-Full g c =
    simulates (rehearse_from c.args.request.now) c.args.pair.now c.args.session.now c.rehearse.new.session _ _ _ _ _ (ap {A = Guiding} {B = Guide} (λ x. x.guide) c.seeded-chooser.ensures)
    (ap {A = Linked Lcg} {B = Simulated Lcg} (λ l. l.simulated) c.in_ok-link.ensures ∙ ap (begun_with c.args.pair.now.second c.args.pair.now.labels) c.seed_from_u64-rng.ensures) c.in-Err-Full.ensures.went c.in-Err-Full.ensures.rehearsed
    (subst (λ (e : WalkError). IsOutcomeSo (Err e) (Full c.in-Err-Full.reached)) (sym c.in-Err-Full.field-0-is) (ap Full c.in-Err-Full.reached-is))
