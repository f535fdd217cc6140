-- The verdict on the log of a session that went so.
use Rattle.std.proofs.Common.{◌≡◌, ◌∙◌, ℕ, ◌-◌, ◌≤◌, List, [], ◌∷◌, length, map, Option, Result, Ok, Err, inl, inr, ◌⊎◌, refl, sym, ap, subst, arith}
use Rattle.lts_base.specs.declared.item.Item.{Item}
use Rattle.lts_base.specs.Alphabet.{Alphabet, IsAlphabet, IsOver as IsSystemOver}
use Rattle.lts_base.specs.System.{System, IsSystem}
use Rattle.edge_io.specs.declared.act.Act.{Act}
use Rattle.walk_core.specs.declared.choice.Choice.{Choice}
use Rattle.session_core.specs.declared.turn.DriveError.{DriveError}
use Rattle.session_core.specs.declared.turn.DriveError.TheVariants.{Broken, Full, Memory}
use Rattle.session_core.specs.declared.verdict.Verdict.{Verdict}
use Rattle.session_core.specs.Seat.{Seat}
use Rattle.session_core.specs.Told.{Told}
use Rattle.session_core.specs.Table.{Rules, Sitting, opening}
use Rattle.session_core.specs.Reading.{IsReading}
use Rattle.session_core.specs.Driven.{Playing, Stopped, IsLoggedDrive, event_of}
use Rattle.session_core.specs.Logged.{log_of}
use Rattle.session_core.specs.Judged.{AreLabelled, IsJudged, alphabet_of, verdict_of}
use Rattle.session_core.proofs.TurnLaws.{run_reads}
use Rattle.session_core.proofs.JudgeLaws.{reading_judged}
use Rattle.tool_base.specs.declared.report.Report.{Report}
use Rattle.tool_base.specs.Contents.{Contents}
use Rattle.cmd_drive.specs.declared.files.Setting.{Setting}
use Rattle.cmd_drive.specs.declared.guide.Guide.{Guide}
use Rattle.cmd_drive.specs.declared.outcome.DriveOutcome.{DriveOutcome}
use Rattle.cmd_drive.specs.Asked.{AskedDrive, IsInRange}
use Rattle.cmd_drive.specs.Dialled.{Dialled}
use Rattle.cmd_drive.specs.Drive.{AnswersDrive, Goes, IsLed, IsSetUp, ending_by, rules_by}
use Rattle.cmd_drive.specs.Given.{IsFit, IsReportOf}

-- some events are read so
abbrev pub IsRead : Rules → Sitting → Type 0
IsRead r s = (events : List Told) × IsReading r events s

pub opening_read : (r : Rules) → 1 ≤ r.patience → IsRead r opening
opening_read r some = ([], run_reads r [] opening some refl)

-- a deed that is refused leaves the session
stopped_seat : {C S : Type 0} (answer : C → List ℕ → List Item → Choice × C) (gives : S → Act → S → Type 0) (p : Playing C S) (e : DriveError) (q : Playing C S) → Stopped answer gives p e q → q.seat ≡ p.seat
stopped_seat answer gives p Broken q broke = broke.0
stopped_seat answer gives p (Full reached) q (inl (c, answers, refuses, same)) = same
stopped_seat answer gives p (Full reached) q (inr (act, acts, refuses, same)) = same
stopped_seat answer gives p Memory q (inl (c, answers, refuses, same)) = same
stopped_seat answer gives p Memory q (inr (act, acts, refuses, same)) = same

pub drive_read : {C S : Type 0} (answer : C → List ℕ → List Item → Choice × C) (gives : S → Act → S → Type 0) (p : Playing C S) (result : Result Verdict DriveError) (q : Playing C S) → IsLoggedDrive answer gives p result q → IsRead p.seat.rules q.seat.sitting
drive_read answer gives p (Ok verdict) q (logged, done) = (map event_of logged.deeds, logged.reading)
drive_read answer gives p (Err e) q (m, logged, stopped) =
    (map event_of logged.deeds, subst (λ (x : Seat). IsReading p.seat.rules (map event_of logged.deeds) x.sitting) (sym (stopped_seat answer gives m e q stopped)) logged.reading)

led_read : (run : Dialled) (asked : AskedDrive) (r : Rules) (guide : Guide) (outcome : DriveOutcome) (sitting : Sitting) → IsLed run asked r guide outcome sitting → IsRead r sitting
led_read run asked r guide outcome sitting led =
    let read = drive_read _ run.gives led.begin led.result led.end led.drove in
    subst (λ (x : Sitting). IsRead r x) (sym led.sitting_is) (subst (λ (x : Rules). IsRead x led.end.seat.sitting) led.opened.rules read)

-- however a session went, some events are read as where it led
goes_read : (run : Dialled) (asked : AskedDrive) (r : Rules) (guide : Guide) (outcome : DriveOutcome) (sitting : Sitting) → 1 ≤ r.patience → Goes run asked r guide outcome sitting → IsRead r sitting
goes_read run asked r guide outcome sitting some (inl unbegun) = subst (λ (x : Sitting). IsRead r x) (sym unbegun.sitting_is) (opening_read r some)
goes_read run asked r guide outcome sitting some (inr (inl undialled)) = subst (λ (x : Sitting). IsRead r x) (sym undialled.sitting_is) (opening_read r some)
goes_read run asked r guide outcome sitting some (inr (inr (dialled, led))) = led_read run asked r guide outcome sitting led

-- the rules of a drive are labelled
rules_labelled : (asked : AskedDrive) (a : Alphabet) (s : System) (goal : Option (List Item)) → IsAlphabet a → IsSystem s → IsSystemOver a s → AreLabelled (rules_by asked a s goal)
rules_labelled asked a s goal alphabet system over = record {
  system = system;
  alphabet = subst (λ (n : ℕ). IsAlphabet (record { texts = a.texts; inputs = n })) (sym over.inputs) alphabet;
  over = record { inputs = refl; outputs = over.outputs ∙ ap (λ (n : ℕ). length a.texts - n) (sym over.inputs) };
}

-- the answer for a report on the session of a setting
pub drive_answers : (run : Dialled) (contents : Contents) (asked : AskedDrive) (t : Setting) (report : Report DriveOutcome) → IsInRange asked → IsFit asked.steps t →
    IsSetUp contents asked t.labels t.system t.digest t.guiding.guide t.guiding.goal → IsReportOf run asked t report → AnswersDrive run contents asked report.outcome report.text
drive_answers run contents asked t report range fit set_up is =
    let read = goes_read run asked (rules_by asked t.labels t.system t.guiding.goal) t.guiding.guide report.outcome is.sitting range.patience.0 is.goes in
    record {
      a = t.labels;
      s = t.system;
      digest = t.digest;
      guide = t.guiding.guide;
      goal = t.guiding.goal;
      sitting = is.sitting;
      set_up = set_up;
      goes = is.goes;
      text_is = is.text_is;
      read = is.read;
      judged = reading_judged (rules_by asked t.labels t.system t.guiding.goal) read.0 is.sitting (ending_by report.outcome) (rules_labelled asked t.labels t.system t.guiding.goal fit.alphabet fit.system fit.over) read.1;
    }
