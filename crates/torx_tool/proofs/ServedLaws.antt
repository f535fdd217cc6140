-- What a run asks of its dialer, from what its command asks.
use Rattle.std.proofs.Common.{◌≡◌, ◌∙◌, ℕ, List, [], ◌∷◌, Option, Some, Result, Ok, Err, inl, inr, ◌⊎◌, refl, sym, ap, subst}
use Rattle.edge_io.specs.Dials.{ToldDialer}
use Rattle.edge_io.specs.Outside.{ToldSink}
use Rattle.edge_io.proofs.LinkLaws.{AreOpen-none, KeepsDialer-none}
use Rattle.tool_base.specs.declared.refusal.Stop.{Stop}
use Rattle.tool_base.specs.declared.report.Report.{Report}
use Rattle.cmd_drive.specs.declared.outcome.DriveOutcome.{DriveOutcome}
use Rattle.cmd_drive.specs.declared.outcome.DriveOutcome.TheVariants.{Ended, Full, Broken}
use Rattle.cmd_drive.specs.Dialled.{Dials, IsOwn}
use Rattle.torx_tool.specs.declared.commands.Name.{Name}
use Rattle.torx_tool.specs.declared.commands.Name.TheVariants.{Drive}
use Rattle.torx_tool.specs.declared.status.Status.{Status}
use Rattle.torx_tool.specs.declared.status.Status.TheVariants.{OutFault}
use Rattle.torx_tool.specs.Commands.{named, drive_status}
use Rattle.torx_tool.specs.Run.{no_memory, stop_report, report_of, IsReport, IsWritten}
use Rattle.torx_tool.specs.Served.{IsOfSession, AsksFor, IsServed, IsServedBy}

-- nothing was asked of the dialer
pub served_none : (name : Option Name) (words : List (List ℕ)) (told : ToldDialer) (status : Status) → IsServedBy name words told told status
served_none name words told status = record { hung_up = AreOpen-none told; keeps = KeepsDialer-none told; dials = inl refl }

-- an outcome of a drive is an answer of a session
outcome_of_session : (o : DriveOutcome) → IsOfSession (drive_status o)
outcome_of_session (Ended verdict) = tt
outcome_of_session (Full reached) = tt
outcome_of_session Broken = tt

memory_of_session : (report : Report Status) → report ≡ no_memory → IsOfSession report.outcome
memory_of_session report is = subst (λ (r : Report Status). IsOfSession r.outcome) (sym is) tt

-- so is the report of a drive that answers, or for which memory ran out
report_of_session : (result : Result (Report DriveOutcome) Stop) (report : Report Status) → IsOwn result → IsReport (report_of drive_status result) report → IsOfSession report.outcome
report_of_session result report own (inr memory) = memory_of_session report memory
report_of_session (Ok r) report own (inl is) = subst (λ (r : Report Status). IsOfSession r.outcome) (sym is) (outcome_of_session r.outcome)
report_of_session (Err stop) report own (inl is) = memory_of_session report (is ∙ ap stop_report own)

-- what a drive asked of the dialer
pub served_drive : (words : List (List ℕ)) (old new : ToldDialer) (result : Result (Report DriveOutcome) Stop) (report : Report Status) → Dials words old new result → IsReport (report_of drive_status result) report →
    IsServedBy (Some Drive) words old new report.outcome
served_drive words old new result report h told = record {
  hung_up = h.hung_up;
  keeps = h.keeps;
  dials = elim h.dials [
    | inl same ↦ inl same
    | inr once ↦ inr (record {
      drives = refl;
      q = once.q;
      asks = once.asks;
      refused = once.refused;
      dial = once.dial;
      of_session = report_of_session result report once.own told;
    })
  ];
}

-- what is answered where a report is written is of a session, where the report is
written_of_session : (report : Report Status) (before after : ToldSink) (status : Status) → IsOfSession report.outcome → IsWritten report before after status → IsOfSession status
written_of_session report before after status own (inl (out, memory, none)) = subst IsOfSession (sym memory) tt
written_of_session report before after status own (inr (some, inl (is, appended))) = subst IsOfSession (sym is) own
written_of_session report before after status own (inr (some, inr (fault, fails, front))) = subst IsOfSession (sym fault) tt

pub written_served : (words : List (List ℕ)) (old new : ToldDialer) (report : Report Status) (before after : ToldSink) (status : Status) → IsServed words old new report.outcome → IsWritten report before after status → IsServed words old new status
written_served [] old new report before after status served written = served
written_served (first ∷ others) old new report before after status served written = record {
  hung_up = served.hung_up;
  keeps = served.keeps;
  dials = elim served.dials [
    | inl same ↦ inl same
    | inr once ↦ inr (record {
      drives = once.drives;
      q = once.q;
      asks = once.asks;
      refused = once.refused;
      dial = once.dial;
      of_session = written_of_session report before after status once.of_session written;
    })
  ];
}
