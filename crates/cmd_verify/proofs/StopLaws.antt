-- What `verify` answers for the file of its certificate, seen from before the systems were loaded.
use Rattle.std.proofs.Common.{◌≡◌, List, ℕ, [], ◌∷◌, Result, Ok, Err, IfOk, inr, subst}
use Rattle.edge_io.specs.Outside.{ToldFiles, KeepsFiles}
use Rattle.lts_base.specs.declared.memory.Memory.{Memory}
use Rattle.cert_text.specs.declared.cert.Cert.{Cert}
use Rattle.tool_base.specs.declared.refusal.Stop.{Stop}
use Rattle.tool_base.specs.declared.report.Report.{Report}
use Rattle.tool_base.specs.declared.systems.TwoSystems.{TwoSystems}
use Rattle.tool_base.specs.Contents.{Contents}
use Rattle.tool_base.specs.Kinds.{IsFile, RefusesFile, cert_kind}
use Rattle.tool_base.specs.Sources.{AreSystems, all_names}
use Rattle.tool_base.specs.Pages.{IsStopped}
use Rattle.tool_base.proofs.StoppedLaws.{IsStopped-wider, same_contents, within_right}
use Rattle.cmd_verify.specs.declared.outcome.VerifyOutcome.{VerifyOutcome}
use Rattle.cmd_verify.specs.Asked.{AskedVerify, verify_sources}
use Rattle.cmd_verify.specs.Verify.{AnswersVerify, verify_page}
use Rattle.cmd_verify.specs.Printable.{IsReportOn}

-- what stopped the loading of the certificate stopped the command
pub cert_stopped : (old mid new : ToldFiles) (asked : AskedVerify) (both : TwoSystems) (stop : Stop) → KeepsFiles old mid → AreSystems old.content (verify_sources asked) both.labels (both.first ∷ both.second ∷ []) →
    IsStopped mid new (asked.cert ∷ []) (RefusesFile (cert_kind both.labels both.second.states both.first.states) mid.content asked.cert) stop →
    IsStopped old new (verify_page old.content asked).names (verify_page old.content asked).refuses stop
cert_stopped old mid new asked both stop keeps systems h =
    IsStopped-wider old mid new (asked.cert ∷ []) (verify_page old.content asked).names (RefusesFile (cert_kind both.labels both.second.states both.first.states) mid.content asked.cert) (verify_page old.content asked).refuses stop keeps
    (λ name has. within_right (all_names (verify_sources asked)) (asked.cert ∷ []) name has)
    (λ r why. inr (record {
      a = both.labels;
      s = both.first;
      i = both.second;
      systems = systems;
      refused = subst (λ (c : Contents). RefusesFile (cert_kind both.labels both.second.states both.first.states) c asked.cert r) (same_contents old mid keeps) why;
    })) h

-- the report on the certificate is on the page
pub report_answers : (old mid : ToldFiles) (asked : AskedVerify) (both : TwoSystems) (cert : Cert) (report : Report VerifyOutcome) → KeepsFiles old mid →
    AreSystems old.content (verify_sources asked) both.labels (both.first ∷ both.second ∷ []) → IsFile (cert_kind both.labels both.second.states both.first.states) mid.content asked.cert cert → IsReportOn both cert report →
    AnswersVerify old.content asked report.outcome report.text
report_answers old mid asked both cert report keeps systems file on = record {
  a = both.labels;
  s = both.first;
  i = both.second;
  cert = cert;
  systems = systems;
  read = subst (λ (c : Contents). IsFile (cert_kind both.labels both.second.states both.first.states) c asked.cert cert) (same_contents old mid keeps) file;
  verified = on.verified;
  told = on.text;
}
