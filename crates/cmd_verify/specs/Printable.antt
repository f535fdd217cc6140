-- Private: certificates that can be checked, and answers of `verify` whose items are of an alphabet.
use Rattle.std.specs.Prelude.{◌≡◌, ℕ, ◌+◌, ◌<◌, ◌^◌, List, length, All, Result}
use Rattle.lts_base.specs.declared.item.Item.{Item}
use Rattle.lts_base.specs.declared.relation.Relation.{Relation}
use Rattle.lts_base.specs.System.{System, IsItemOf}
use Rattle.trace_text.specs.Items.{IsPrintable}
use Rattle.cert_text.specs.declared.cert.Cert.{Cert}
use Rattle.cert_text.specs.declared.cert.CertBody.{CertBody}
use Rattle.cert_text.specs.declared.cert.CertBody.TheVariants.{Related, Shown}
use Rattle.cert_check.specs.declared.checked.Checked.{Checked}
use Rattle.cert_check.specs.declared.checked.Checked.TheVariants.{NotClosed}
use Rattle.cert_check.specs.Checks.{IsListOf, IsPairOf}
use Rattle.edge_io.specs.Outside.{ToldFiles}
use Rattle.tool_base.specs.Kinds.{cert_kind}
use Rattle.tool_base.specs.Loads.{Loads}
use Rattle.tool_base.specs.declared.refusal.Stop.{Stop}
use Rattle.tool_base.specs.declared.report.Report.{Report}
use Rattle.tool_base.specs.declared.systems.TwoSystems.{TwoSystems}
use Rattle.cmd_verify.specs.declared.outcome.VerifyOutcome.{VerifyOutcome}
use Rattle.cmd_verify.specs.declared.outcome.VerifyOutcome.TheVariants.{Accepted, Rejected}
use Rattle.cmd_verify.specs.Verify.{IsVerified, verify_text}

-- the file of this name is read as a certificate for the two systems, the specification first, or refused
abbrev pub LoadsCert : ToldFiles → ToldFiles → List ℕ → TwoSystems → Result Cert Stop → Type 0
LoadsCert old new name both result = Loads (cert_kind both.labels both.second.states both.first.states) old new name result

-- the pairs name lists of the relation, which are lists of states; a `u32` counts the pairs
pub record IsCheckableRelation (i s : System) (relation : Relation) : Type 0 where
  pub pairs : All (IsPairOf (length relation.left) (length relation.right)) relation.pairs
  pub left : All (IsListOf i) relation.left
  pub right : All (IsListOf s) relation.right
  pub few : length relation.pairs + 1 < 2 ^ 32

-- the items are of the alphabet, and a `u32` counts them
pub record IsCheckableTrace (s : System) (trace : List Item) (shown : Item) : Type 0 where
  pub items : All (IsItemOf s) trace
  pub item : IsItemOf s shown
  pub few : length trace + 1 < 2 ^ 32

abbrev pub IsCheckable : System → System → CertBody → Type 0
IsCheckable i s (Related relation) = IsCheckableRelation i s relation
IsCheckable i s (Shown trace shown) = IsCheckableTrace s trace shown

-- the item of the reason is one of an alphabet with n labels
abbrev pub IsPrintableReason : ℕ → Checked → Type 0
IsPrintableReason n (NotClosed pair item) = IsPrintable n item
IsPrintableReason n other = Unit {0}

abbrev pub IsPrintableOutcome : ℕ → VerifyOutcome → Type 0
IsPrintableOutcome n Accepted = Unit {0}
IsPrintableOutcome n (Rejected why) = IsPrintableReason n why

-- the report is the right one for these systems and the certificate, with its text
pub record IsReportOn (both : TwoSystems) (cert : Cert) (report : Report VerifyOutcome) : Type 0 where
  pub verified : IsVerified both.second both.first cert report.outcome
  pub text : report.text ≡ verify_text both.labels.texts report.outcome
