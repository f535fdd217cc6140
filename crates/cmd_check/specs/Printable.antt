-- Private: answers of `check` whose items are of an alphabet.
use Rattle.std.specs.Prelude.{◌≡◌, false, true, ℕ, ◌^◌, ◌<◌, List, length, All, Option, Some, None, ◌⊎◌}
use Rattle.lts_base.specs.declared.item.Mode.{Mode}
use Rattle.lts_base.specs.Alphabet.{Alphabet}
use Rattle.lts_shape.specs.Inputs.{IsFirstMissing}
use Rattle.cert_text.specs.declared.cert.CertBody.{CertBody}
use Rattle.cert_text.specs.declared.cert.CertBody.TheVariants.{Related as InRelation, Shown}
use Rattle.cert_text.specs.Certificate.{IsRelation}
use Rattle.cert_text.specs.Printed.{printed}
use Rattle.conf_decide.specs.declared.answer.Answer.{Answer}
use Rattle.conf_decide.specs.declared.answer.Answer.TheVariants.{Conforms as Related, Violates as Broken, Undecided as Cut}
use Rattle.conf_decide.specs.declared.answer.Verdict.{Verdict}
use Rattle.conf_decide.specs.declared.answer.Verdict.TheVariants.{Conforms as Counted, Violates as Violated, Undecided as CutShort}
use Rattle.lts_base.specs.System.{System}
use Rattle.conf_decide.specs.Told.{told_of}
use Rattle.conf_decide.specs.Decided.{IsDecided, IsSettled, Decides, Settles}
use Rattle.walk_core.specs.Walked.{Walked}
use Rattle.trace_text.specs.Items.{IsPrintable, IsItem, IsShown}
use Rattle.tool_base.specs.declared.report.Report.{Report}
use Rattle.tool_base.specs.declared.systems.TwoSystems.{TwoSystems}
use Rattle.cmd_check.specs.declared.decision.Found.{Found}
use Rattle.cmd_check.specs.declared.decision.Found.TheVariants.{Whole, Told}
use Rattle.cmd_check.specs.Asked.{AskedCheck, limits_asked}
use Rattle.cmd_check.specs.Check.{IsAble, IsVerdict, IsUsualVerdict, outcome_of, check_text}
use Rattle.cmd_check.specs.declared.outcome.CheckOutcome.{CheckOutcome}
use Rattle.cmd_check.specs.declared.outcome.CheckOutcome.TheVariants.{Conforms, Violates, Undecided, NotEnabled}

-- the items of the answer are of an alphabet with n labels
abbrev pub IsPrintableOutcome : ℕ → CheckOutcome → Type 0
IsPrintableOutcome n (Conforms pairs) = Unit {0}
IsPrintableOutcome n (Violates trace shown) = All (IsPrintable n) trace × IsPrintable n shown
IsPrintableOutcome n (Undecided what reached depth) = Unit {0}
IsPrintableOutcome n (NotEnabled name state input) = input < n

-- the report has this outcome and this text
abbrev pub IsReportOf : CheckOutcome → List ℕ → Report CheckOutcome → Type 0
IsReportOf outcome text report = (report.outcome ≡ outcome) × (report.text ≡ text)

-- the report has this outcome, with its usual text
abbrev pub Reports : List (List ℕ) → CheckOutcome → Report CheckOutcome → Type 0
Reports texts outcome report = IsReportOf outcome (check_text texts outcome) report

-- the first state and input that the implementation lacks, where it has to be input-enabled
abbrev pub IsMissing : AskedCheck → System → Option (ℕ × ℕ) → Type 0
IsMissing asked i None = IsAble asked i
IsMissing asked i (Some pair) = (asked.enabled ≡ true) × IsFirstMissing i i.inputs pair.0 pair.1

-- what a certificate of the answer states is of the alphabet
abbrev pub IsStated : Alphabet → Answer → Type 0
IsStated a (Related relation) = IsRelation relation
IsStated a (Broken trace shown) = All (IsItem a) trace × IsShown a shown
IsStated a (Cut what reached depth) = Unit {0}

-- a `u32` counts the pairs of the verdict
abbrev pub HasFewPairs : Verdict → Type 0
HasFewPairs (Counted pairs) = pairs < 2 ^ 32
HasFewPairs (Violated trace shown) = Unit {0}
HasFewPairs (CutShort what reached depth) = Unit {0}

-- the answer can be told by its usual text and by its certificate
pub record IsTellable (a : Alphabet) (answer : Answer) : Type 0 where
  pub few : HasFewPairs (told_of answer)
  pub printable : IsPrintableOutcome (length a.texts) (outcome_of answer)
  pub stated : IsStated a answer

abbrev pub HasFewPairsIn : CertBody → Type 0
HasFewPairsIn (InRelation relation) = length relation.pairs < 2 ^ 32
HasFewPairsIn (Shown trace shown) = Unit {0}

-- the outcome that a certificate states
abbrev pub outcome_stated : CertBody → CheckOutcome
outcome_stated (InRelation relation) = Conforms (length relation.pairs)
outcome_stated (Shown trace shown) = Violates trace shown

-- the text of the certificate that states this
abbrev pub cert_stated : Mode → List (List ℕ) → CertBody → List ℕ
cert_stated mode texts body = printed texts (record { mode = mode; body = body })

-- the report is the right one for these systems, with its text
abbrev pub IsReportOn : AskedCheck → TwoSystems → Report CheckOutcome → Type 0
IsReportOn asked both report = IsVerdict asked both.labels both.first both.second report.outcome report.text

-- the same where there are no options
abbrev pub IsUsualReportOn : TwoSystems → Report CheckOutcome → Type 0
IsUsualReportOn both report = IsUsualVerdict both.labels both.first both.second report.outcome report.text

-- a verdict, as `check` answers it
abbrev pub outcome_told : Verdict → CheckOutcome
outcome_told (Counted pairs) = Conforms pairs
outcome_told (Violated trace shown) = Violates trace shown
outcome_told (CutShort what reached depth) = Undecided what reached depth

-- the decision is cut
abbrev pub IsCutShort : Verdict → Type 0
IsCutShort (Counted pairs) = ⊥
IsCutShort (Violated trace shown) = ⊥
IsCutShort (CutShort what reached depth) = Unit {0}

-- no certificate is printed of the verdict: none is asked for, or the decision is cut
abbrev pub HasUsualText : AskedCheck → Verdict → Type 0
HasUsualText asked verdict = (asked.cert ≡ false) ⊎ IsCutShort verdict

-- what the decision found: the whole answer; or, where no certificate is asked for or the decision is cut, what is told of it
abbrev pub IsFound : AskedCheck → System → System → Found → Type 0
IsFound asked i s (Whole answer) = IsDecided asked.mode (limits_asked asked) i s answer
IsFound asked i s (Told verdict) = IsSettled asked.mode (limits_asked asked) i s verdict × HasUsualText asked verdict

-- the same between two walks, with the limits of their members
abbrev pub IsFoundBy : AskedCheck → Walked → Walked → Found → Type 0
IsFoundBy asked imp spec (Whole answer) = Decides asked.mode asked.pairs imp spec answer
IsFoundBy asked imp spec (Told verdict) = Settles asked.mode asked.pairs imp spec verdict × HasUsualText asked verdict
