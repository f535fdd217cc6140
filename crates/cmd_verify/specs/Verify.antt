-- Promise: what `verify` answers, and when: whether the systems of two files are as a certificate states.
use Rattle.std.specs.Prelude.{◌≡◌, ℕ, List, [], ◌∷◌, ◌++◌, codes, decimal, ◌⊎◌}
use Rattle.lts_base.specs.Alphabet.{Alphabet}
use Rattle.lts_base.specs.Conformance.{IsConforming, IsViolation}
use Rattle.lts_base.specs.declared.item.Mode.{Mode}
use Rattle.lts_base.specs.System.{System}
use Rattle.trace_text.specs.Items.{item_text}
use Rattle.trace_text.specs.Lines.{line}
use Rattle.cert_text.specs.declared.cert.Cert.{Cert}
use Rattle.cert_text.specs.declared.cert.CertBody.{CertBody}
use Rattle.cert_text.specs.declared.cert.CertBody.TheVariants.{Related, Shown}
use Rattle.cert_check.specs.declared.checked.Checked.{Checked}
use Rattle.cert_check.specs.declared.checked.Checked.TheVariants.{Accepted as Fine, Start, Outputs, NotClosed, NotAllowed, NotShown, Allowed}
use Rattle.cert_check.specs.Checks.{IsCheckedRelation, IsCheckedTrace}
use Rattle.tool_base.specs.declared.refusal.Refusal.{Refusal}
use Rattle.tool_base.specs.Contents.{Contents}
use Rattle.tool_base.specs.Kinds.{IsFile, RefusesFile, cert_kind}
use Rattle.tool_base.specs.Sources.{AreSystems, RefusesSources, all_names}
use Rattle.tool_base.specs.Pages.{Page, Command}
use Rattle.cmd_verify.specs.declared.outcome.VerifyOutcome.{VerifyOutcome}
use Rattle.cmd_verify.specs.declared.outcome.VerifyOutcome.TheVariants.{Accepted, Rejected}
use Rattle.cmd_verify.specs.Asked.{AskedVerify, verify_shape, verify_of, verify_sources}

-- what the check of a certificate answers, as `verify` answers it
abbrev pub outcome_of : Checked → VerifyOutcome
outcome_of Fine = Accepted
outcome_of Start = Rejected Start
outcome_of (Outputs pair) = Rejected (Outputs pair)
outcome_of (NotClosed pair item) = Rejected (NotClosed pair item)
outcome_of (NotAllowed place) = Rejected (NotAllowed place)
outcome_of NotShown = Rejected NotShown
outcome_of Allowed = Rejected Allowed

-- the reason of a rejection, by the texts of the labels
abbrev pub reason_text : List (List ℕ) → Checked → List ℕ
reason_text texts Fine = []
reason_text texts Start = codes "start"
reason_text texts (Outputs pair) = codes "outputs pair=" ++ decimal pair
reason_text texts (NotClosed pair item) = codes "not-closed pair=" ++ (decimal pair ++ (codes " item=" ++ item_text texts item))
reason_text texts (NotAllowed place) = codes "not-allowed place=" ++ decimal place
reason_text texts NotShown = codes "not-shown"
reason_text texts Allowed = codes "allowed"

abbrev pub verify_text : List (List ℕ) → VerifyOutcome → List ℕ
verify_text texts Accepted = line (codes "accepted") []
verify_text texts (Rejected why) = line (codes "rejected ") (reason_text texts why)

-- what the check of the statement answers, for the implementation i and the specification s
abbrev pub IsCheckedBody : Mode → System → System → CertBody → Checked → Type 0
IsCheckedBody mode i s (Related relation) checked = IsCheckedRelation mode i s relation checked
IsCheckedBody mode i s (Shown trace shown) checked = IsCheckedTrace mode i s trace shown checked

-- the outcome is that of the check of the certificate, by the conformance that the certificate names
abbrev pub IsVerified : System → System → Cert → VerifyOutcome → Type 0
IsVerified i s cert outcome = (checked : Checked) × IsCheckedBody cert.mode i s cert.body checked × (outcome ≡ outcome_of checked)

-- the systems are had, but the file of the certificate is refused
pub record RefusesCertOf (contents : Contents) (asked : AskedVerify) (r : Refusal) : Type 0 where
  pub a : Alphabet
  pub s : System
  pub i : System
  pub systems : AreSystems contents (verify_sources asked) a (s ∷ i ∷ [])
  pub refused : RefusesFile (cert_kind a i.states s.states) contents asked.cert r

-- the answer and its text for the files
pub record AnswersVerify (contents : Contents) (asked : AskedVerify) (outcome : VerifyOutcome) (text : List ℕ) : Type 0 where
  pub a : Alphabet
  pub s : System
  pub i : System
  pub cert : Cert
  pub systems : AreSystems contents (verify_sources asked) a (s ∷ i ∷ [])
  pub read : IsFile (cert_kind a i.states s.states) contents asked.cert cert
  pub verified : IsVerified i s cert outcome
  pub told : text ≡ verify_text a.texts outcome

abbrev pub verify_page : Contents → AskedVerify → Page VerifyOutcome
verify_page contents asked = record {
  names = all_names (verify_sources asked) ++ asked.cert ∷ [];
  refuses = λ r. RefusesSources contents (verify_sources asked) r ⊎ RefusesCertOf contents asked r;
  answers = AnswersVerify contents asked;
}

abbrev pub verify_command : Command AskedVerify VerifyOutcome
verify_command = record { shape = verify_shape; asked = verify_of; page = verify_page }

-- the systems are as the certificate states: the implementation conforms; or the trace and the item are a violation
abbrev pub IsTrue : Mode → System → System → CertBody → Type 0
IsTrue mode i s (Related relation) = IsConforming mode i s
IsTrue mode i s (Shown trace shown) = IsViolation mode i s trace shown
