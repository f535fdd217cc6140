-- Promise: what `check` answers, and when.
use Rattle.std.specs.Prelude.{◌≡◌, true, ℕ, List, [], ◌∷◌, ◌++◌, codes, decimal, length, ◌⊎◌, if◌then◌else◌}
use Rattle.lts_base.specs.declared.item.Mode.{Mode}
use Rattle.lts_base.specs.declared.item.Mode.TheVariants.{Ioco}
use Rattle.lts_base.specs.declared.limits.TheConstants.{USUAL_PAIRS, USUAL_MEMBERS}
use Rattle.lts_base.specs.Alphabet.{Alphabet, text_at}
use Rattle.lts_base.specs.Shape.{IsInputEnabled}
use Rattle.lts_base.specs.System.{System}
use Rattle.lts_base.specs.Reached.{Limits}
use Rattle.lts_shape.specs.Inputs.{IsFirstMissing}
use Rattle.conf_decide.specs.declared.answer.Answer.{Answer}
use Rattle.conf_decide.specs.declared.answer.Answer.TheVariants.{Conforms as Related, Violates as Broken, Undecided as Cut}
use Rattle.conf_decide.specs.declared.answer.What.{What}
use Rattle.conf_decide.specs.declared.answer.What.TheVariants.{Pairs, ImpMembers, SpecMembers}
use Rattle.conf_decide.specs.Decided.{IsDecided}
use Rattle.cert_text.specs.declared.cert.CertBody.TheVariants.{Related as InRelation, Shown}
use Rattle.cert_text.specs.Printed.{printed}
use Rattle.trace_text.specs.Items.{item_text}
use Rattle.trace_text.specs.Lines.{line, items_text}
use Rattle.tool_base.specs.Contents.{Contents}
use Rattle.tool_base.specs.Sources.{AreSystems, RefusesSources, all_names}
use Rattle.tool_base.specs.Pages.{Page, Command}
use Rattle.cmd_check.specs.declared.outcome.CheckOutcome.{CheckOutcome}
use Rattle.cmd_check.specs.declared.outcome.CheckOutcome.TheVariants.{Conforms, Violates, Undecided, NotEnabled}
use Rattle.cmd_check.specs.Asked.{AskedCheck, check_shape, check_of, check_sources, limits_asked}

-- a decision, as `check` answers it: of a relation only the number of its pairs is told
abbrev pub outcome_of : Answer → CheckOutcome
outcome_of (Related relation) = Conforms (length relation.pairs)
outcome_of (Broken trace shown) = Violates trace shown
outcome_of (Cut what reached depth) = Undecided what reached depth

abbrev pub what_text : What → List ℕ
what_text Pairs = codes "undecided pairs="
what_text ImpMembers = codes "undecided imp-members="
what_text SpecMembers = codes "undecided spec-members="

-- the text of an answer, by the texts of the labels
abbrev pub check_text : List (List ℕ) → CheckOutcome → List ℕ
check_text texts (Conforms pairs) = line (codes "conforms pairs=") (decimal pairs)
check_text texts (Violates trace shown) =
    line (codes "violates") [] ++ (items_text (codes "after ") texts trace ++ line (codes "shows ") (item_text texts shown))
check_text texts (Undecided what reached depth) = what_text what ++ (decimal reached ++ line (codes " depth=") (decimal depth))
check_text texts (NotEnabled name state input) =
    codes "not-enabled " ++ (name ++ (codes " state=" ++ (decimal state ++ line (codes " input=") (text_at texts input))))

-- the text of a certificate for the answer; a decision that is cut has none, and its usual text
abbrev pub cert_text : Mode → List (List ℕ) → Answer → List ℕ
cert_text mode texts (Related relation) = printed texts (record { mode = mode; body = InRelation relation })
cert_text mode texts (Broken trace shown) = printed texts (record { mode = mode; body = Shown trace shown })
cert_text mode texts (Cut what reached depth) = check_text texts (Undecided what reached depth)

-- the text of the answer: its certificate, if that is asked for, or the usual text
abbrev pub answer_text : AskedCheck → List (List ℕ) → Answer → List ℕ
answer_text asked texts answer = if asked.cert then cert_text asked.mode texts answer else check_text texts (outcome_of answer)

-- the implementation has to be input-enabled, and isn't: of its states that end some trace this is the least one that lacks an
-- input, and the least such input
abbrev pub IsLacking : AskedCheck → System → CheckOutcome → Type 0
IsLacking asked i (NotEnabled name state input) = (asked.enabled ≡ true) × (name ≡ asked.imp) × IsFirstMissing i i.inputs state input
IsLacking asked i other = ⊥

-- the implementation is input-enabled, if it has to be
abbrev pub IsAble : AskedCheck → System → Type 0
IsAble asked i = asked.enabled ≡ true → IsInputEnabled i

-- the answer for the specification s and the implementation i over the alphabet a, with its text: an input that is lacking, or else
-- the right decision
abbrev pub IsVerdict : AskedCheck → Alphabet → System → System → CheckOutcome → List ℕ → Type 0
IsVerdict asked a s i outcome text = (IsLacking asked i outcome × (text ≡ check_text a.texts outcome)) ⊎
    (IsAble asked i × ((answer : Answer) × IsDecided asked.mode (limits_asked asked) i s answer × (outcome ≡ outcome_of answer) ×
    (text ≡ answer_text asked a.texts answer)))

-- the limits of a decision where no number is given
abbrev pub usual_limits : Limits
usual_limits = record { pairs = USUAL_PAIRS; imp = USUAL_MEMBERS; spec = USUAL_MEMBERS }

-- the same where there are no options: the right decision by ioco within the usual limits, with its usual text
abbrev pub IsUsualVerdict : Alphabet → System → System → CheckOutcome → List ℕ → Type 0
IsUsualVerdict a s i outcome text =
    (answer : Answer) × IsDecided Ioco usual_limits i s answer × (outcome ≡ outcome_of answer) × (text ≡ check_text a.texts outcome)

-- the answer and its text for the files
pub record AnswersCheck (contents : Contents) (asked : AskedCheck) (outcome : CheckOutcome) (text : List ℕ) : Type 0 where
  pub a : Alphabet
  pub s : System
  pub i : System
  pub systems : AreSystems contents (check_sources asked) a (s ∷ i ∷ [])
  pub verdict : IsVerdict asked a s i outcome text

abbrev pub check_page : Contents → AskedCheck → Page CheckOutcome
check_page contents asked = record {
  names = all_names (check_sources asked);
  refuses = RefusesSources contents (check_sources asked);
  answers = AnswersCheck contents asked;
}

abbrev pub check_command : Command AskedCheck CheckOutcome
check_command = record { shape = check_shape; asked = check_of; page = check_page }
