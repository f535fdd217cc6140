-- Without options the verdict is that by ioco within the usual limits.
use Rattle.std.proofs.Common.{◌≡◌, ◌∙◌, ℕ, false, true, List, [], Result, Ok, Err, IfOk, inl, inr, refl, sym, ap, subst}
use Rattle.std.proofs.lemmas.Bool.{false≢true}
use Rattle.lts_base.specs.declared.item.Mode.{Mode}
use Rattle.lts_base.specs.declared.item.Mode.TheVariants.{Ioco}
use Rattle.lts_base.specs.declared.memory.Memory.{Memory}
use Rattle.lts_base.specs.declared.divergence.Divergence.TheVariants.{Refuse}
use Rattle.lts_base.specs.declared.limits.TheConstants.{USUAL_PAIRS, USUAL_MEMBERS}
use Rattle.lts_base.specs.Reached.{Limits}
use Rattle.torx_words.specs.Meaning.{by_prefix}
use Rattle.lts_base.specs.System.{System}
use Rattle.lts_base.specs.Alphabet.{Alphabet}
use Rattle.conf_decide.specs.declared.answer.Answer.{Answer}
use Rattle.conf_decide.specs.Decided.{IsDecided}
use Rattle.tool_base.specs.declared.report.Report.{Report}
use Rattle.tool_base.specs.declared.systems.TwoSystems.{TwoSystems}
use Rattle.cmd_check.specs.declared.outcome.CheckOutcome.{CheckOutcome}
use Rattle.cmd_check.specs.Asked.{AskedCheck, limits_asked}
use Rattle.cmd_check.specs.Check.{check_text, outcome_of, answer_text, IsVerdict, IsUsualVerdict, usual_limits}
use Rattle.cmd_check.specs.Printable.{IsReportOn, IsUsualReportOn}
use Rattle.cmd_check.proofs.OnceLaws.{lacking_unable}

-- no option asks for anything
record IsUsual (asked : AskedCheck) : Type 0 where
  pub mode : asked.mode ≡ Ioco
  pub enabled : asked.enabled ≡ false
  pub cert : asked.cert ≡ false
  pub limits : limits_asked asked ≡ usual_limits

-- without a certificate the text is the usual one
plain_text : (asked : AskedCheck) (texts : List (List ℕ)) (answer : Answer) → asked.cert ≡ false → answer_text asked texts answer ≡ check_text texts (outcome_of answer)
plain_text asked texts answer plain = rw plain refl

usual_verdict : (asked : AskedCheck) (a : Alphabet) (s i : System) (o : CheckOutcome) (t : List ℕ) → IsUsual asked → IsVerdict asked a s i o t → IsUsualVerdict a s i o t
usual_verdict asked a s i o t usual (inl (lacks, text)) = absurd (lacking_unable asked i o lacks (λ asks. absurd (false≢true (sym usual.enabled ∙ asks))))
usual_verdict asked a s i o t usual (inr (able, (answer, decided, is, text))) =
    let by_mode : IsDecided Ioco (limits_asked asked) i s answer = subst (λ (m : Mode). IsDecided m (limits_asked asked) i s answer) usual.mode decided in
    let within : IsDecided Ioco usual_limits i s answer = subst (λ (l : Limits). IsDecided Ioco l i s answer) usual.limits by_mode in
    (answer, within, is, text ∙ plain_text asked a.texts answer usual.cert ∙ ap (check_text a.texts) (sym is))

-- what no options ask for
abbrev pub usual_asked : AskedCheck
usual_asked = record {
  sorting = by_prefix;
  divergence = Refuse;
  mode = Ioco;
  enabled = false;
  cert = false;
  pairs = USUAL_PAIRS;
  members = USUAL_MEMBERS;
  spec = [];
  imp = [];
}

pub usual_due : (both : TwoSystems) (r : Result (Report CheckOutcome) Memory) → IfOk r (IsReportOn usual_asked both) → IfOk r (IsUsualReportOn both)
usual_due both (Err e) h = tt
usual_due both (Ok report) h =
    usual_verdict usual_asked both.labels both.first both.second report.outcome report.text (record { mode = refl; enabled = refl; cert = refl; limits = refl }) h
