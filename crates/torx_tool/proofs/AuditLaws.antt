-- What `verify` accepts is true, and what `check` certifies is accepted.
use Rattle.std.proofs.Common.{◌≡◌, ◌∙◌, true, ℕ, ◌≤◌, List, [], ◌∷◌, length, Option, Some, IfSome, refl, sym, ap, subst, inl, inr, arith}
use Rattle.edge_io.specs.Outside.{ToldFiles, ToldSink}
use Rattle.lts_base.specs.declared.limits.TheConstants.{MOST_CERT_BYTES}
use Rattle.lts_base.specs.System.{System, IsSystem}
use Rattle.lts_base.specs.Alphabet.{Alphabet}
use Rattle.lts_base.proofs.AllowedLaws.{IsAllowed-has}
use Rattle.cert_text.specs.declared.cert.Cert.{Cert}
use Rattle.cert_text.specs.Certificate.{IsCertOf}
use Rattle.cert_text.specs.declared.cert.CertBody.TheVariants.{Related, Shown}
use Rattle.cert_check.specs.declared.checked.Checked.TheVariants.{Accepted as Fine}
use Rattle.conf_decide.specs.declared.answer.Answer.{Answer}
use Rattle.conf_decide.specs.declared.answer.Answer.TheVariants.{Conforms as InRelation, Violates as Broken, Undecided as Cut}
use Rattle.conf_decide.specs.Decided.{IsDecided}
use Rattle.tool_base.specs.declared.report.Report.{Report}
use Rattle.tool_base.specs.declared.refusal.Refusal.{Refusal}
use Rattle.tool_base.specs.declared.refusal.Refusal.TheVariants.{TooLong, BadFile, BadLabels, Divergent, FileFault}
use Rattle.tool_base.specs.Contents.{Contents, AreTold}
use Rattle.tool_base.specs.Sources.{Sources, AreSystems}
use Rattle.tool_base.proofs.StoppedLaws.{systems_over, systems_sound}
use Rattle.tool_base.proofs.StateLaws.{systems_small}
use Rattle.cmd_check.specs.declared.outcome.CheckOutcome.{CheckOutcome}
use Rattle.cmd_check.specs.declared.outcome.CheckOutcome.TheVariants.{Conforms, Violates, Undecided, NotEnabled}
use Rattle.cmd_check.specs.Asked.{AskedCheck, check_sources, limits_asked}
use Rattle.cmd_check.specs.Check.{outcome_of, answer_text, cert_text, IsLacking, IsVerdict}
use Rattle.cmd_check.proofs.FitLaws.{AreAskable, relation_fits, trace_fits}
use Rattle.cmd_check.proofs.AskableLaws.{limits_askable}
use Rattle.cmd_check.proofs.CertLaws.{trace_of, shown_of, relation_sound, relation_within}
use Rattle.cmd_verify.specs.declared.outcome.VerifyOutcome.{VerifyOutcome}
use Rattle.cmd_verify.specs.declared.outcome.VerifyOutcome.TheVariants.{Accepted as Verified, Rejected as Unverified}
use Rattle.cmd_verify.specs.Asked.{AskedVerify, verify_sources}
use Rattle.cmd_verify.specs.Verify.{IsTrue, IsCheckedBody, AnswersVerify, verify_page, verify_text, verify_command}
use Rattle.cmd_verify.proofs.CheckLaws.{accepted_true}
use Rattle.cmd_verify.proofs.OnceLaws.{verified_moved}
use Rattle.torx_tool.specs.declared.commands.Name.{Name}
use Rattle.torx_tool.specs.declared.status.Status.{Status}
use Rattle.torx_tool.specs.declared.status.Status.TheVariants.{Accepted}
use Rattle.torx_tool.specs.Commands.{verify_status}
use Rattle.torx_tool.specs.Status.{refusal_status, IsFailure}
use Rattle.cmd_drive.specs.Dialled.{Dialled}
use Rattle.torx_tool.specs.Run.{ReportsBy, IsReportOn, IsWritten}
use Rattle.torx_tool.specs.Exact.{IsBut, IsByCommand, IsByName, IsAnswered}
use Rattle.torx_tool.specs.Audit.{AskForVerify, IsVerifiable, IsMade, IsCertified, IsAudit}
use Rattle.torx_tool.proofs.ExactLaws.{IsByReport, by_page}

-- ---- what is accepted is true

-- no refusal is an acceptance, and no failure
refused_unaccepted : (r : Refusal) → ¬ (refusal_status r ≡ Accepted)
refused_unaccepted (TooLong name) is = cc is
refused_unaccepted (BadFile name error) is = cc is
refused_unaccepted (BadLabels error) is = cc is
refused_unaccepted (Divergent name cycle) is = cc is
refused_unaccepted (FileFault name) is = cc is

failure_unaccepted : (status : Status) → IsFailure status → ¬ (status ≡ Accepted)
failure_unaccepted status failure is = subst IsFailure is failure

accepted_verified : (o : VerifyOutcome) → verify_status o ≡ Accepted → o ≡ Verified
accepted_verified Verified is = refl
accepted_verified (Unverified why) is = absurd (cc is)

-- a report of an acceptance is an answer of the page
accepted_answers : (contents : Contents) (v : AskedVerify) (report : Report Status) → IsByReport (verify_page contents v) verify_status report → report.outcome ≡ Accepted → (t : List ℕ) × AnswersVerify contents v Verified t
accepted_answers contents v report (inl failure) is = absurd (failure_unaccepted report.outcome failure is)
accepted_answers contents v report (inr (inl refusal)) is = absurd (refused_unaccepted refusal.refusal (sym (ap (λ (x : Report Status). x.outcome) refusal.is) ∙ is))
accepted_answers contents v report (inr (inr answer)) is =
    let verified : answer.outcome ≡ Verified = accepted_verified answer.outcome (sym (ap (λ (x : Report Status). x.outcome) answer.is) ∙ is) in
    (answer.text, subst (λ (o : VerifyOutcome). AnswersVerify contents v o answer.text) verified answer.answers)

-- an acceptance is written of a report of one
written_accepted : (report : Report Status) (old new : ToldSink) (status : Status) → IsWritten report old new status → status ≡ Accepted → report.outcome ≡ Accepted
written_accepted report old new status (inl (out, memory, none)) is = absurd (failure_unaccepted status (subst IsFailure (sym memory) tt) is)
written_accepted report old new status (inr (some, inl (due, appended))) is = sym due ∙ is
written_accepted report old new status (inr (some, inr (fault, fails, front))) is = absurd (failure_unaccepted status (subst IsFailure (sym fault) tt) is)

-- the report on words that ask for `verify`
verify_reported : (run : Dialled) (words : List (List ℕ)) (v : AskedVerify) (old new : ToldFiles) (report : Report Status) → AskForVerify old.content words v → IsReportOn run words old new report → IsByReport (verify_page old.content v) verify_status report
verify_reported run [] v old new report ask h = absurd ask
verify_reported run (first ∷ others) v old new report (is, ask, told) h =
    by_page verify_command verify_status others v old new report ask (subst (λ (n : Option Name). ReportsBy run n others old new report) is h)

-- the contents of its files are told
verify_told : (contents : Contents) (words : List (List ℕ)) (v : AskedVerify) → AskForVerify contents words v → AreTold contents (verify_page contents v).names
verify_told contents [] v ask = absurd ask
verify_told contents (first ∷ others) v ask = ask.2

holds : (run : Dialled) (words : List (List ℕ)) (v : AskedVerify) (files later : ToldFiles) (report : Report Status) (old new : ToldSink) (status : Status) → AskForVerify files.content words v → IsReportOn run words files later report → IsWritten report old new status →
    (a : Alphabet) (s i : System) (cert : Cert) → IsVerifiable files.content v a s i cert → status ≡ Accepted → IsTrue cert.mode i s cert.body
holds run words v files later report old new status ask reported written a s i cert is accepted =
    let (t, answers) = accepted_answers files.content v report (verify_reported run words v files later report ask reported) (written_accepted report old new status written accepted) in
    let sound = systems_sound files.content (verify_sources v) a (s ∷ i ∷ []) is.systems in
    accepted_true i s cert (sound 1 i (omega arith)) (sound 0 s (omega arith)) (verified_moved files.content v Verified t a s i cert (verify_told files.content words v ask) answers is.systems is.read)

-- ---- what is certified is accepted

-- an input that is lacking is no decision
lacking_unmade : (q : AskedCheck) (i : System) (o : CheckOutcome) → IsLacking q i o → ¬ IsMade o
lacking_unmade q i (Conforms pairs) lacks made = lacks
lacking_unmade q i (Violates trace shown) lacks made = lacks
lacking_unmade q i (Undecided what reached depth) lacks made = made
lacking_unmade q i (NotEnabled name state input) lacks made = made

module _ (contents : Contents) (v : AskedVerify) (text : List ℕ) (has : contents v.cert ≡ Some text) where
  -- the page accepts a text that is a certificate and true
  answers_with : (a : Alphabet) (s i : System) (cert : Cert) → AreSystems contents (verify_sources v) a (s ∷ i ∷ []) → length text ≤ MOST_CERT_BYTES → IsCertOf a i.states s.states text cert → IsCheckedBody cert.mode i s cert.body Fine →
      AnswersVerify contents v Verified (verify_text a.texts Verified)
  answers_with a s i cert systems short is fine = record {
    a = a;
    s = s;
    i = i;
    cert = cert;
    systems = systems;
    read = record { content = text; has = rw has refl; short = short; reads = is };
    verified = (Fine, fine, refl);
    told = refl;
  }

  -- so it accepts the certificate of a right answer
  answers_for : (q : AskedCheck) (a : Alphabet) (s i : System) (answer : Answer) (outcome : CheckOutcome) → AreSystems contents (verify_sources v) a (s ∷ i ∷ []) → AreAskable (limits_asked q) → IsMade outcome → IsDecided q.mode (limits_asked q) i s answer → outcome ≡ outcome_of answer →
      text ≡ cert_text q.mode a.texts answer → AnswersVerify contents v Verified (verify_text a.texts Verified)
  answers_for q a s i (InRelation r) outcome systems askable made h is told =
      let sound = systems_sound contents (verify_sources v) a (s ∷ i ∷ []) systems in
      let small = systems_small contents (verify_sources v) a (s ∷ i ∷ []) systems in
      answers_with a s i (record { mode = q.mode; body = Related r }) systems
      (subst (λ (t : List ℕ). length t ≤ MOST_CERT_BYTES) (sym told) (relation_fits a.texts q.mode (limits_asked q) i s r askable h (sound 1 i (omega arith)) (sound 0 s (omega arith)) (small 1 i (omega arith)) (small 0 s (omega arith))))
      (record {
        text = told;
        sound = relation_sound q.mode (limits_asked q) i s r h;
        within = relation_within q.mode (limits_asked q) i s r h (sound 1 i (omega arith)) (sound 0 s (omega arith));
      }) h.valid
  answers_for q a s i (Broken trace shown) outcome systems askable made h is told =
      let sound = systems_sound contents (verify_sources v) a (s ∷ i ∷ []) systems in
      let over = systems_over contents (verify_sources v) a (s ∷ i ∷ []) systems in
      let alphabet = systems.split.alphabet.alphabet in
      answers_with a s i (record { mode = q.mode; body = Shown trace shown }) systems
      (subst (λ (t : List ℕ). length t ≤ MOST_CERT_BYTES) (sym told) (trace_fits a.texts q.mode (limits_asked q) i s trace shown h.1.0 h.1.1 askable h.1.2 (sound 1 i (omega arith)) (sound 0 s (omega arith)) alphabet.labels))
      (record {
        text = told;
        sound = (
          trace_of a s alphabet (over 0 s (omega arith)) (sound 0 s (omega arith)) trace (IsAllowed-has q.mode s trace h.0.violation.allowed),
          shown_of a i alphabet (over 1 i (omega arith)) (sound 1 i (omega arith)) trace shown h.0.violation.shown,
        );
        within = tt;
      }) h.0.violation
  answers_for q a s i (Cut what reached depth) outcome systems askable made h is told = absurd (subst IsMade is made)

  answers_certified : IsCertified contents v text → (t : List ℕ) × AnswersVerify contents v Verified t
  answers_certified c = go c.answers.verdict
    where
      systems : AreSystems contents (verify_sources v) c.answers.a (c.answers.s ∷ c.answers.i ∷ [])
      systems = subst (λ (z : Sources). AreSystems contents z c.answers.a (c.answers.s ∷ c.answers.i ∷ [])) c.sources c.answers.systems

      with_cert : (answer : Answer) → text ≡ answer_text c.q c.answers.a.texts answer → text ≡ cert_text c.q.mode c.answers.a.texts answer
      with_cert answer told = rw c.certifies at told

      go : IsVerdict c.q c.answers.a c.answers.s c.answers.i c.outcome text → (t : List ℕ) × AnswersVerify contents v Verified t
      go (inl (lacks, told)) = absurd (lacking_unmade c.q c.answers.i c.outcome lacks c.made)
      go (inr (able, (answer, decided, is, told))) =
          (verify_text c.answers.a.texts Verified, answers_for c.q c.answers.a c.answers.s c.answers.i answer c.outcome systems (limits_askable c.words c.q c.asks) c.made decided is (with_cert answer told))

accepts : (run : Dialled) (words : List (List ℕ)) (v : AskedVerify) (contents : Contents) (status : Status) → AskForVerify contents words v → IsAnswered run contents words status →
    (text : List ℕ) → contents v.cert ≡ Some text → IsCertified contents v text → IsBut Accepted status
accepts run [] v contents status ask answered text has c = absurd ask
accepts run (first ∷ others) v contents status (is, ask, told) answered text has c =
    let by : IsByCommand verify_command verify_status true contents others status = subst (λ (n : Option Name). IsByName run n contents others status) is answered in
    let (t, answers) = answers_certified contents v text has c in
    (by.page v ask told).answered refl Verified t answers

-- what `verify` answers is sound, and complete for what `check` certifies
pub audited : (run : Dialled) (words : List (List ℕ)) (files later : ToldFiles) (report : Report Status) (old new : ToldSink) (status : Status) → IsReportOn run words files later report → IsWritten report old new status → IsAnswered run files.content words status →
    (v : AskedVerify) → AskForVerify files.content words v → IsAudit files.content v status
audited run words files later report old new status reported written answered v ask = record {
  holds = holds run words v files later report old new status ask reported written;
  accepts = accepts run words v files.content status ask answered;
}
