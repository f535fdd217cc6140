-- For files that can be compared `check` answers what is so, and nothing else but for failures.
use Rattle.std.proofs.Common.{◌≡◌, ◌∙◌, ℕ, List, [], ◌∷◌, Option, inl, inr, sym, ap, subst, arith}
use Rattle.edge_io.specs.Outside.{ToldFiles, ToldSink, AppendsTo}
use Rattle.lts_base.specs.declared.item.Item.{Item}
use Rattle.lts_base.specs.System.{System, IsSystem, label_count}
use Rattle.lts_base.specs.Alphabet.{Alphabet}
use Rattle.lts_base.specs.Order.{IsFirstViolation}
use Rattle.lts_base.specs.Reached.{Row, IsWithin}
use Rattle.lts_base.specs.Related.{rows_of, row_of}
use Rattle.std.proofs.lemmas.List.{length-map}
use Rattle.conf_decide.specs.declared.answer.Answer.{Answer}
use Rattle.conf_decide.specs.declared.answer.Answer.TheVariants.{Conforms as Related, Violates as Broken, Undecided as Cut}
use Rattle.conf_decide.specs.declared.answer.What.{What}
use Rattle.conf_decide.specs.declared.answer.What.TheVariants.{Pairs, ImpMembers, SpecMembers}
use Rattle.conf_decide.specs.Decided.{IsDecided, IsPast}
use Rattle.conf_decide.proofs.OnceLaws.{first_once}
use Rattle.tool_base.specs.declared.report.Report.{Report}
use Rattle.tool_base.specs.Contents.{Contents}
use Rattle.tool_base.proofs.InputOnce.{sources_apart}
use Rattle.cmd_check.specs.declared.outcome.CheckOutcome.{CheckOutcome}
use Rattle.cmd_check.specs.declared.outcome.CheckOutcome.TheVariants.{Conforms, Violates, Undecided, NotEnabled}
use Rattle.cmd_check.specs.Asked.{AskedCheck, check_sources, limits_asked}
use Rattle.cmd_check.specs.Check.{outcome_of, check_page, check_command, IsVerdict}
use Rattle.cmd_check.proofs.OnceLaws.{lacking_unable, sound_pair, verdict_moved}
use Rattle.torx_tool.specs.declared.commands.Name.{Name}
use Rattle.torx_tool.specs.declared.status.Status.{Status}
use Rattle.torx_tool.specs.Commands.{check_status}
use Rattle.torx_tool.specs.Status.{IsFailure}
use Rattle.cmd_drive.specs.Dialled.{Dialled}
use Rattle.torx_tool.specs.Run.{ReportsBy, IsReportOn, IsWritten}
use Rattle.torx_tool.specs.Headline.{AskForCheck, IsComparable, HasRoom, HasRoomUpTo, IsCutBy, IsRight, Tells, Prints, IsSettled}
use Rattle.torx_tool.proofs.ExactLaws.{IsByReport, by_page}
use Rattle.torx_tool.proofs.RoomLaws.{cut_up_to}

-- pairs that are within the limits pass none
none_past : (q : AskedCheck) (rows : List Row) (what : What) (reached : ℕ) → IsWithin (limits_asked q) rows → ¬ IsPast (limits_asked q) rows what reached
none_past q rows ImpMembers reached within (is, over) = omega (arith, is, over, within.imp)
none_past q rows SpecMembers reached within (low, is, over) = omega (arith, is, over, within.spec)
none_past q rows Pairs reached within (low, fair, over, is) = omega (arith, over, within.pairs)

-- a decision that is cut passes a limit
no_room : (q : AskedCheck) (s i : System) (what : What) (reached depth : ℕ) → IsCutBy q s i what reached depth → ¬ HasRoom q s i
no_room q s i what reached depth (rows, traces, cut) room = none_past q rows what reached (room rows traces cut.first) cut.past

-- and it passes it before a violation is met
no_room_up_to : (q : AskedCheck) (s i : System) (what : What) (reached depth : ℕ) (σ : List Item) (x : Item) → IsSystem s → IsSystem i → IsCutBy q s i what reached depth → IsFirstViolation q.mode i s σ x → ¬ HasRoomUpTo q s i σ
no_room_up_to q s i what reached depth σ x spec imp (rows, traces, cut) first room =
    none_past q rows what reached (room rows traces cut.first (cut_up_to q.mode (limits_asked q) i s what reached depth rows traces σ x imp spec cut first.violation)) cut.past

-- a failure says nothing
no_cut_fails : (what : What) (reached depth : ℕ) (status : Status) → IsFailure status → ¬ (status ≡ check_status (Undecided what reached depth))
no_cut_fails what reached depth status failure is = subst IsFailure is failure

pub failed : (q : AskedCheck) (a : Alphabet) (s i : System) (old new : ToldSink) (status : Status) → IsFailure status → IsSettled q a s i old new status
failed q a s i old new status failure = record {
  right = inr failure;
  conforms = λ conforming room. inr failure;
  violates = λ σ x first room. inr failure;
  cut = λ what reached depth is. absurd (no_cut_fails what reached depth status failure is);
}

-- the right outcome of a decision
right_of : (q : AskedCheck) (s i : System) (answer : Answer) → IsDecided q.mode (limits_asked q) i s answer → IsRight q s i (outcome_of answer)
right_of q s i (Related relation) h = record { conforming = h.conforming; rows = rows_of relation; traces = h.reached.0; reached = h.reached.1; number = sym (length-map relation.pairs (row_of relation.left relation.right)) }
right_of q s i (Broken trace shown) h = h.0
right_of q s i (Cut what reached depth) h = h

-- an outcome that is told is right
right_told : (q : AskedCheck) (a : Alphabet) (s i : System) (outcome : CheckOutcome) (text : List ℕ) → Tells q a s i outcome text → IsRight q s i outcome
right_told q a s i outcome text (answer, decided, is, told) = subst (IsRight q s i) (sym is) (right_of q s i answer decided)

cut_is : (n m : ℕ) (what other : What) (d e : ℕ) → check_status (Undecided what n d) ≡ check_status (Undecided other m e) → (what ≡ other) × (n ≡ m) × (d ≡ e)
cut_is n m what other d e is = (cc is, cc is, cc is)

-- the right outcome, where it is answered and printed, settles the matter
settled : (q : AskedCheck) (a : Alphabet) (s i : System) (outcome : CheckOutcome) (old new : ToldSink) (status : Status) → IsSystem s → IsSystem i → label_count i ≡ label_count s → IsRight q s i outcome → Prints q a s i outcome old new status →
    IsSettled q a s i old new status
settled q a s i (Conforms n) old new status spec imp same right prints = record {
  right = inl (Conforms n, right, prints);
  conforms = λ conforming room. inl (n, right, prints);
  violates = λ σ x first room. absurd (right.conforming σ x first.violation);
  cut = λ what reached depth is. absurd (no_number n what reached depth (sym prints.answer ∙ is));
}
  where
    no_number : (m : ℕ) (what : What) (reached depth : ℕ) → ¬ (check_status (Conforms m) ≡ check_status (Undecided what reached depth))
    no_number m what reached depth e = cc e
settled q a s i (Violates trace shown) old new status spec imp same right prints = record {
  right = inl (Violates trace shown, right, prints);
  conforms = λ conforming room. absurd (conforming trace shown right.violation);
  violates = λ σ x first room.
      let once = first_once q.mode i s trace σ shown x imp same right first in
      let is : Violates trace shown ≡ Violates σ x = ap (λ τ. Violates τ shown) once.0 ∙ ap (Violates σ) once.1 in
      inl (subst (λ (o : CheckOutcome). Prints q a s i o old new status) is prints);
  cut = λ what reached depth is. absurd (no_trace what reached depth (sym prints.answer ∙ is));
}
  where
    no_trace : (what : What) (reached depth : ℕ) → ¬ (check_status (Violates trace shown) ≡ check_status (Undecided what reached depth))
    no_trace what reached depth e = cc e
settled q a s i (Undecided what reached depth) old new status spec imp same right prints = record {
  right = inl (Undecided what reached depth, right, prints);
  conforms = λ conforming room. absurd (no_room q s i what reached depth right room);
  violates = λ σ x first room. absurd (no_room_up_to q s i what reached depth σ x spec imp right first room);
  cut = λ other n d is. no_room q s i what reached depth right;
}
settled q a s i (NotEnabled name state input) old new status spec imp same right prints = absurd right

-- what is written of a report on the right outcome
printed : (q : AskedCheck) (a : Alphabet) (s i : System) (outcome : CheckOutcome) (text : List ℕ) (report : Report Status) (old new : ToldSink) (status : Status) → IsSystem s → IsSystem i → label_count i ≡ label_count s → Tells q a s i outcome text →
    report ≡ record { outcome = check_status outcome; text = text } → IsWritten report old new status → IsSettled q a s i old new status
printed q a s i outcome text report old new status spec imp same tells is (inl (out, memory, none)) = failed q a s i old new status (subst IsFailure (sym memory) tt)
printed q a s i outcome text report old new status spec imp same tells is (inr (some, inr (fault, fails, front))) = failed q a s i old new status (subst IsFailure (sym fault) tt)
printed q a s i outcome text report old new status spec imp same tells is (inr (some, inl (due, appended))) =
    settled q a s i outcome old new status spec imp same (right_told q a s i outcome text tells) (record {
      answer = due ∙ ap (λ (r : Report Status). r.outcome) is;
      text = text;
      tells = tells;
      printed = subst (λ (r : Report Status). AppendsTo old new r.text) is appended;
    })

-- what is written of a failure is one
written_failure : (report : Report Status) (old new : ToldSink) (status : Status) → IsFailure report.outcome → IsWritten report old new status → IsFailure status
written_failure report old new status failure (inl (out, memory, none)) = subst IsFailure (sym memory) tt
written_failure report old new status failure (inr (some, inl (due, appended))) = subst IsFailure (sym due) failure
written_failure report old new status failure (inr (some, inr (fault, fails, front))) = subst IsFailure (sym fault) tt

-- what a report by the page of the two files settles
by_report : (contents : Contents) (words : List (List ℕ)) (q : AskedCheck) (a : Alphabet) (s i : System) (report : Report Status) (old new : ToldSink) (status : Status) → IsComparable contents words q a s i → IsByReport (check_page contents q) check_status report →
    IsWritten report old new status → IsSettled q a s i old new status
by_report contents words q a s i report old new status files (inl failure) written = failed q a s i old new status (written_failure report old new status failure written)
by_report contents words q a s i report old new status files (inr (inl refusal)) written =
    absurd (sources_apart contents (check_sources q) refusal.refusal a (s ∷ i ∷ []) files.told refusal.refuses files.systems)
by_report contents words q a s i report old new status files (inr (inr answer)) written =
    go (verdict_moved contents q answer.outcome answer.text a s i files.told answer.answers files.systems)
  where
    sound : IsSystem s × IsSystem i × (label_count i ≡ label_count s)
    sound = sound_pair contents q a s i files.systems

    go : IsVerdict q a s i answer.outcome answer.text → IsSettled q a s i old new status
    go (inl (lacks, text)) = absurd (lacking_unable q i answer.outcome lacks files.able)
    go (inr (able, tells)) = printed q a s i answer.outcome answer.text report old new status sound.0 sound.1 sound.2 tells answer.is written

-- the report on words that ask for `check`
check_reported : (run : Dialled) (words : List (List ℕ)) (q : AskedCheck) (old new : ToldFiles) (report : Report Status) → AskForCheck words q → IsReportOn run words old new report → IsByReport (check_page old.content q) check_status report
check_reported run [] q old new report ask h = absurd ask
check_reported run (first ∷ others) q old new report (is, ask) h =
    by_page check_command check_status others q old new report ask (subst (λ (n : Option Name). ReportsBy run n others old new report) is h)

-- what `check` answers for files that can be compared settles the matter
pub headline : (run : Dialled) (words : List (List ℕ)) (files later : ToldFiles) (report : Report Status) (old new : ToldSink) (status : Status) → IsReportOn run words files later report → IsWritten report old new status →
    (q : AskedCheck) (a : Alphabet) (s i : System) → IsComparable files.content words q a s i → IsSettled q a s i old new status
headline run words files later report old new status reported written q a s i comparable =
    by_report files.content words q a s i report old new status comparable (check_reported run words q files later report comparable.asks reported) written
