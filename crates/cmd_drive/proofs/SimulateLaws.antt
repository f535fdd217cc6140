-- What a rehearsal makes of two systems.
use Rattle.std.proofs.Common.{◌≡◌, ◌∙◌, ℕ, ◌+◌, ◌%◌, ◌^◌, ◌-◌, ◌<◌, ◌≤◌, List, [], ◌∷◌, length, map, Option, None, Some, Result, Ok, Err, IfOk, inl, inr, ◌⊎◌, refl, sym, ap, subst, arith}
use Rattle.lts_base.specs.declared.item.Item.{Item}
use Rattle.lts_base.specs.declared.memory.Memory.{Memory}
use Rattle.lts_base.proofs.Leads.{Leads-here}
use Rattle.lts_base.proofs.AllowedLaws.{IsAllowed-nil}
use Rattle.std.proofs.lemmas.List.Elements.{All-head, All-tail}
use Rattle.lts_base.specs.declared.divergence.Divergence.{Divergence}
use Rattle.lts_base.specs.declared.divergence.Divergence.TheVariants.{Refuse, Quiet}
use Rattle.lts_base.specs.Alphabet.{Alphabet, IsAlphabet, IsOver as IsSystemOver}
use Rattle.lts_base.specs.System.{System, IsSystem, quieted}
use Rattle.lts_base.specs.Shape.{IsConvergent, IsConvergentOrQuiet, IsInputEnabled}
use Rattle.lts_shape.specs.Inputs.{IsFirstMissing}
use Rattle.log_text.specs.declared.log.Digest.{Digest}
use Rattle.log_text.specs.declared.log.Ending.{Ending}
use Rattle.log_text.specs.declared.log.Ending.TheVariants.{Full as EndFull}
use Rattle.log_text.specs.declared.log.Head.{Head}
use Rattle.log_text.specs.declared.log.Head.TheVariants.{Two}
use Rattle.log_text.specs.declared.log.Log.{Log}
use Rattle.log_text.specs.Logs.{AreLogsOf}
use Rattle.log_text.specs.Printed.{printed}
use Rattle.rand_pcg.specs.Lcg.{Lcg}
use Rattle.rand_pcg.specs.Pcg.{pcg32}
use Rattle.session_core.specs.declared.verdict.Verdict.{Verdict}
use Rattle.session_core.specs.Logged.{log_of}
use Rattle.session_core.specs.declared.setup.Setup.{Setup}
use Rattle.session_core.specs.Seat.{Seat, opened}
use Rattle.session_core.specs.Table.{Rules, Sitting, opening}
use Rattle.session_core.specs.Judged.{AreLabelled}
use Rattle.session_core.proofs.JudgeLaws.{reading_judged}
use Rattle.sim_core.specs.Acts.{Simulated, GivesSimulated}
use Rattle.sim_core.specs.Seen.{IsSimulated}
use Rattle.sim_session.specs.Rehearsed.{AreJoined, IsRehearsal, IsRehearsed, drive_result, over_simulation}
use Rattle.tool_base.specs.declared.report.Report.{Report}
use Rattle.tool_base.specs.declared.systems.DigestedPair.{DigestedPair}
use Rattle.tool_base.specs.Contents.{Contents}
use Rattle.tool_base.specs.Kinds.{IsDigestOfFile}
use Rattle.tool_base.specs.Loaded.{AreDigestedOver}
use Rattle.tool_base.specs.Sources.{Sources, AreSettled, AreSystems, read_as}
use Rattle.walk_core.specs.declared.choice.Choice.{Choice}
use Rattle.walk_core.specs.declared.walk.WalkError.{WalkError}
use Rattle.walk_core.specs.declared.walk.WalkError.TheVariants.{Full as WalkFull, Memory as WalkMemory}
use Rattle.walk_core.specs.Refused.{RefusesOpening}
use Rattle.walk_core.specs.Walked.{Walked, IsFresh}
use Rattle.cmd_drive.specs.declared.guide.Guide.{Guide}
use Rattle.cmd_drive.specs.declared.outcome.DriveOutcome.{DriveOutcome}
use Rattle.cmd_drive.specs.declared.rehearse_outcome.RehearseOutcome.{RehearseOutcome}
use Rattle.cmd_drive.specs.declared.outcome.DriveOutcome.TheVariants.{Ended, Full, Broken}
use Rattle.cmd_drive.specs.AskedRehearse.{AskedRehearse, IsRehearseInRange, rehearse_sources}
use Rattle.cmd_drive.specs.Drive.{ending_by}
use Rattle.cmd_drive.specs.Given.{IsReportOn}
use Rattle.cmd_drive.specs.Guides.{answer_of, seeded}
use Rattle.cmd_drive.specs.Rehearse.{AnswersRehearse, IsOfSession, IsRehearsalOf, IsOutcomeSo, IsStarted, IsUnstarted, next_number, rehearse_rules, simulation}
use Rattle.cmd_drive.specs.Simulating.{IsFitPair, IsLackingReport, IsPairReport, IsSimulationReport, IsWalkReport, Simulates}
use Rattle.cmd_drive.proofs.JudgeLaws.{IsRead, drive_read, opening_read}
use Rattle.cmd_drive.proofs.RuleLaws.{drive_rules}

-- the simulation has the labels of the session
pub joined : (asked : AskedRehearse) (pair : DigestedPair) (r : Rules) (x : Simulated Lcg) (number : ℕ) → IsFitPair pair → r ≡ rehearse_rules asked pair.labels pair.first → x ≡ simulation pair.second pair.labels number → AreJoined r x
joined asked pair r x number fit rules is = rw (rules, is) (record {
  simulated = record {
    system = fit.second;
    alphabet = subst (λ (n : ℕ). IsAlphabet (record { texts = pair.labels.texts; inputs = n })) (sym fit.second_over.inputs) fit.alphabet;
    over = record { inputs = refl; outputs = fit.second_over.outputs ∙ ap (λ (n : ℕ). length pair.labels.texts - n) (sym fit.second_over.inputs) };
  };
  inputs = fit.second_over.inputs ∙ sym fit.first_over.inputs;
  texts = refl;
  start = refl;
})

-- a rehearsal goes by the same rules all along
rehearsal_rules : {C R : Type 0} (answer : C → List ℕ → List Item → Choice × C) (step : R → ℕ × R) (p q : Seat) (c d : C) (x : Simulated R) (result : Result Verdict WalkError) → IsRehearsal answer step p c x result q d → q.rules ≡ p.rules
rehearsal_rules answer step p q c d x result went = drive_rules answer (GivesSimulated step) (over_simulation p c x) (drive_result result) (over_simulation q d went.last) went.drove

-- what a rehearsal came to
pub simulates : (asked : AskedRehearse) (pair : DigestedPair) (p q : Seat) (guide after : Guide) (x : Simulated Lcg) (result : Result Verdict WalkError) (outcome : DriveOutcome) → guide ≡ seeded asked.seed →
    x ≡ simulation pair.second pair.labels (next_number asked.seed) → IsRehearsal answer_of pcg32 p guide x result q after → IsRehearsed p.rules x.system q.sitting → IsOutcomeSo result outcome → Simulates asked pair p q outcome
simulates asked pair p q guide after x result outcome guided is went rehearsed ended = record {
  result = result;
  after = after;
  went = rw (guided, is) at went;
  rehearsed = rw is at rehearsed;
  outcome_is = ended;
  rules = rehearsal_rules answer_of pcg32 p q guide after x result went;
}

-- the report on a session that was rehearsed
pub walk_told : (asked : AskedRehearse) (pair : DigestedPair) (p q : Seat) (head : Head) (outcome : DriveOutcome) (log : Log) (ending : Ending) (result : Result (Report DriveOutcome) Memory) →
    IsFresh p.walked → p.walked.limit ≡ asked.members → p.rules ≡ rehearse_rules asked pair.labels pair.first → p.sitting ≡ opening → Simulates asked pair p q outcome → ending ≡ ending_by outcome → log ≡ log_of q.rules q.sitting ending →
    IfOk result (IsReportOn head log outcome) → IfOk result (IsWalkReport asked pair head)
walk_told asked pair p q head outcome log ending (Err memory) fresh limit rules opens made ends is told = tt
walk_told asked pair p q head outcome log ending (Ok report) fresh limit rules opens made ends is told = record {
  sitting = q.sitting;
  started = subst (λ (x : DriveOutcome). IsStarted asked (rehearse_rules asked pair.labels pair.first) pair.second pair.labels x q.sitting) (sym told.outcome_is) (record {
    begin = p;
    end = q;
    after = made.after;
    result = made.result;
    fresh = fresh;
    limit = limit;
    rules = rules;
    opens = opens;
    went = made.went;
    outcome_is = made.outcome_is;
    sitting_is = refl;
  });
  rehearsed = subst (λ (r : Rules). IsRehearsed r pair.second q.sitting) rules made.rehearsed;
  text_is = told.text_is ∙ ap (λ (l : Log). printed (record { head = head; log = l })) logged;
  read = subst (λ (l : Log). AreLogsOf report.text (record { head = head; log = l } ∷ [])) logged told.read;
}
  where
    logged : log ≡ log_of (rehearse_rules asked pair.labels pair.first) q.sitting (ending_by report.outcome)
    logged = is ∙ ap (λ (r : Rules). log_of r q.sitting ending) (made.rules ∙ rules) ∙ ap (λ (e : Ending). log_of (rehearse_rules asked pair.labels pair.first) q.sitting e) ends
        ∙ ap (λ (x : DriveOutcome). log_of (rehearse_rules asked pair.labels pair.first) q.sitting (ending_by x)) (sym told.outcome_is)

-- what the session is made of
abbrev pub setup_of : AskedRehearse → Setup
setup_of asked = record { mode = asked.mode; patience = asked.patience; steps = asked.steps; goal = None }

-- the same for a session as it was opened
pub walk_begun : (asked : AskedRehearse) (pair : DigestedPair) (w : Walked) (p q : Seat) (head : Head) (outcome : DriveOutcome) (log : Log) (ending : Ending) (result : Result (Report DriveOutcome) Memory) → p ≡ opened w pair.labels (setup_of asked) →
    IsFresh w → w.limit ≡ asked.members → w.system ≡ pair.first → Simulates asked pair p q outcome → ending ≡ ending_by outcome → log ≡ log_of q.rules q.sitting ending → IfOk result (IsReportOn head log outcome) → IfOk result (IsWalkReport asked pair head)
walk_begun asked pair w p q head outcome log ending result is fresh limit system made ends logged told =
    walk_told asked pair p q head outcome log ending result (rw is fresh) (rw is limit) (rw is (ap (λ (s : System). rehearse_rules asked pair.labels s) system)) (rw is refl) made ends logged told

-- a session over a simulation isn't broken
started_whole : (asked : AskedRehearse) (r : Rules) (i : System) (a : Alphabet) (outcome : DriveOutcome) (sitting : Sitting) → IsStarted asked r i a outcome sitting → ¬ (outcome ≡ Broken)
started_whole asked r i a outcome sitting started broke = go started.result started.outcome_is
  where
    go : (result : Result Verdict WalkError) → IsOutcomeSo result outcome → ⊥
    go (Ok verdict) is = let same : Ended verdict ≡ Broken = sym is ∙ broke in cc same
    go (Err (WalkFull reached)) is = let same : Full reached ≡ Broken = sym is ∙ broke in cc same
    go (Err WalkMemory) is = is

-- some events are read as where it led
started_read : (asked : AskedRehearse) (r : Rules) (i : System) (a : Alphabet) (outcome : DriveOutcome) (sitting : Sitting) → IsStarted asked r i a outcome sitting → IsRead r sitting
started_read asked r i a outcome sitting started =
    let read = drive_read answer_of (GivesSimulated pcg32) (over_simulation started.begin (seeded asked.seed) (simulation i a (next_number asked.seed))) (drive_result started.result) (over_simulation started.end started.after started.went.last) started.went.drove in
    subst (λ (x : Sitting). IsRead r x) (sym started.sitting_is) (subst (λ (x : Rules). IsRead x started.end.sitting) started.rules read)

-- the rules of a rehearsal are labelled
rehearse_labelled : (asked : AskedRehearse) (pair : DigestedPair) → IsFitPair pair → AreLabelled (rehearse_rules asked pair.labels pair.first)
rehearse_labelled asked pair fit = record {
  system = fit.first;
  alphabet = subst (λ (n : ℕ). IsAlphabet (record { texts = pair.labels.texts; inputs = n })) (sym fit.first_over.inputs) fit.alphabet;
  over = record { inputs = refl; outputs = fit.first_over.outputs ∙ ap (λ (n : ℕ). length pair.labels.texts - n) (sym fit.first_over.inputs) };
}

-- the report on a session is one of the command
pub started_told : (asked : AskedRehearse) (pair : DigestedPair) (result : Result (Report DriveOutcome) Memory) → IsFitPair pair → IsInputEnabled pair.second → IfOk result (IsWalkReport asked pair (Two asked.divergence pair.digest)) →
    IfOk result (IsSimulationReport asked pair)
started_told asked pair (Err memory) fit enabled told = tt
started_told asked pair (Ok report) fit enabled told =
    let read = started_read asked (rehearse_rules asked pair.labels pair.first) pair.second pair.labels report.outcome told.sitting told.started in
    record {
      enabled = enabled;
      sitting = told.sitting;
      goes = inr told.started;
      rehearsed = told.rehearsed;
      whole = started_whole asked (rehearse_rules asked pair.labels pair.first) pair.second pair.labels report.outcome told.sitting told.started;
      text_is = told.text_is;
      read = told.read;
      judged = reading_judged (rehearse_rules asked pair.labels pair.first) read.0 told.sitting (ending_by report.outcome) (rehearse_labelled asked pair fit) read.1;
    }

-- so is that on a session whose set after the empty trace is too large
pub unstarted_told : (asked : AskedRehearse) (pair : DigestedPair) (reached : ℕ) (result : Result (Report DriveOutcome) Memory) → IsRehearseInRange asked → IsFitPair pair → IsInputEnabled pair.second → RefusesOpening pair.first asked.members (WalkFull reached) →
    IfOk result (IsReportOn (Two asked.divergence pair.digest) (log_of (rehearse_rules asked pair.labels pair.first) opening EndFull) (Full reached)) → IfOk result (IsSimulationReport asked pair)
unstarted_told asked pair reached (Err memory) range fit enabled refuses told = tt
unstarted_told asked pair reached (Ok report) range fit enabled refuses told =
    let is : report.outcome ≡ Full reached = told.outcome_is in
    let read = opening_read (rehearse_rules asked pair.labels pair.first) range.patience.0 in
    subst (λ (o : DriveOutcome). IsOfSession asked pair.labels pair.first pair.second pair.digest o report.text) (sym is) (record {
      enabled = enabled;
      sitting = opening;
      goes = inl (record { reached = reached; refuses = refuses; outcome_is = refl; sitting_is = refl });
      rehearsed = record { trace = (pair.second.start, Leads-here pair.second pair.second.start); strange = refl; sound = IsAllowed-nil asked.mode pair.first };
      whole = other;
      text_is = told.text_is;
      read = told.read;
      judged = reading_judged (rehearse_rules asked pair.labels pair.first) read.0 opening EndFull (rehearse_labelled asked pair fit) read.1;
    })
  where
    other : ¬ (Full reached ≡ Broken)
    other e = cc e

-- ---- the files

-- the second of two systems that are read so is convergent, or read as quiet
second_sound : (d : Divergence) (plain : List System) (s i : System) → AreSettled d plain → s ∷ i ∷ [] ≡ map (read_as d) plain → IsConvergentOrQuiet i
second_sound d [] s i settled is = absurd (short (ap length is))
  where
    short : ¬ (length (s ∷ i ∷ []) ≡ 0)
    short e = omega (arith, e)
second_sound d (x ∷ []) s i settled is = absurd (short (ap length is))
  where
    short : ¬ (length (s ∷ i ∷ []) ≡ 1)
    short e = omega (arith, e)
second_sound Refuse (x ∷ y ∷ rest) s i settled is =
    let same : i ≡ y = cc is in
    inl (subst IsConvergent (sym same) (All-head IsConvergent y rest (All-tail IsConvergent x (y ∷ rest) settled)))
second_sound Quiet (x ∷ y ∷ rest) s i settled is = let same : i ≡ quieted y = cc is in inr (ap (λ (t : System). t.divergence) same)

-- the systems that were loaded can be rehearsed
pub fit_pair : (contents : Contents) (sources : Sources) (name : List ℕ) (pair : DigestedPair) → AreSystems contents sources pair.labels (pair.first ∷ pair.second ∷ []) → IsDigestOfFile contents name pair.digest → AreDigestedOver pair → IsFitPair pair
fit_pair contents sources name pair are digested over = record {
  alphabet = over.alphabet;
  first = over.first_sound;
  second = over.second_sound;
  first_over = over.first_over;
  second_over = over.second_over;
  sound = second_sound sources.divergence are.plain pair.first pair.second are.settled are.read;
  digest = digested.sound;
}

-- the report on them is the answer by the files
pub rehearse_answers : (contents : Contents) (asked : AskedRehearse) (pair : DigestedPair) (report : Report RehearseOutcome) → AreSystems contents (rehearse_sources asked) pair.labels (pair.first ∷ pair.second ∷ []) →
    IsDigestOfFile contents asked.spec pair.digest → IsPairReport asked pair report → AnswersRehearse contents asked report.outcome report.text
rehearse_answers contents asked pair report are digested told = record {
  a = pair.labels;
  s = pair.first;
  i = pair.second;
  digest = pair.digest;
  systems = are;
  digested = digested;
  answers = told;
}

-- an input that is lacking is told
pub lacking_told : (asked : AskedRehearse) (pair : DigestedPair) (state input : ℕ) (result : Result (Report RehearseOutcome) Memory) → IsFirstMissing pair.second pair.second.inputs state input →
    IfOk result (IsLackingReport asked.imp pair.labels.texts state input) → IfOk result (IsPairReport asked pair)
lacking_told asked pair state input (Err memory) missing told = tt
lacking_told asked pair state input (Ok report) missing (outcome, text) =
    subst (λ (o : RehearseOutcome). IsRehearsalOf asked pair.labels pair.first pair.second pair.digest o report.text) (sym outcome) (refl, missing, text)

-- an input that is lacking is a label
pub lacking_label : (pair : DigestedPair) (state input : ℕ) → IsFitPair pair → IsFirstMissing pair.second pair.second.inputs state input → input < length pair.labels.texts
lacking_label pair state input fit missing = omega (arith, missing.input, fit.second_over.inputs, fit.alphabet.inputs)
