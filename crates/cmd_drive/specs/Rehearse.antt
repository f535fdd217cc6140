-- Promise: what `rehearse` answers, and when: the log of a session with an implementation that is simulated.
-- Tretmans (2008), on-the-fly testing, and the soundness of tests.
use Rattle.std.specs.Prelude.{◌≡◌, ℕ, ◌+◌, ◌%◌, ◌^◌, List, [], ◌∷◌, length, Option, None, Result, Ok, Err, ◌⊎◌}
use Rattle.lts_base.specs.declared.item.Item.{Item}
use Rattle.lts_base.specs.Alphabet.{Alphabet}
use Rattle.lts_base.specs.System.{System}
use Rattle.lts_base.specs.Shape.{IsInputEnabled}
use Rattle.lts_shape.specs.Inputs.{IsFirstMissing}
use Rattle.log_text.specs.declared.log.Digest.{Digest}
use Rattle.log_text.specs.declared.log.Named.{Named}
use Rattle.log_text.specs.Logs.{AreLogsOf}
use Rattle.log_text.specs.Printed.{printed}
use Rattle.rand_core.specs.Pcg32Seed.{pcg32_seed}
use Rattle.rand_pcg.specs.Lcg.{Lcg}
use Rattle.rand_pcg.specs.Pcg.{pcg32, pcg32_of_seed}
use Rattle.walk_core.specs.declared.walk.WalkError.{WalkError}
use Rattle.walk_core.specs.declared.walk.WalkError.TheVariants.{Full as WalkFull, Memory as WalkMemory}
use Rattle.walk_core.specs.Refused.{RefusesOpening}
use Rattle.walk_core.specs.Walked.{IsFresh}
use Rattle.session_core.specs.declared.verdict.Verdict.{Verdict}
use Rattle.session_core.specs.Table.{Rules, Sitting, opening}
use Rattle.session_core.specs.Seat.{Seat}
use Rattle.session_core.specs.Judged.{IsJudged, verdict_of}
use Rattle.sim_core.specs.Acts.{Simulated}
use Rattle.sim_session.specs.Rehearsed.{IsRehearsal, IsRehearsed}
use Rattle.tool_base.specs.declared.refusal.Refusal.{Refusal}
use Rattle.tool_base.specs.Contents.{Contents}
use Rattle.tool_base.specs.Kinds.{IsDigestOfFile}
use Rattle.tool_base.specs.Pages.{Page, Command}
use Rattle.tool_base.specs.Sources.{AreSystems, RefusesSources, all_names}
use Rattle.cmd_check.specs.declared.outcome.CheckOutcome.TheVariants.{NotEnabled as Lacking}
use Rattle.cmd_check.specs.Check.{check_text}
use Rattle.cmd_drive.specs.declared.guide.Guide.{Guide}
use Rattle.cmd_drive.specs.declared.outcome.DriveOutcome.{DriveOutcome}
use Rattle.cmd_drive.specs.declared.outcome.DriveOutcome.TheVariants.{Ended, Full, Broken}
use Rattle.cmd_drive.specs.declared.rehearse_outcome.RehearseOutcome.{RehearseOutcome}
use Rattle.cmd_drive.specs.declared.rehearse_outcome.RehearseOutcome.TheVariants.{NotEnabled, Went}
use Rattle.cmd_drive.specs.AskedRehearse.{AskedRehearse, rehearse_shape, rehearse_of, rehearse_sources}
use Rattle.cmd_drive.specs.Drive.{log_by}
use Rattle.cmd_drive.specs.Guides.{answer_of, seeded}

-- the number of the implementation's generator is the next one, and after the last comes 0
abbrev pub next_number : ℕ → ℕ
next_number number = (number + 1) % 2 ^ 64

-- a simulation of the system at its start, with the generator of this number
abbrev pub simulation : System → Alphabet → ℕ → Simulated Lcg
simulation i a number = record { system = i; texts = a.texts; place = record { at = i.start; rng = pcg32_of_seed (pcg32_seed 16 number) } }

-- what the session goes by
abbrev pub rehearse_rules : AskedRehearse → Alphabet → System → Rules
rehearse_rules asked a s = record { system = s; mode = asked.mode; texts = a.texts; patience = asked.patience; steps = asked.steps; goal = None }

-- the outcome of a session over a simulation
abbrev pub IsOutcomeSo : Result Verdict WalkError → DriveOutcome → Type 0
IsOutcomeSo (Ok verdict) outcome = outcome ≡ Ended verdict
IsOutcomeSo (Err (WalkFull reached)) outcome = outcome ≡ Full reached
IsOutcomeSo (Err WalkMemory) outcome = ⊥

-- the set after the empty trace alone has more members than there may be
pub record IsUnstarted (asked : AskedRehearse) (r : Rules) (outcome : DriveOutcome) (sitting : Sitting) : Type 0 where
  pub reached : ℕ
  pub refuses : RefusesOpening r.system asked.members (WalkFull reached)
  pub outcome_is : outcome ≡ Full reached
  pub sitting_is : sitting ≡ opening

-- a session from its opening on, over a simulation of the implementation
pub record IsStarted (asked : AskedRehearse) (r : Rules) (i : System) (a : Alphabet) (outcome : DriveOutcome) (sitting : Sitting) : Type 0 where
  pub begin : Seat
  pub end : Seat
  pub after : Guide
  pub result : Result Verdict WalkError
  pub fresh : IsFresh begin.walked
  pub limit : begin.walked.limit ≡ asked.members
  pub rules : begin.rules ≡ r
  pub opens : begin.sitting ≡ opening
  pub went : IsRehearsal answer_of pcg32 begin (seeded asked.seed) (simulation i a (next_number asked.seed)) result end after
  pub outcome_is : IsOutcomeSo result outcome
  pub sitting_is : sitting ≡ end.sitting

-- the session and the text of its log: the items are a trace of the implementation, and a session that failed met a violation
pub record IsOfSession (asked : AskedRehearse) (a : Alphabet) (s i : System) (digest : Digest) (outcome : DriveOutcome) (text : List ℕ) : Type 0 where
  pub enabled : IsInputEnabled i
  pub sitting : Sitting
  pub goes : IsUnstarted asked (rehearse_rules asked a s) outcome sitting ⊎ IsStarted asked (rehearse_rules asked a s) i a outcome sitting
  pub rehearsed : IsRehearsed (rehearse_rules asked a s) i sitting
  pub whole : ¬ (outcome ≡ Broken)
  pub text_is : text ≡ printed (log_by (rehearse_rules asked a s) asked.divergence digest sitting outcome)
  pub read : AreLogsOf text (log_by (rehearse_rules asked a s) asked.divergence digest sitting outcome ∷ [])
  pub judged : IsJudged (rehearse_rules asked a s) (log_by (rehearse_rules asked a s) asked.divergence digest sitting outcome).log (verdict_of sitting.phase)

-- the answer and its text: the implementation isn't input-enabled, or a session was rehearsed
abbrev pub IsRehearsalOf : AskedRehearse → Alphabet → System → System → Digest → RehearseOutcome → List ℕ → Type 0
IsRehearsalOf asked a s i digest (NotEnabled name state input) text =
    (name ≡ asked.imp) × IsFirstMissing i i.inputs state input × (text ≡ check_text a.texts (Lacking name state input))
IsRehearsalOf asked a s i digest (Went outcome) text = IsOfSession asked a s i digest outcome text

-- the answer by the files
pub record AnswersRehearse (contents : Contents) (asked : AskedRehearse) (outcome : RehearseOutcome) (text : List ℕ) : Type 0 where
  pub a : Alphabet
  pub s : System
  pub i : System
  pub digest : Digest
  pub systems : AreSystems contents (rehearse_sources asked) a (s ∷ i ∷ [])
  pub digested : IsDigestOfFile contents asked.spec digest
  pub answers : IsRehearsalOf asked a s i digest outcome text

abbrev pub rehearse_page : Contents → AskedRehearse → Page RehearseOutcome
rehearse_page contents asked = record {
  names = all_names (rehearse_sources asked);
  refuses = RefusesSources contents (rehearse_sources asked);
  answers = AnswersRehearse contents asked;
}

abbrev pub rehearse_command : Command AskedRehearse RehearseOutcome
rehearse_command = record { shape = rehearse_shape; asked = rehearse_of; page = rehearse_page }
