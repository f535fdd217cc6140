-- Private: what a part of a rehearsal makes of the systems.
use Rattle.std.specs.Prelude.{◌≡◌, ℕ, List, [], ◌∷◌, Result, Ok, Err}
use Rattle.lts_base.specs.Alphabet.{Alphabet, IsAlphabet, IsOver}
use Rattle.lts_base.specs.System.{System, IsSystem}
use Rattle.lts_base.specs.Shape.{IsConvergentOrQuiet}
use Rattle.log_text.specs.declared.log.Head.{Head}
use Rattle.log_text.specs.declared.log.Head.TheVariants.{Two}
use Rattle.log_text.specs.Logs.{AreLogsOf, IsDigest}
use Rattle.log_text.specs.Printed.{printed}
use Rattle.rand_pcg.specs.Pcg.{pcg32}
use Rattle.session_core.specs.declared.verdict.Verdict.{Verdict}
use Rattle.session_core.specs.Logged.{log_of}
use Rattle.session_core.specs.Seat.{Seat}
use Rattle.session_core.specs.Table.{Sitting}
use Rattle.sim_session.specs.Rehearsed.{IsRehearsal, IsRehearsed}
use Rattle.tool_base.specs.declared.report.Report.{Report}
use Rattle.tool_base.specs.declared.systems.DigestedPair.{DigestedPair}
use Rattle.walk_core.specs.declared.walk.WalkError.{WalkError}
use Rattle.cmd_check.specs.declared.outcome.CheckOutcome.TheVariants.{NotEnabled as Lacking}
use Rattle.cmd_check.specs.Check.{check_text}
use Rattle.cmd_drive.specs.declared.guide.Guide.{Guide}
use Rattle.cmd_drive.specs.declared.outcome.DriveOutcome.{DriveOutcome}
use Rattle.cmd_drive.specs.declared.rehearse_outcome.RehearseOutcome.{RehearseOutcome}
use Rattle.cmd_drive.specs.declared.rehearse_outcome.RehearseOutcome.TheVariants.{NotEnabled, Went}
use Rattle.cmd_drive.specs.AskedRehearse.{AskedRehearse}
use Rattle.cmd_drive.specs.Drive.{ending_by}
use Rattle.cmd_drive.specs.Guides.{answer_of, seeded}
use Rattle.cmd_drive.specs.Rehearse.{IsRehearsalOf, IsOfSession, IsOutcomeSo, IsUnstarted, IsStarted, next_number, rehearse_rules, simulation}

-- both systems are over the alphabet, the implementation can be simulated where it is input-enabled, and the digest is one
pub record IsFitPair (pair : DigestedPair) : Type 0 where
  pub alphabet : IsAlphabet pair.labels
  pub first : IsSystem pair.first
  pub second : IsSystem pair.second
  pub first_over : IsOver pair.labels pair.first
  pub second_over : IsOver pair.labels pair.second
  pub sound : IsConvergentOrQuiet pair.second
  pub digest : IsDigest pair.digest

-- what the drive over a simulation came to
pub record Simulates (asked : AskedRehearse) (pair : DigestedPair) (p q : Seat) (outcome : DriveOutcome) : Type 0 where
  pub result : Result Verdict WalkError
  pub after : Guide
  pub went : IsRehearsal answer_of pcg32 p (seeded asked.seed) (simulation pair.second pair.labels (next_number asked.seed)) result q after
  pub rehearsed : IsRehearsed p.rules pair.second q.sitting
  pub outcome_is : IsOutcomeSo result outcome
  pub rules : q.rules ≡ p.rules

-- the report on a session: where it went, and its log with this head
pub record IsWalkReport (asked : AskedRehearse) (pair : DigestedPair) (head : Head) (report : Report DriveOutcome) : Type 0 where
  pub sitting : Sitting
  pub started : IsStarted asked (rehearse_rules asked pair.labels pair.first) pair.second pair.labels report.outcome sitting
  pub rehearsed : IsRehearsed (rehearse_rules asked pair.labels pair.first) pair.second sitting
  pub text_is : report.text ≡ printed (record { head = head; log = log_of (rehearse_rules asked pair.labels pair.first) sitting (ending_by report.outcome) })
  pub read : AreLogsOf report.text (record { head = head; log = log_of (rehearse_rules asked pair.labels pair.first) sitting (ending_by report.outcome) } ∷ [])

abbrev pub IsSimulationReport : AskedRehearse → DigestedPair → Report DriveOutcome → Type 0
IsSimulationReport asked pair report = IsOfSession asked pair.labels pair.first pair.second pair.digest report.outcome report.text

abbrev pub IsPairReport : AskedRehearse → DigestedPair → Report RehearseOutcome → Type 0
IsPairReport asked pair report = IsRehearsalOf asked pair.labels pair.first pair.second pair.digest report.outcome report.text

abbrev pub IsLackingReport : List ℕ → List (List ℕ) → ℕ → ℕ → Report RehearseOutcome → Type 0
IsLackingReport name texts state input report = (report.outcome ≡ NotEnabled name state input) × (report.text ≡ check_text texts (Lacking name state input))
