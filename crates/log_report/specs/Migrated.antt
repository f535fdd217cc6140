-- Promise: the logs of a file in version 2, or the first log of version 1 that isn't of the specification.
use Rattle.std.specs.Prelude.{◌≡◌, ℕ, ◌+◌, List, ◌∷◌, ◌++◌, length, map, All, codes, decimal}
use Rattle.std.specs.List.{flat_map}
use Rattle.lts_base.specs.declared.divergence.Divergence.{Divergence}
use Rattle.lts_base.specs.System.{System}
use Rattle.lts_base.specs.Alphabet.{Alphabet}
use Rattle.trace_text.specs.Lines.{line}
use Rattle.log_text.specs.declared.log.Digest.{Digest}
use Rattle.log_text.specs.declared.log.Ending.{Ending}
use Rattle.log_text.specs.declared.log.Ending.TheVariants.{Pass as EndsPass, Fail as EndsFail, Ended, Stalled, Long, Full, Broken}
use Rattle.log_text.specs.declared.log.Head.{Head}
use Rattle.log_text.specs.declared.log.Head.TheVariants.{One, Two}
use Rattle.log_text.specs.declared.log.Named.{Named}
use Rattle.log_text.specs.Printed.{printed}
use Rattle.trace_log.specs.declared.judge.LogVerdict.{LogVerdict}
use Rattle.trace_log.specs.declared.judge.LogVerdict.TheVariants.{Pass, Fail}
use Rattle.log_text.specs.Logs.{AreLogsOf}
use Rattle.log_report.specs.declared.migrated.Migration.{Migration}
use Rattle.log_report.specs.declared.migrated.MigrateOutcome.{MigrateOutcome}
use Rattle.log_report.specs.declared.migrated.MigrateOutcome.TheVariants.{Printed, NotOf}
use Rattle.log_report.specs.Replayed.{IsLogVerdict}

-- the verdict that the ending tells after so many entries: a failure at the last one, or that all is allowed
abbrev pub verdict_told : Ending → ℕ → LogVerdict
verdict_told EndsFail n = Fail n
verdict_told EndsPass n = Pass
verdict_told Ended n = Pass
verdict_told Stalled n = Pass
verdict_told Long n = Pass
verdict_told Full n = Pass
verdict_told Broken n = Pass

-- the log's verdict is the one that its ending tells
abbrev pub IsOf : Alphabet → System → Named → Type 0
IsOf a s n = IsLogVerdict a s n (verdict_told n.log.ending (length n.log.entries))

-- the log may be told to be of the specification: its version 1 is of it, and version 2 tells of it by itself
abbrev pub MayMigrate : Alphabet → System → Named → Head → Type 0
MayMigrate a s n One = IsOf a s n
MayMigrate a s n (Two v d) = Unit {0}

abbrev pub IsMigratable : Alphabet → System → Named → Type 0
IsMigratable a s n = MayMigrate a s n n.head

-- log k, counted from 1, is the first of version 1 that isn't of the specification
pub record IsFirstNotOf (a : Alphabet) (s : System) (logs : List Named) (k : ℕ) : Type 0 where
  pub before : List Named
  pub log : Named
  pub others : List Named
  pub whole : logs ≡ before ++ log ∷ others
  pub good : All (IsMigratable a s) before
  pub fault : ¬ IsMigratable a s log
  pub number : k ≡ length before + 1

-- the log in version 2
abbrev pub in_two : Digest → Divergence → Named → Named
in_two spec divergence n = record { head = Two divergence spec; log = n.log }

-- the logs in version 2, or the first log that isn't of the specification
abbrev pub IsMigrated : Alphabet → System → Digest → Divergence → List Named → MigrateOutcome → List ℕ → Type 0
IsMigrated a s spec divergence logs Printed text = All (IsMigratable a s) logs × (text ≡ flat_map printed (map (in_two spec divergence) logs))
IsMigrated a s spec divergence logs (NotOf k) text = IsFirstNotOf a s logs k × (text ≡ line (codes "not-of ") (decimal k))

-- what is told in version 2 is the text of the same logs, with these heads
abbrev pub IsToldAgain : Digest → Divergence → List Named → Migration → Type 0
IsToldAgain spec divergence logs m = m.outcome ≡ Printed → AreLogsOf m.text (map (in_two spec divergence) logs)
