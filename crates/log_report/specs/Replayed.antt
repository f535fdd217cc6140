-- Promise: the verdict on each log of a file.
use Rattle.std.specs.Prelude.{◌≡◌, ℕ, Bool, true, false, List, [], codes, decimal}
use Rattle.std.specs.List.{AllZip, count_by, flat_map}
use Rattle.lts_base.specs.System.{System}
use Rattle.lts_base.specs.Alphabet.{Alphabet}
use Rattle.trace_text.specs.Lines.{line}
use Rattle.log_text.specs.declared.log.Named.{Named}
use Rattle.trace_log.specs.declared.seen.Seen.{Seen}
use Rattle.trace_log.specs.declared.judge.LogVerdict.{LogVerdict}
use Rattle.trace_log.specs.declared.judge.LogVerdict.TheVariants.{Pass, Fail, Off}
use Rattle.trace_log.specs.Verdict.{IsSeenAs, IsVerdict}
use Rattle.log_report.specs.declared.replayed.ReplayOutcome.{ReplayOutcome}

-- the verdict on a log, in its own mode: that on what its entries say
abbrev pub IsLogVerdict : Alphabet → System → Named → LogVerdict → Type 0
IsLogVerdict a s n v = (seen : List Seen) × AllZip (IsSeenAs a) n.log.entries seen × IsVerdict n.log.mode s seen v

-- the log fails
abbrev pub is_fail : LogVerdict → Bool
is_fail Pass = false
is_fail (Fail k) = true
is_fail (Off k) = false

-- the log is off
abbrev pub is_off : LogVerdict → Bool
is_off Pass = false
is_off (Fail k) = false
is_off (Off k) = true

-- the line of a verdict
abbrev pub verdict_line : LogVerdict → List ℕ
verdict_line Pass = line (codes "pass") []
verdict_line (Fail k) = line (codes "fail ") (decimal k)
verdict_line (Off k) = line (codes "off ") (decimal k)

-- a line for each log, and how many of them fail and are off
pub record IsReplayed (a : Alphabet) (s : System) (logs : List Named) (outcome : ReplayOutcome) (text : List ℕ) : Type 0 where
  pub verdicts : List LogVerdict
  pub each : AllZip (IsLogVerdict a s) logs verdicts
  pub fails : outcome.fails ≡ count_by is_fail verdicts
  pub offs : outcome.offs ≡ count_by is_off verdicts
  pub printed : text ≡ flat_map verdict_line verdicts
