-- Promise: the verdict on a session's log.
use Rattle.std.specs.Prelude.{◌≡◌, List}
use Rattle.std.specs.List.{AllZip}
use Rattle.lts_base.specs.Alphabet.{Alphabet, IsAlphabet, IsOver}
use Rattle.lts_base.specs.System.{IsSystem}
use Rattle.log_text.specs.declared.log.Log.{Log}
use Rattle.trace_log.specs.declared.seen.Seen.{Seen}
use Rattle.trace_log.specs.declared.judge.LogVerdict.{LogVerdict}
use Rattle.trace_log.specs.declared.judge.LogVerdict.TheVariants.{Pass as LogPass, Fail as LogFail}
use Rattle.trace_log.specs.Verdict.{IsSeenAs, IsVerdict}
use Rattle.session_core.specs.declared.phase.Phase.{Phase}
use Rattle.session_core.specs.declared.phase.Phase.TheVariants.{Ask, Look, Send, Hear, Done}
use Rattle.session_core.specs.declared.verdict.Verdict.TheVariants.{Pass, Fail, Ended, Stalled, Long}
use Rattle.session_core.specs.Table.{Rules}

-- the labels of a session
abbrev pub alphabet_of : Rules → Alphabet
alphabet_of r = record { texts = r.texts; inputs = r.system.inputs }

-- the texts are the labels of an alphabet, and the system is over it
pub record AreLabelled (r : Rules) : Type 0 where
  pub system : IsSystem r.system
  pub alphabet : IsAlphabet (alphabet_of r)
  pub over : IsOver (alphabet_of r) r.system

-- the log of a session that has failed fails, at the same place; the log of any other passes; none is off
abbrev pub verdict_of : Phase → LogVerdict
verdict_of Ask = LogPass
verdict_of (Look a) = LogPass
verdict_of (Send a) = LogPass
verdict_of Hear = LogPass
verdict_of (Done Pass) = LogPass
verdict_of (Done (Fail k)) = LogFail k
verdict_of (Done Ended) = LogPass
verdict_of (Done Stalled) = LogPass
verdict_of (Done Long) = LogPass

-- the log says this alone in the terms of the labels, and this verdict alone is the one on it
pub record IsJudged (r : Rules) (log : Log) (v : LogVerdict) : Type 0 where
  pub seen : List Seen
  pub says : AllZip (IsSeenAs (alphabet_of r)) log.entries seen
  pub says_alone : (others : List Seen) → AllZip (IsSeenAs (alphabet_of r)) log.entries others → others ≡ seen
  pub verdict : IsVerdict r.mode r.system seen v
  pub verdict_alone : (w : LogVerdict) → IsVerdict r.mode r.system seen w → w ≡ v
