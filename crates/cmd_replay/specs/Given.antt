-- Private: what the code's own types say of the files.
use Rattle.std.specs.Prelude.{ℕ, ◌+◌, ◌<◌, ◌^◌, List, length, All, Result, MatchResult}
use Rattle.edge_io.specs.Outside.{ToldFiles}
use Rattle.lts_base.specs.Alphabet.{IsOver}
use Rattle.log_text.specs.declared.log.Named.{Named}
use Rattle.log_text.specs.Logs.{IsNamed}
use Rattle.tool_base.specs.declared.refusal.Stop.{Stop}
use Rattle.tool_base.specs.declared.systems.DigestedSystem.{DigestedSystem}
use Rattle.tool_base.specs.Pages.{IsStopped}
use Rattle.cmd_replay.specs.declared.files.Logged.{Logged}
use Rattle.cmd_replay.specs.Asked.{AskedReplay}
use Rattle.cmd_replay.specs.Logged.{RefusesLogged, AreGood, logged_names}

-- the files are read, or the work stopped
abbrev pub LoadsGood : ToldFiles → ToldFiles → AskedReplay → Result Logged Stop → Type 0
LoadsGood old new asked result = MatchResult result (λ l. AreGood old.content asked l.labels l.system l.digest l.logs)
    (IsStopped old new (logged_names asked) (RefusesLogged old.content asked))

-- the system is over the alphabet, the logs are in their form, and a `u32` counts them
pub record IsGoodOver (l : Logged) : Type 0 where
  pub over : IsOver l.labels l.system
  pub logs : All IsNamed l.logs
  pub few : length l.logs + 1 < 2 ^ 32

-- a system and its digest, with logs
abbrev pub good_of : DigestedSystem → List Named → Logged
good_of one logs = record { labels = one.labels; system = one.system; digest = one.digest; logs = logs }
