-- Promise: the files that `replay` and `migrate` read, and why they are refused.
use Rattle.std.specs.Prelude.{◌≡◌, ℕ, List, [], ◌∷◌, ◌++◌, ◌⊎◌}
use Rattle.lts_base.specs.Alphabet.{Alphabet}
use Rattle.lts_base.specs.System.{System}
use Rattle.log_text.specs.declared.log.Digest.{Digest}
use Rattle.log_text.specs.declared.log.Named.{Named}
use Rattle.log_report.specs.declared.heads.OtherHead.{OtherHead}
use Rattle.log_report.specs.declared.heads.OtherHead.TheVariants.{OtherSpec as OfOtherSpec, OtherDivergence as OfOtherDivergence}
use Rattle.log_report.specs.Heads.{AreSameHeads, RefusesHeads}
use Rattle.tool_base.specs.declared.refusal.FileError.{FileError}
use Rattle.tool_base.specs.declared.refusal.FileError.TheVariants.{OtherSpec, OtherDivergence}
use Rattle.tool_base.specs.declared.refusal.Refusal.{Refusal}
use Rattle.tool_base.specs.declared.refusal.Refusal.TheVariants.{BadFile}
use Rattle.tool_base.specs.Contents.{Contents}
use Rattle.tool_base.specs.Kinds.{IsFile, RefusesFile, logs_kind, IsDigestOfFile}
use Rattle.tool_base.specs.Sources.{AreSystems, RefusesSources, all_names}
use Rattle.cmd_replay.specs.Asked.{AskedReplay, replay_sources}

-- what is told of a log with another head
abbrev pub error_of : OtherHead → FileError
error_of (OfOtherSpec log) = OtherSpec log
error_of (OfOtherDivergence log) = OtherDivergence log

-- the files are read as the system s over the alphabet a, whose file has this digest, and as these logs
pub record AreLogged (contents : Contents) (asked : AskedReplay) (a : Alphabet) (s : System) (digest : Digest) (logs : List Named) : Type 0 where
  pub systems : AreSystems contents (replay_sources asked) a (s ∷ [])
  pub digested : IsDigestOfFile contents asked.spec digest
  pub read : IsFile logs_kind contents asked.logs logs

-- the system is had, but the file of logs is refused
pub record RefusesLogsOf (contents : Contents) (asked : AskedReplay) (r : Refusal) : Type 0 where
  pub a : Alphabet
  pub s : System
  pub systems : AreSystems contents (replay_sources asked) a (s ∷ [])
  pub refused : RefusesFile logs_kind contents asked.logs r

-- the files are read, but a log of version 2 tells of another specification, or of another reading of cycles
pub record RefusesHeadsOf (contents : Contents) (asked : AskedReplay) (r : Refusal) : Type 0 where
  pub a : Alphabet
  pub s : System
  pub digest : Digest
  pub logs : List Named
  pub other : OtherHead
  pub logged : AreLogged contents asked a s digest logs
  pub heads : RefusesHeads digest asked.divergence logs other
  pub is : r ≡ BadFile asked.logs (error_of other)

-- why the files are refused
abbrev pub RefusesLogged : Contents → AskedReplay → Refusal → Type 0
RefusesLogged contents asked r = RefusesSources contents (replay_sources asked) r ⊎ (RefusesLogsOf contents asked r ⊎ RefusesHeadsOf contents asked r)

-- the files that are read
abbrev pub logged_names : AskedReplay → List (List ℕ)
logged_names asked = all_names (replay_sources asked) ++ asked.logs ∷ []

-- the files are read, and the head of each log of version 2 tells of them
pub record AreGood (contents : Contents) (asked : AskedReplay) (a : Alphabet) (s : System) (digest : Digest) (logs : List Named) : Type 0 where
  pub logged : AreLogged contents asked a s digest logs
  pub heads : AreSameHeads digest asked.divergence logs
