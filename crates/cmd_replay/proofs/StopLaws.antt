-- What `replay` and `migrate` answer for their files, seen from before the first was loaded.
use Rattle.std.proofs.Common.{◌≡◌, ℕ, ◌+◌, ◌<◌, ◌≤◌, ◌^◌, List, [], ◌∷◌, length, All, Contains, inl, inr, ◌⊎◌, refl, subst, arith}
use Rattle.edge_io.specs.Outside.{ToldFiles, KeepsFiles}
use Rattle.lts_base.specs.declared.limits.TheConstants.{MOST_FILE_BYTES}
use Rattle.log_text.specs.declared.log.Named.{Named}
use Rattle.log_report.specs.declared.heads.OtherHead.{OtherHead}
use Rattle.log_report.specs.Heads.{AreSameHeads, RefusesHeads}
use Rattle.tool_base.specs.declared.refusal.Refusal.{Refusal}
use Rattle.tool_base.specs.declared.refusal.Refusal.TheVariants.{BadFile}
use Rattle.tool_base.specs.declared.refusal.Stop.{Stop}
use Rattle.tool_base.specs.declared.systems.DigestedSystem.{DigestedSystem}
use Rattle.tool_base.specs.Contents.{Contents}
use Rattle.tool_base.specs.Kinds.{IsFile, RefusesFile, logs_kind, IsDigestOfFile}
use Rattle.tool_base.specs.Loaded.{IsDigestedOver}
use Rattle.tool_base.specs.Loads.{IsStopBy}
use Rattle.tool_base.specs.Pages.{IsStopped}
use Rattle.tool_base.specs.Sources.{AreSystems, RefusesSources, all_names}
use Rattle.tool_base.proofs.StoppedLaws.{IsStopped-wider, same_contents, within_left, within_right}
use Rattle.edge_io.proofs.OutsideLaws.{KeepsFiles-none}
use Rattle.cmd_replay.specs.Asked.{AskedReplay, replay_sources}
use Rattle.cmd_replay.specs.Logged.{error_of, AreLogged, RefusesLogged, AreGood, logged_names}
use Rattle.cmd_replay.specs.Given.{IsGoodOver, good_of}

-- what is had of the specification
abbrev pub HasSpec : Contents → AskedReplay → DigestedSystem → Type 0
HasSpec contents asked one = AreSystems contents (replay_sources asked) one.labels (one.system ∷ []) × IsDigestOfFile contents asked.spec one.digest

-- what stopped the loading of the specification stopped the whole
pub spec_stopped : (old new : ToldFiles) (asked : AskedReplay) (stop : Stop) → IsStopped old new (all_names (replay_sources asked)) (RefusesSources old.content (replay_sources asked)) stop → IsStopped old new (logged_names asked) (RefusesLogged old.content asked) stop
spec_stopped old new asked stop h =
    IsStopped-wider old old new (all_names (replay_sources asked)) (logged_names asked) (RefusesSources old.content (replay_sources asked)) (RefusesLogged old.content asked) stop (KeepsFiles-none old)
    (λ name has. within_left (all_names (replay_sources asked)) (asked.logs ∷ []) name has) (λ r why. inl why) h

-- what stopped the loading of the logs stopped the whole
pub logs_stopped : (old mid new : ToldFiles) (asked : AskedReplay) (one : DigestedSystem) (stop : Stop) → KeepsFiles old mid → HasSpec old.content asked one →
    IsStopped mid new (asked.logs ∷ []) (RefusesFile logs_kind mid.content asked.logs) stop → IsStopped old new (logged_names asked) (RefusesLogged old.content asked) stop
logs_stopped old mid new asked one stop keeps has h =
    IsStopped-wider old mid new (asked.logs ∷ []) (logged_names asked) (RefusesFile logs_kind mid.content asked.logs) (RefusesLogged old.content asked) stop keeps
    (λ name here. within_right (all_names (replay_sources asked)) (asked.logs ∷ []) name here)
    (λ r why. inr (inl (record {
      a = one.labels;
      s = one.system;
      systems = has.0;
      refused = subst (λ (c : Contents). RefusesFile logs_kind c asked.logs r) (same_contents old mid keeps) why;
    }))) h

-- the files that were read
logged_all : (old mid : ToldFiles) (asked : AskedReplay) (one : DigestedSystem) (logs : List Named) → KeepsFiles old mid → HasSpec old.content asked one → IsFile logs_kind mid.content asked.logs logs →
    AreLogged old.content asked one.labels one.system one.digest logs
logged_all old mid asked one logs keeps has file = record {
  systems = has.0;
  digested = has.1;
  read = subst (λ (c : Contents). IsFile logs_kind c asked.logs logs) (same_contents old mid keeps) file;
}

-- a head that tells of something else stopped the whole
pub heads_stopped : (old mid new : ToldFiles) (asked : AskedReplay) (one : DigestedSystem) (logs : List Named) (other : OtherHead) (stop : Stop) → KeepsFiles old mid → HasSpec old.content asked one →
    IsFile logs_kind mid.content asked.logs logs → RefusesHeads one.digest asked.divergence logs other → IsStopBy (BadFile asked.logs (error_of other)) stop → IsStopped old new (logged_names asked) (RefusesLogged old.content asked) stop
heads_stopped old mid new asked one logs other stop keeps has file heads (inl memory) = rw memory tt
heads_stopped old mid new asked one logs other stop keeps has file heads (inr is) = rw is (inr (inr (inr (record {
  a = one.labels;
  s = one.system;
  digest = one.digest;
  logs = logs;
  other = other;
  logged = logged_all old mid asked one logs keeps has file;
  heads = heads;
  is = refl;
}))))

-- else they are good
pub good_all : (old mid : ToldFiles) (asked : AskedReplay) (one : DigestedSystem) (logs : List Named) → KeepsFiles old mid → HasSpec old.content asked one → IsFile logs_kind mid.content asked.logs logs →
    AreSameHeads one.digest asked.divergence logs → AreGood old.content asked one.labels one.system one.digest logs
good_all old mid asked one logs keeps has file heads = record { logged = logged_all old mid asked one logs keeps has file; heads = heads }

-- and can be told
pub good_over : (contents : Contents) (name : List ℕ) (one : DigestedSystem) (logs : List Named) → IsDigestedOver one → IsFile logs_kind contents name logs → length logs ≤ MOST_FILE_BYTES → IsGoodOver (good_of one logs)
good_over contents name one logs over file few = record { over = over.over; logs = file.reads.sound; few = omega (arith, few) }
