-- What stops `drive`, seen from before its first file was loaded.
use Rattle.std.proofs.Common.{◌≡◌, [], ◌∷◌, List, Option, inl, inr, subst}
use Rattle.edge_io.specs.Outside.{ToldFiles, KeepsFiles}
use Rattle.lts_base.specs.declared.item.Item.{Item}
use Rattle.lts_base.specs.Alphabet.{Alphabet}
use Rattle.lts_base.specs.System.{System}
use Rattle.log_text.specs.declared.log.Digest.{Digest}
use Rattle.tool_base.specs.declared.refusal.Stop.{Stop}
use Rattle.tool_base.specs.declared.systems.DigestedSystem.{DigestedSystem}
use Rattle.tool_base.specs.Contents.{Contents}
use Rattle.tool_base.specs.Kinds.{IsDigestOfFile}
use Rattle.tool_base.specs.Sources.{AreSystems, RefusesSources, all_names}
use Rattle.tool_base.specs.Pages.{IsStopped}
use Rattle.tool_base.proofs.StoppedLaws.{IsStopped-wider, same_contents, within_left, within_right}
use Rattle.edge_io.proofs.OutsideLaws.{KeepsFiles-none}
use Rattle.cmd_drive.specs.declared.guide.Guide.{Guide}
use Rattle.cmd_drive.specs.declared.files.Guiding.{Guiding}
use Rattle.cmd_drive.specs.Asked.{AskedDrive, drive_sources, guide_names}
use Rattle.cmd_drive.specs.Guides.{IsGuide, RefusesGuide}
use Rattle.cmd_drive.specs.Drive.{IsSetUp, drive_names, RefusesFiles}

-- what is had of the specification
abbrev pub HasSpec : Contents → AskedDrive → DigestedSystem → Type 0
HasSpec contents asked one = AreSystems contents (drive_sources asked) one.labels (one.system ∷ []) × IsDigestOfFile contents asked.spec one.digest

-- what stopped the loading of the specification stopped the whole
pub spec_stopped : (old new : ToldFiles) (asked : AskedDrive) (stop : Stop) → IsStopped old new (all_names (drive_sources asked)) (RefusesSources old.content (drive_sources asked)) stop →
    IsStopped old new (drive_names asked) (RefusesFiles old.content asked) stop
spec_stopped old new asked stop h =
    IsStopped-wider old old new (all_names (drive_sources asked)) (drive_names asked) (RefusesSources old.content (drive_sources asked)) (RefusesFiles old.content asked) stop (KeepsFiles-none old)
    (λ name has. within_left (all_names (drive_sources asked)) (guide_names asked.guide) name has) (λ r why. inl why) h

-- what stopped the loading of the script or of the goal stopped the whole
pub guide_stopped : (old mid new : ToldFiles) (asked : AskedDrive) (one : DigestedSystem) (stop : Stop) → KeepsFiles old mid → HasSpec old.content asked one →
    IsStopped mid new (guide_names asked.guide) (RefusesGuide mid.content one.labels asked.steps asked.guide) stop → IsStopped old new (drive_names asked) (RefusesFiles old.content asked) stop
guide_stopped old mid new asked one stop keeps has h =
    IsStopped-wider old mid new (guide_names asked.guide) (drive_names asked) (RefusesGuide mid.content one.labels asked.steps asked.guide) (RefusesFiles old.content asked) stop keeps
    (λ name here. within_right (all_names (drive_sources asked)) (guide_names asked.guide) name here)
    (λ r why. inr (record {
      a = one.labels;
      s = one.system;
      systems = has.0;
      refused = subst (λ (c : Contents). RefusesGuide c one.labels asked.steps asked.guide r) (same_contents old mid keeps) why;
    })) h

-- what was read
pub set_up : (old mid : ToldFiles) (asked : AskedDrive) (one : DigestedSystem) (g : Guiding) → KeepsFiles old mid → HasSpec old.content asked one → IsGuide mid.content one.labels asked.steps asked.guide g.guide g.goal →
    IsSetUp old.content asked one.labels one.system one.digest g.guide g.goal
set_up old mid asked one g keeps has guided = record {
  systems = has.0;
  digested = has.1;
  guided = subst (λ (c : Contents). IsGuide c one.labels asked.steps asked.guide g.guide g.goal) (same_contents old mid keeps) guided;
}
