-- `drive` refuses files whose contents are told for one cause, and refuses none that it answers.
use Rattle.std.proofs.Common.{◌≡◌, ℕ, List, [], ◌∷◌, Option, inl, inr, ◌⊎◌, subst}
use Rattle.lts_base.specs.declared.item.Item.{Item}
use Rattle.lts_base.specs.Alphabet.{Alphabet, IsAlphabet}
use Rattle.lts_base.specs.System.{System}
use Rattle.tool_base.specs.declared.refusal.Refusal.{Refusal}
use Rattle.tool_base.specs.Contents.{Contents, AreTold}
use Rattle.tool_base.specs.Kinds.{goal_kind, script_kind}
use Rattle.tool_base.specs.Once.{IsLike, IsRefusedOnce}
use Rattle.tool_base.specs.Sources.{AreSystems, all_names}
use Rattle.tool_base.proofs.InputOnce.{AreTold-left, AreTold-right, sources_refused_once, sources_apart, systems_once, file_apart, file_refused_once}
use Rattle.tool_base.proofs.KindLaws.{goal_is_kind, script_is_kind}
use Rattle.cmd_drive.specs.declared.guide.Guide.{Guide}
use Rattle.cmd_drive.specs.Asked.{AskedDrive, AskedGuide, by_seed, by_script, by_goal, drive_sources, guide_names}
use Rattle.cmd_drive.specs.Guides.{IsGuide, RefusesGuide}
use Rattle.cmd_drive.specs.Dialled.{Dialled}
use Rattle.cmd_drive.specs.Drive.{drive_page}
use Rattle.cmd_drive.specs.AskedRehearse.{AskedRehearse, rehearse_sources}
use Rattle.cmd_drive.specs.Rehearse.{rehearse_page}

guide_apart : (contents : Contents) (a : Alphabet) (steps : ℕ) (asked : AskedGuide) (guide : Guide) (goal : Option (List Item)) (r : Refusal) → IsAlphabet a → AreTold contents (guide_names asked) → IsGuide contents a steps asked guide goal → ¬ RefusesGuide contents a steps asked r
guide_apart contents a steps (by_seed number) guide goal r alphabet told is h = h
guide_apart contents a steps (by_script name) guide goal r alphabet told is h = file_apart (script_kind a) contents name told.0.0 is.0 r (script_is_kind a alphabet) told.0.1 is.1 h
guide_apart contents a steps (by_goal name) guide goal r alphabet told is h = file_apart (goal_kind a steps) contents name told.0.0 is.0 r (goal_is_kind a steps alphabet) told.0.1 is.1 h

guide_refused_once : (contents : Contents) (a : Alphabet) (steps : ℕ) (asked : AskedGuide) (r q : Refusal) → IsAlphabet a → AreTold contents (guide_names asked) → RefusesGuide contents a steps asked r → RefusesGuide contents a steps asked q → IsLike r q
guide_refused_once contents a steps (by_seed number) r q alphabet told one other = absurd one
guide_refused_once contents a steps (by_script name) r q alphabet told one other = file_refused_once (script_kind a) contents name told.0.0 r q (script_is_kind a alphabet) told.0.1 one other
guide_refused_once contents a steps (by_goal name) r q alphabet told one other = file_refused_once (goal_kind a steps) contents name told.0.0 r q (goal_is_kind a steps alphabet) told.0.1 one other

pub drive_refused_once : (run : Dialled) (contents : Contents) (asked : AskedDrive) → AreTold contents (drive_page run contents asked).names → IsRefusedOnce (drive_page run contents asked)
drive_refused_once run contents asked told = record {
  refused = λ r q one other. elim one [
    | inl first ↦ elim other [
      | inl second ↦ sources_refused_once contents (drive_sources asked) r q files first second
      | inr second ↦ absurd (sources_apart contents (drive_sources asked) r second.a (second.s ∷ []) files first second.systems)
    ]
    | inr first ↦ elim other [
      | inl second ↦ absurd (sources_apart contents (drive_sources asked) q first.a (first.s ∷ []) files second first.systems)
      | inr second ↦
          guide_refused_once contents first.a asked.steps asked.guide r q first.systems.split.alphabet.alphabet file first.refused
          (moved second.a first.a (second.s ∷ []) (first.s ∷ []) (λ a. RefusesGuide contents a asked.steps asked.guide q) second.systems first.systems second.refused)
    ]
  ];
  apart = λ r o t h answer. elim h [
    | inl first ↦ sources_apart contents (drive_sources asked) r answer.a (answer.s ∷ []) files first answer.set_up.systems
    | inr second ↦
        guide_apart contents answer.a asked.steps asked.guide answer.guide answer.goal r answer.set_up.systems.split.alphabet.alphabet file answer.set_up.guided
        (moved second.a answer.a (second.s ∷ []) (answer.s ∷ []) (λ a. RefusesGuide contents a asked.steps asked.guide r) second.systems answer.set_up.systems second.refused)
  ];
}
  where
    files : AreTold contents (all_names (drive_sources asked))
    files = AreTold-left contents (all_names (drive_sources asked)) (guide_names asked.guide) told

    file : AreTold contents (guide_names asked.guide)
    file = AreTold-right contents (all_names (drive_sources asked)) (guide_names asked.guide) told

    moved : (a b : Alphabet) (s t : List System) (P : Alphabet → Type 0) → AreSystems contents (drive_sources asked) a s → AreSystems contents (drive_sources asked) b t → P a → P b
    moved a b s t P one two h = subst P (systems_once contents (drive_sources asked) b a t s files two one).0 h

-- `rehearse` refuses files whose contents are told for one cause, and refuses none that it answers
pub rehearse_refused_once : (contents : Contents) (asked : AskedRehearse) → AreTold contents (rehearse_page contents asked).names → IsRefusedOnce (rehearse_page contents asked)
rehearse_refused_once contents asked told = record {
  refused = λ r q one other. sources_refused_once contents (rehearse_sources asked) r q told one other;
  apart = λ r o t h answer. sources_apart contents (rehearse_sources asked) r answer.a (answer.s ∷ answer.i ∷ []) told h answer.systems;
}
