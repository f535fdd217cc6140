-- Promise: what loading the systems of a command answers.
use Rattle.std.specs.Prelude.{ℕ, List, [], ◌∷◌, Result, MatchResult}
use Rattle.lts_base.specs.declared.divergence.Divergence.{Divergence}
use Rattle.lts_base.specs.declared.sorting.SplitSystems.{SplitSystems}
use Rattle.lts_base.specs.System.{IsSystem}
use Rattle.lts_base.specs.Alphabet.{IsAlphabet, IsOver}
use Rattle.edge_io.specs.Outside.{ToldFiles}
use Rattle.torx_words.specs.declared.asked.Sorting.{Sorting}
use Rattle.torx_words.specs.Named.{sorting_from}
use Rattle.tool_base.specs.declared.refusal.Stop.{Stop}
use Rattle.tool_base.specs.declared.systems.OneSystem.{OneSystem}
use Rattle.tool_base.specs.declared.systems.DigestedSystem.{DigestedSystem}
use Rattle.tool_base.specs.Kinds.{IsDigestOfFile}
use Rattle.tool_base.specs.declared.systems.TwoSystems.{TwoSystems}
use Rattle.tool_base.specs.declared.systems.DigestedPair.{DigestedPair}
use Rattle.tool_base.specs.Sources.{Sources, AreSystems, RefusesSources, all_names}
use Rattle.tool_base.specs.Pages.{IsStopped}

abbrev pub one_source : List ℕ → Sorting → Divergence → Sources
one_source name sorting divergence = record { names = name ∷ []; sorting = sorting_from sorting; divergence = divergence }

abbrev pub two_sources : List ℕ → List ℕ → Sorting → Divergence → Sources
two_sources first second sorting divergence = record { names = first ∷ second ∷ []; sorting = sorting_from sorting; divergence = divergence }

-- the systems of the files are had, or the work stopped
abbrev pub LoadsSystems : ToldFiles → ToldFiles → Sources → Result SplitSystems Stop → Type 0
LoadsSystems old new sources result =
    MatchResult result (λ s. AreSystems old.content sources s.labels s.systems) (IsStopped old new (all_names sources) (RefusesSources old.content sources))

abbrev pub LoadsOne : ToldFiles → ToldFiles → Sources → Result OneSystem Stop → Type 0
LoadsOne old new sources result =
    MatchResult result (λ s. AreSystems old.content sources s.labels (s.system ∷ [])) (IsStopped old new (all_names sources) (RefusesSources old.content sources))

abbrev pub LoadsTwo : ToldFiles → ToldFiles → Sources → Result TwoSystems Stop → Type 0
LoadsTwo old new sources result =
    MatchResult result (λ s. AreSystems old.content sources s.labels (s.first ∷ s.second ∷ [])) (IsStopped old new (all_names sources) (RefusesSources old.content sources))

-- the system of a file, over its alphabet, and the digest of the file
abbrev pub LoadsDigestedSystem : ToldFiles → ToldFiles → Sources → List ℕ → Result DigestedSystem Stop → Type 0
LoadsDigestedSystem old new sources name result =
    MatchResult result (λ s. AreSystems old.content sources s.labels (s.system ∷ []) × IsDigestOfFile old.content name s.digest)
    (IsStopped old new (all_names sources) (RefusesSources old.content sources))

-- the systems of two files, over one alphabet, and the digest of the first file
abbrev pub LoadsDigestedPair : ToldFiles → ToldFiles → Sources → List ℕ → Result DigestedPair Stop → Type 0
LoadsDigestedPair old new sources name result =
    MatchResult result (λ s. AreSystems old.content sources s.labels (s.first ∷ s.second ∷ []) × IsDigestOfFile old.content name s.digest)
    (IsStopped old new (all_names sources) (RefusesSources old.content sources))

-- the system is sound, and over the alphabet
pub record IsOneOver (s : OneSystem) : Type 0 where
  pub alphabet : IsAlphabet s.labels
  pub sound : IsSystem s.system
  pub over : IsOver s.labels s.system

-- both systems are sound, and over the alphabet
pub record AreTwoOver (s : TwoSystems) : Type 0 where
  pub alphabet : IsAlphabet s.labels
  pub first_sound : IsSystem s.first
  pub second_sound : IsSystem s.second
  pub first_over : IsOver s.labels s.first
  pub second_over : IsOver s.labels s.second

abbrev pub IsDigestedOver : DigestedSystem → Type 0
IsDigestedOver s = IsOneOver (record { labels = s.labels; system = s.system })

abbrev pub AreDigestedOver : DigestedPair → Type 0
AreDigestedOver s = AreTwoOver (record { labels = s.labels; first = s.first; second = s.second })
