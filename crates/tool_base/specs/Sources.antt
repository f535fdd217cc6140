-- Promise: the systems that a command's words name, over one alphabet, and why they are refused.
use Rattle.std.specs.Prelude.{◌≡◌, ℕ, List, [], ◌∷◌, ◌++◌, map, All, ◌⊎◌}
use Rattle.std.specs.List.{AllZip}
use Rattle.lts_base.specs.declared.divergence.Divergence.{Divergence}
use Rattle.lts_base.specs.declared.divergence.Divergence.TheVariants.{Refuse, Quiet}
use Rattle.lts_base.specs.declared.sorting.Rule.{Rule}
use Rattle.lts_base.specs.declared.sorting.Rule.TheVariants.{Prefix, Suffix, Listed}
use Rattle.lts_base.specs.declared.sorting.SplitError.TheVariants.{Memory as NoRoomForLabels}
use Rattle.lts_base.specs.System.{System, IsSystem, quieted}
use Rattle.lts_base.specs.Alphabet.{Alphabet}
use Rattle.lts_base.specs.Raw.{RawSystem}
use Rattle.lts_base.specs.Shape.{IsConvergent}
use Rattle.lts_base.specs.Sorting.{RefusesSplit, IsAlphabetOf, AreSystemsFor}
use Rattle.lts_shape.specs.Cycle.{IsTauCycle}
use Rattle.torx_words.specs.Meaning.{AskedSorting, by_prefix, by_suffix, by_list}
use Rattle.tool_base.specs.declared.refusal.Refusal.{Refusal}
use Rattle.tool_base.specs.declared.refusal.Refusal.TheVariants.{BadLabels, Divergent}
use Rattle.tool_base.specs.Contents.{Contents}
use Rattle.tool_base.specs.Kinds.{IsFile, RefusesFile, system_kind, list_kind}

-- what words say of a command's systems: the names of their files, how labels are sorted, and how divergent systems are read
pub record Sources : Type 0 where
  pub names : List (List ℕ)
  pub sorting : AskedSorting
  pub divergence : Divergence

-- the file that lists the inputs, where there is one
abbrev pub list_names : AskedSorting → List (List ℕ)
list_names by_prefix = []
list_names by_suffix = []
list_names (by_list name) = name ∷ []

-- the files of the systems are read as these raw systems
abbrev pub AreRead : Contents → List (List ℕ) → List RawSystem → Type 0
AreRead contents names raws = AllZip (λ (name : List ℕ). IsFile (system_kind name) contents name) names raws

-- the first of the files of the systems that is refused, for this; those before it are read
abbrev pub RefusesSystems : Contents → List (List ℕ) → Refusal → Type 0
RefusesSystems contents [] r = ⊥
RefusesSystems contents (name ∷ names) r = RefusesFile (system_kind name) contents name r ⊎
    (((raw : RawSystem) × IsFile (system_kind name) contents name raw) × RefusesSystems contents names r)

-- the rule by which labels are sorted
abbrev pub IsRule : Contents → AskedSorting → Rule → Type 0
IsRule contents by_prefix rule = rule ≡ Prefix
IsRule contents by_suffix rule = rule ≡ Suffix
IsRule contents (by_list name) rule = (inputs : List (List ℕ)) × IsFile list_kind contents name inputs × (rule ≡ Listed inputs)

-- the file that lists the inputs is refused for this
abbrev pub RefusesRule : Contents → AskedSorting → Refusal → Type 0
RefusesRule contents by_prefix r = ⊥
RefusesRule contents by_suffix r = ⊥
RefusesRule contents (by_list name) r = RefusesFile list_kind contents name r

-- the labels of the raw systems can't be sorted by the rule, for this
abbrev pub RefusesLabels : Rule → List RawSystem → Refusal → Type 0
RefusesLabels rule raws (BadLabels error) = RefusesSplit rule raws error × ¬ (error ≡ NoRoomForLabels)
RefusesLabels rule raws other = ⊥

-- the system of the file of this name has this cycle of moves with Tau
abbrev pub IsCycleOf : List ℕ → System → Refusal → Type 0
IsCycleOf name s (Divergent named cycle) = (named ≡ name) × IsTauCycle s cycle
IsCycleOf name s other = ⊥

-- the first of the systems that isn't convergent, by the name of its file; those before it are
abbrev pub IsDiverging : List (List ℕ) → List System → Refusal → Type 0
IsDiverging [] systems r = ⊥
IsDiverging (name ∷ names) [] r = ⊥
IsDiverging (name ∷ names) (s ∷ systems) r = IsCycleOf name s r ⊎ (IsConvergent s × IsDiverging names systems r)

-- a system that isn't convergent is refused, unless divergent systems are read as quiet
abbrev pub RefusesCycles : Divergence → List (List ℕ) → List System → Refusal → Type 0
RefusesCycles Refuse names systems r = IsDiverging names systems r
RefusesCycles Quiet names systems r = ⊥

-- the systems are convergent, unless divergent systems are read as quiet
abbrev pub AreSettled : Divergence → List System → Type 0
AreSettled Refuse systems = All IsConvergent systems
AreSettled Quiet systems = Unit {0}

-- the system as it is read
abbrev pub read_as : Divergence → System → System
read_as Refuse s = s
read_as Quiet s = quieted s

-- the files are read as raw systems, and the rule that is asked for sorts their labels
pub record AreRuled (contents : Contents) (sources : Sources) (raws : List RawSystem) (rule : Rule) : Type 0 where
  pub read : AreRead contents sources.names raws
  pub ruled : IsRule contents sources.sorting rule

-- the raw systems of the files have this alphabet, and these are the systems over it
pub record AreSplit (contents : Contents) (sources : Sources) (a : Alphabet) (systems : List System) : Type 0 where
  pub raws : List RawSystem
  pub rule : Rule
  pub input : AreRuled contents sources raws rule
  pub alphabet : IsAlphabetOf rule raws a
  pub over : AreSystemsFor a raws systems
  pub sound : All IsSystem systems

-- these are the alphabet and the systems of the files, as they are to be read
pub record AreSystems (contents : Contents) (sources : Sources) (a : Alphabet) (systems : List System) : Type 0 where
  pub plain : List System
  pub split : AreSplit contents sources a plain
  pub settled : AreSettled sources.divergence plain
  pub read : systems ≡ map (read_as sources.divergence) plain

-- why there are no such systems, in this order: the first file of a system that is refused; the file that lists the inputs;
-- the first label that can't be sorted; the first system that isn't convergent
abbrev pub RefusesSources : Contents → Sources → Refusal → Type 0
RefusesSources contents sources r = RefusesSystems contents sources.names r ⊎
    (((raws : List RawSystem) × AreRead contents sources.names raws × RefusesRule contents sources.sorting r) ⊎
    (((raws : List RawSystem) × (rule : Rule) × AreRuled contents sources raws rule × RefusesLabels rule raws r) ⊎
    ((a : Alphabet) × (plain : List System) × AreSplit contents sources a plain × RefusesCycles sources.divergence sources.names plain r)))

-- all files that are read for the systems
abbrev pub all_names : Sources → List (List ℕ)
all_names sources = sources.names ++ list_names sources.sorting
