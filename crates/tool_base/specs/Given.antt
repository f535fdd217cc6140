-- Private: what the code's own types say of a command's systems, and what the pieces of their loading answer.
use Rattle.std.specs.Prelude.{◌≡◌, ℕ, List, [], ◌∷◌, map, Result, MatchResult, All, ◌⊎◌}
use Rattle.std.specs.Borrow.{Bor}
use Rattle.lts_base.specs.declared.divergence.Divergence.{Divergence}
use Rattle.lts_base.specs.declared.sorting.Rule.{Rule}
use Rattle.lts_base.specs.System.{System, IsSystem}
use Rattle.lts_base.specs.Alphabet.{Alphabet}
use Rattle.lts_base.specs.Raw.{RawSystem}
use Rattle.lts_base.specs.Sorting.{IsAlphabetOf, AreSystemsFor}
use Rattle.edge_io.specs.Outside.{ToldFiles}
use Rattle.torx_words.specs.Meaning.{AskedSorting}
use Rattle.torx_words.specs.Named.{sorting_from}
use Rattle.tool_base.specs.declared.refusal.Refusal.{Refusal}
use Rattle.tool_base.specs.declared.refusal.Stop.{Stop}
use Rattle.tool_base.specs.declared.refusal.Stop.TheVariants.{Usage, Refused, Memory}
use Rattle.tool_base.specs.declared.sources.Sources.{Sources as SourcesGiven}
use Rattle.tool_base.specs.declared.raw.RawPair.{RawPair}
use Rattle.tool_base.specs.Kinds.{IsDigestOfFile}
use Rattle.tool_base.specs.Sources.{Sources, AreRead, RefusesSystems, IsRule, RefusesRule, RefusesLabels, RefusesCycles, AreSettled, read_as, list_names}
use Rattle.tool_base.specs.Pages.{IsStopped}

-- the names that are lent
abbrev pub names_of : List (Bor (List ℕ)) → List (List ℕ)
names_of = map (λ (w : Bor (List ℕ)). w.now)

abbrev pub sources_from : SourcesGiven → Sources
sources_from s = record { names = names_of s.names.now; sorting = sorting_from s.sorting; divergence = s.divergence }

-- the files of the systems are read, or one is refused
abbrev pub ReadsRaws : ToldFiles → ToldFiles → List (List ℕ) → Result (List RawSystem) Stop → Type 0
ReadsRaws old new names result = MatchResult result (AreRead old.content names) (IsStopped old new names (RefusesSystems old.content names))

-- the files of two systems are read, and the digest of the first is had; or one is refused
abbrev pub ReadsPair : ToldFiles → ToldFiles → List ℕ → List ℕ → Result RawPair Stop → Type 0
ReadsPair old new first second result =
    MatchResult result (λ r. AreRead old.content (first ∷ second ∷ []) r.raws × IsDigestOfFile old.content first r.digest)
    (IsStopped old new (first ∷ second ∷ []) (RefusesSystems old.content (first ∷ second ∷ [])))

-- the rule is had, or the file that lists the inputs is refused
abbrev pub ReadsRule : ToldFiles → ToldFiles → AskedSorting → Result Rule Stop → Type 0
ReadsRule old new sorting result = MatchResult result (IsRule old.content sorting) (IsStopped old new (list_names sorting) (RefusesRule old.content sorting))

-- memory ran out, or there is this cause
abbrev pub IsHalted : (Refusal → Type 0) → Stop → Type 0
IsHalted cause (Usage kind) = ⊥
IsHalted cause (Refused r) = cause r
IsHalted cause Memory = Unit {0}

-- the raw systems have the alphabet, and these are the systems over it
pub record IsSplitOf (rule : Rule) (raws : List RawSystem) (a : Alphabet) (systems : List System) : Type 0 where
  pub alphabet : IsAlphabetOf rule raws a
  pub over : AreSystemsFor a raws systems
  pub sound : All IsSystem systems

-- the alphabet of the raw systems, and the systems over it as they are to be read
pub record IsSettledOf (rule : Rule) (raws : List RawSystem) (divergence : Divergence) (a : Alphabet) (systems : List System) : Type 0 where
  pub plain : List System
  pub split : IsSplitOf rule raws a plain
  pub settled : AreSettled divergence plain
  pub read : systems ≡ map (read_as divergence) plain

-- why there is no such: a label that can't be sorted, or a system that isn't convergent
abbrev pub RefusesSettled : Rule → List RawSystem → Divergence → List (List ℕ) → Refusal → Type 0
RefusesSettled rule raws divergence names r = RefusesLabels rule raws r ⊎
    ((a : Alphabet) × (plain : List System) × IsSplitOf rule raws a plain × RefusesCycles divergence names plain r)

-- these are the systems as they are read
abbrev pub IsReadOf : Divergence → List System → List System → Type 0
IsReadOf divergence plain systems = AreSettled divergence plain × (systems ≡ map (read_as divergence) plain)
