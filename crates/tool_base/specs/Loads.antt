-- Promise: what loading a file answers.
use Rattle.std.specs.Prelude.{◌≡◌, ℕ, ◌≤◌, List, [], ◌∷◌, length, ◌⊎◌, Result, MatchResult}
use Rattle.edge_io.specs.Outside.{ToldFiles}
use Rattle.lts_base.specs.Raw.{RawSystem}
use Rattle.lts_base.specs.declared.limits.TheConstants.{MOST_AUT_BYTES}
use Rattle.aut_text.specs.Loaded.{IsLoaded}
use Rattle.graphml_text.specs.Document.{IsGraphmlFile, RefusesGraphml}
use Rattle.graphml_text.specs.declared.error.GraphError.TheVariants.{Memory as NoRoomForGraph}
use Rattle.log_text.specs.declared.log.Digest.{Digest}
use Rattle.tool_base.specs.declared.refusal.Refusal.{Refusal}
use Rattle.tool_base.specs.declared.refusal.Refusal.TheVariants.{TooLong, BadFile}
use Rattle.tool_base.specs.declared.refusal.Stop.{Stop}
use Rattle.tool_base.specs.declared.refusal.Stop.TheVariants.{Refused, Memory}
use Rattle.tool_base.specs.Contents.{HasContent}
use Rattle.tool_base.specs.Kinds.{Kind, IsFile, IsOver, IsLong, IsFaultBy, RefusesFile, IsDigestOfFile, aut_kind}
use Rattle.tool_base.specs.declared.refusal.FileError.{FileError}
use Rattle.tool_base.specs.declared.refusal.FileError.TheVariants.{Graph}
use Rattle.tool_base.specs.Pages.{IsStopped}

-- the file of this name is read as one of the kind, or refused
abbrev pub Loads : {X : Type 0} → Kind X → ToldFiles → ToldFiles → List ℕ → Result X Stop → Type 0
Loads kind old new name result = MatchResult result (IsFile kind old.content name) (IsStopped old new (name ∷ []) (RefusesFile kind old.content name))

-- this is the content of the file, which is within the limit
abbrev pub HasShortContent : ℕ → ToldFiles → List ℕ → List ℕ → Type 0
HasShortContent most told name content = HasContent told.content name content × (length content ≤ most)

abbrev pub IsLongBy : ℕ → ToldFiles → List ℕ → Refusal → Type 0
IsLongBy most told name (TooLong named) = (named ≡ name) × IsLong (IsOver most) told.content name
IsLongBy most told name other = ⊥

-- the file couldn't be read, or is too long
abbrev pub IsTooLong : ℕ → ToldFiles → ToldFiles → List ℕ → Stop → Type 0
IsTooLong most old new name stop = IsStopped old new (name ∷ []) (IsLongBy most old name) stop

-- memory ran out, or it is stopped by this refusal
abbrev pub IsStopBy : Refusal → Stop → Type 0
IsStopBy r stop = (stop ≡ Memory) ⊎ (stop ≡ Refused r)

-- the content, which is that of the file of this name, is read as one of the kind, or refused; or memory ran out
abbrev pub IsStopFor : (List ℕ → FileError → Type 0) → List ℕ → List ℕ → Stop → Type 0
IsStopFor faulty name content (Refused (BadFile named error)) = (named ≡ name) × faulty content error
IsStopFor faulty name content Memory = Unit {0}
IsStopFor faulty name content other = ⊥

abbrev pub ReadsAs : {X : Type 0} → (List ℕ → X → Type 0) → (List ℕ → FileError → Type 0) → List ℕ → List ℕ → Result X Stop → Type 0
ReadsAs reads faulty name content result = MatchResult result (reads content) (IsStopFor faulty name content)

-- the content of a GraphML file
abbrev pub ReadsGraph : List ℕ → List ℕ → Result RawSystem Stop → Type 0
ReadsGraph name content result = ReadsAs IsGraphmlFile (IsFaultBy Graph NoRoomForGraph RefusesGraphml) name content result

-- the system of an Aldebaran file is had, and its bytes were taken; or the work stopped
abbrev pub LoadsTapped : ToldFiles → ToldFiles → List ℕ → (List ℕ → Type 0) → (List ℕ → Type 0) → Result RawSystem Stop → Type 0
LoadsTapped old new name before after result = MatchResult result (IsLoaded (old.content name) MOST_AUT_BYTES before after) (IsStopped old new (name ∷ []) (RefusesFile aut_kind old.content name))

-- the system of the file of this name and the digest of its content are had, or the work stopped
abbrev pub LoadsDigested : Kind RawSystem → ToldFiles → ToldFiles → List ℕ → Result (RawSystem × Digest) Stop → Type 0
LoadsDigested kind old new name result = MatchResult result (λ r. IsFile kind old.content name r.0 × IsDigestOfFile old.content name r.1)
    (IsStopped old new (name ∷ []) (RefusesFile kind old.content name))
