-- Promise: kinds of files, when a file is read as a value of its kind, and why it is refused.
use Rattle.std.specs.Prelude.{◌≡◌, Bool, true, false, eqb, ℕ, ◌<◌, ◌≤◌, List, length, codes, ◌⊎◌}
use Rattle.std.specs.List.{ends_with}
use Rattle.lts_base.specs.declared.item.Item.{Item}
use Rattle.lts_base.specs.declared.limits.TheConstants.{MOST_AUT_BYTES, MOST_FILE_BYTES, MOST_CERT_BYTES}
use Rattle.lts_base.specs.Alphabet.{Alphabet}
use Rattle.lts_base.specs.Raw.{RawSystem}
use Rattle.text_scan.specs.Listing.{IsListing, RefusesListing}
use Rattle.text_scan.specs.declared.error.LinesError.TheVariants.{Line as ListLine, Memory as NoRoomForList}
use Rattle.aut_text.specs.Grammar.{IsAutFile}
use Rattle.aut_text.specs.Loaded.{IsTooLong, IsMetFirst}
use Rattle.aut_text.specs.declared.error.AutError.TheVariants.{Memory as NoRoomForFile}
use Rattle.graphml_text.specs.Document.{IsGraphmlFile, RefusesGraphml}
use Rattle.graphml_text.specs.declared.error.GraphError.TheVariants.{Memory as NoRoomForGraph}
use Rattle.trace_text.specs.Traces.{IsTrace, RefusesTrace}
use Rattle.walk_core.specs.declared.choice.Choice.{Choice}
use Rattle.script_text.specs.declared.error.ScriptError.{ScriptError}
use Rattle.script_text.specs.declared.error.ScriptError.TheVariants.{Line as ScriptLine, UnknownLabel as ScriptLabel, Memory as NoRoomForScript}
use Rattle.script_text.specs.Script.{IsScript, RefusesScript}
use Rattle.cert_text.specs.declared.cert.Cert.{Cert}
use Rattle.cert_text.specs.declared.error.CertError.TheVariants.{Memory as NoRoomForCert}
use Rattle.cert_text.specs.Certificate.{IsCertOf}
use Rattle.cert_text.specs.Faults.{RefusesCert}
use Rattle.log_text.specs.declared.log.Digest.{Digest}
use Rattle.log_text.specs.declared.log.Named.{Named}
use Rattle.log_text.specs.declared.error.LogError.TheVariants.{Memory as NoRoomForLogs}
use Rattle.log_text.specs.Logs.{IsDigest, AreLogsOf}
use Rattle.log_text.specs.Faults.{RefusesLogs}
use Rattle.sha2.specs.Sha256.{sha256}
use Rattle.tool_base.specs.declared.refusal.FileError.{FileError}
use Rattle.tool_base.specs.declared.refusal.FileError.TheVariants.{Aut, Graph, Lines, Cert as Certified, Logs, UnknownLabel, GoalLength}
use Rattle.tool_base.specs.declared.refusal.Refusal.{Refusal}
use Rattle.tool_base.specs.declared.refusal.Refusal.TheVariants.{TooLong, BadFile}
use Rattle.tool_base.specs.Contents.{Contents, HasContent}

-- a kind of files: the most bytes of one, what a content is read as, whether it is too long, and the fault of one that isn't read
pub record Kind (X : Type 0) : Type 1 where
  pub most : ℕ
  pub reads : List ℕ → X → Type 0
  pub long : List ℕ → Type 0
  pub faulty : List ℕ → FileError → Type 0

-- the content has more than so many bytes
abbrev pub IsOver : ℕ → List ℕ → Type 0
IsOver most content = most < length content

-- the content has at most so many bytes, and this fault
abbrev pub IsWithinFault : ℕ → (List ℕ → FileError → Type 0) → List ℕ → FileError → Type 0
IsWithinFault most faulty content error = (length content ≤ most) × faulty content error

-- a kind of files that are read when their whole content is there
abbrev pub whole_kind : {X : Type 0} → ℕ → (List ℕ → X → Type 0) → (List ℕ → FileError → Type 0) → Kind X
whole_kind most reads faulty = record { most = most; reads = reads; long = IsOver most; faulty = IsWithinFault most faulty }

-- the file of this name is read as x
pub record IsFile {X : Type 0} (kind : Kind X) (contents : Contents) (name : List ℕ) (x : X) : Type 0 where
  pub content : List ℕ
  pub has : HasContent contents name content
  pub short : length content ≤ kind.most
  pub reads : kind.reads content x

-- the file of this name is too long in this sense
pub record IsLong (exceeds : List ℕ → Type 0) (contents : Contents) (name : List ℕ) : Type 0 where
  pub content : List ℕ
  pub has : HasContent contents name content
  pub long : exceeds content

-- the file of this name isn't one of its kind, and this is its first fault
pub record IsBad {X : Type 0} (kind : Kind X) (contents : Contents) (name : List ℕ) (error : FileError) : Type 0 where
  pub content : List ℕ
  pub has : HasContent contents name content
  pub faulty : kind.faulty content error

-- why the file of this name is refused
abbrev pub RefusesFile : {X : Type 0} → Kind X → Contents → List ℕ → Refusal → Type 0
RefusesFile kind contents name (TooLong named) = (named ≡ name) × IsLong kind.long contents name
RefusesFile kind contents name (BadFile named error) = (named ≡ name) × IsBad kind contents name error
RefusesFile kind contents name other = ⊥

-- the reader of the content refuses it for this, and not for want of memory
abbrev pub IsFaultBy : {E : Type 0} → (E → FileError) → E → (List ℕ → E → Type 0) → List ℕ → FileError → Type 0
IsFaultBy {E} told memory refuses content error = (e : E) × (error ≡ told e) × refuses content e × ¬ (e ≡ memory)

-- the content is no trace over the alphabet: this line names no item
abbrev pub IsFaultyTrace : Alphabet → List ℕ → FileError → Type 0
IsFaultyTrace a content error = (line : ℕ) × (error ≡ UnknownLabel line) × RefusesTrace a content line

-- the trace has an item at least, and at most so many
abbrev pub IsWithinSteps : ℕ → List Item → Type 0
IsWithinSteps steps σ = (0 < length σ) × (length σ ≤ steps)

-- the content is a trace over the alphabet that may be the goal of a session with so many steps
abbrev pub IsGoal : Alphabet → ℕ → List ℕ → List Item → Type 0
IsGoal a steps content σ = IsTrace a content σ × IsWithinSteps steps σ

-- the content is no trace, or the trace is no goal
abbrev pub IsFaultyGoal : Alphabet → ℕ → List ℕ → FileError → Type 0
IsFaultyGoal a steps content error = IsFaultyTrace a content error ⊎ ((σ : List Item) × IsTrace a content σ × (¬ IsWithinSteps steps σ) × (error ≡ GoalLength))

-- what is told of the fault of a script
abbrev pub script_error : ScriptError → FileError
script_error (ScriptLine n) = Lines (ListLine n)
script_error (ScriptLabel n) = UnknownLabel n
script_error NoRoomForScript = Lines NoRoomForList

-- the fault of an Aldebaran file that is met first while it is read, and not want of memory
abbrev pub IsFaultyAut : List ℕ → FileError → Type 0
IsFaultyAut = IsFaultBy Aut NoRoomForFile (IsMetFirst MOST_AUT_BYTES)

-- Aldebaran files, which are read while their bytes come: a fault comes before bytes too many
abbrev pub aut_kind : Kind RawSystem
aut_kind = record { most = MOST_AUT_BYTES; reads = IsAutFile; long = IsTooLong MOST_AUT_BYTES; faulty = IsFaultyAut }

-- GraphML files
abbrev pub graph_kind : Kind RawSystem
graph_kind = whole_kind MOST_FILE_BYTES IsGraphmlFile (IsFaultBy Graph NoRoomForGraph RefusesGraphml)

-- the name is that of a GraphML file
abbrev pub is_graphml : List ℕ → Bool
is_graphml name = ends_with eqb name (codes ".graphml")

-- files of systems, GraphML or Aldebaran ones
abbrev pub kind_of : Bool → Kind RawSystem
kind_of true = graph_kind
kind_of false = aut_kind

-- files of systems, by their names
abbrev pub system_kind : List ℕ → Kind RawSystem
system_kind name = kind_of (is_graphml name)

-- files that list labels
abbrev pub list_kind : Kind (List (List ℕ))
list_kind = whole_kind MOST_FILE_BYTES IsListing (IsFaultBy Lines NoRoomForList RefusesListing)

-- files of traces over an alphabet
abbrev pub trace_kind : Alphabet → Kind (List Item)
trace_kind a = whole_kind MOST_FILE_BYTES (IsTrace a) (IsFaultyTrace a)

-- files of goals over an alphabet, for sessions with so many steps
abbrev pub goal_kind : Alphabet → ℕ → Kind (List Item)
goal_kind a steps = whole_kind MOST_FILE_BYTES (IsGoal a steps) (IsFaultyGoal a steps)

-- files of scripts over an alphabet
abbrev pub script_kind : Alphabet → Kind (List Choice)
script_kind a = whole_kind MOST_FILE_BYTES (IsScript a) (IsFaultBy script_error NoRoomForScript (RefusesScript a))

-- certificates over an alphabet, of an implementation and a specification with so many states
abbrev pub cert_kind : Alphabet → ℕ → ℕ → Kind Cert
cert_kind a imp spec = whole_kind MOST_CERT_BYTES (IsCertOf a imp spec) (IsFaultBy Certified NoRoomForCert (RefusesCert a imp spec))

-- files of logs of sessions
abbrev pub logs_kind : Kind (List Named)
logs_kind = whole_kind MOST_FILE_BYTES AreLogsOf (IsFaultBy Logs NoRoomForLogs RefusesLogs)

-- the digest is that of the content of the file of this name
pub record IsDigestOfFile (contents : Contents) (name : List ℕ) (digest : Digest) : Type 0 where
  pub content : List ℕ
  pub has : HasContent contents name content
  pub is : digest.0 ≡ sha256 content
  pub sound : IsDigest digest
