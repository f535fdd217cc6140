-- Promise: what is printed for refusals.
use Rattle.std.specs.Prelude.{ℕ, List, [], ◌∷◌, ◌++◌, codes, decimal}
use Rattle.std.specs.List.{flat_map}
use Rattle.lts_base.specs.declared.sorting.SplitError.{SplitError}
use Rattle.lts_base.specs.declared.sorting.SplitError.TheVariants.{Unsorted, Reserved, TooManyLabels, Memory as NoRoomForLabels}
use Rattle.aut_text.specs.declared.error.AutError.{AutError}
use Rattle.aut_text.specs.declared.error.AutError.TheVariants.{Header, Line, State, Count, LabelLong, NotUtf8, TooManyStates, TooManyMoves, Memory as NoRoomForFile}
use Rattle.text_scan.specs.declared.error.LinesError.{LinesError}
use Rattle.text_scan.specs.declared.error.LinesError.TheVariants.{Line as ListLine, LabelLong as ListLabelLong, NotUtf8 as ListNotUtf8, Memory as NoRoomForList}
use Rattle.graphml_text.specs.declared.error.GraphError.{GraphError}
use Rattle.graphml_text.specs.declared.error.GraphError.TheVariants.{Malformed, Doctype, Encoding, NotUtf8 as GraphNotUtf8, NoGraph, SecondGraph, Undirected, Hyperedge, Port, DoubleNode, UnknownNode, NoLabel, LabelLong as GraphLabelLong, TooDeep, TooManyStates as GraphTooManyStates, TooManyMoves as GraphTooManyMoves, Memory as NoRoomForGraph}
use Rattle.cert_text.specs.declared.error.CertError.{CertError}
use Rattle.cert_text.specs.declared.error.CertError.TheVariants.{Line as CertLine, Cut as CertCut, UnknownLabel as CertUnknown, StateRange as CertRange, Memory as NoRoomForCert}
use Rattle.log_text.specs.declared.error.LogError.{LogError}
use Rattle.log_text.specs.declared.error.LogError.TheVariants.{Version as LogVersion, Line as LogLine, Cut as LogCut, Memory as NoRoomForLogs}
use Rattle.torx_words.specs.declared.kind.UsageKind.{UsageKind}
use Rattle.torx_words.specs.declared.kind.UsageKind.TheVariants.{NoCommand, UnknownCommand, Words, Value, Clash}
use Rattle.trace_text.specs.Lines.{line}
use Rattle.tool_base.specs.declared.refusal.FileError.{FileError}
use Rattle.tool_base.specs.declared.refusal.FileError.TheVariants.{Aut, Graph, Lines, Cert as Certified, Logs, OtherSpec, OtherDivergence, UnknownLabel, GoalLength}
use Rattle.tool_base.specs.declared.refusal.Refusal.{Refusal}
use Rattle.tool_base.specs.declared.refusal.Refusal.TheVariants.{TooLong, BadFile, BadLabels, Divergent, FileFault}

abbrev pub kind_text : UsageKind → List ℕ
kind_text NoCommand = codes "no-command"
kind_text UnknownCommand = codes "unknown-command"
kind_text Words = codes "words"
kind_text Value = codes "value"
kind_text Clash = codes "clash"

abbrev pub usage_text : UsageKind → List ℕ
usage_text kind = line (codes "usage ") (kind_text kind)

abbrev pub aut_error_text : AutError → List ℕ
aut_error_text Header = codes "header"
aut_error_text (Line n) = codes "line " ++ decimal n
aut_error_text (State n) = codes "state " ++ decimal n
aut_error_text (Count declared found) = codes "count declared=" ++ (decimal declared ++ (codes " found=" ++ decimal found))
aut_error_text (LabelLong n) = codes "label-long " ++ decimal n
aut_error_text (NotUtf8 n) = codes "not-utf8 " ++ decimal n
aut_error_text TooManyStates = codes "too-many-states"
aut_error_text TooManyMoves = codes "too-many-moves"
aut_error_text NoRoomForFile = []

-- a fault and its offset
abbrev pub at_offset : List ℕ → ℕ → List ℕ
at_offset fault offset = fault ++ 32 ∷ decimal offset

abbrev pub graph_error_text : GraphError → List ℕ
graph_error_text (Malformed n) = at_offset (codes "malformed") n
graph_error_text (Doctype n) = at_offset (codes "doctype") n
graph_error_text Encoding = codes "encoding"
graph_error_text (GraphNotUtf8 n) = at_offset (codes "not-utf8") n
graph_error_text NoGraph = codes "no-graph"
graph_error_text (SecondGraph n) = at_offset (codes "second-graph") n
graph_error_text (Undirected n) = at_offset (codes "undirected") n
graph_error_text (Hyperedge n) = at_offset (codes "hyperedge") n
graph_error_text (Port n) = at_offset (codes "port") n
graph_error_text (DoubleNode n) = at_offset (codes "double-node") n
graph_error_text (UnknownNode n) = at_offset (codes "unknown-node") n
graph_error_text (NoLabel n) = at_offset (codes "no-label") n
graph_error_text (GraphLabelLong n) = at_offset (codes "label-long") n
graph_error_text (TooDeep n) = at_offset (codes "too-deep") n
graph_error_text GraphTooManyStates = codes "too-many-states"
graph_error_text GraphTooManyMoves = codes "too-many-moves"
graph_error_text NoRoomForGraph = []

abbrev pub list_error_text : LinesError → List ℕ
list_error_text (ListLine n) = codes "line " ++ decimal n
list_error_text (ListLabelLong n) = codes "label-long " ++ decimal n
list_error_text (ListNotUtf8 n) = codes "not-utf8 " ++ decimal n
list_error_text NoRoomForList = []

abbrev pub cert_error_text : CertError → List ℕ
cert_error_text (CertLine n) = codes "line " ++ decimal n
cert_error_text (CertCut n) = codes "cut " ++ decimal n
cert_error_text (CertUnknown n) = codes "unknown-label " ++ decimal n
cert_error_text (CertRange n) = codes "state-range " ++ decimal n
cert_error_text NoRoomForCert = []

abbrev pub log_error_text : LogError → List ℕ
log_error_text LogVersion = codes "version"
log_error_text (LogLine n) = codes "line " ++ decimal n
log_error_text LogCut = codes "cut"
log_error_text NoRoomForLogs = []

abbrev pub error_text : FileError → List ℕ
error_text (Aut error) = aut_error_text error
error_text (Graph error) = graph_error_text error
error_text (Lines error) = list_error_text error
error_text (Certified error) = cert_error_text error
error_text (Logs error) = log_error_text error
error_text (OtherSpec n) = codes "other-spec " ++ decimal n
error_text (OtherDivergence n) = codes "other-divergence " ++ decimal n
error_text (UnknownLabel n) = codes "unknown-label " ++ decimal n
error_text GoalLength = codes "goal-length"

abbrev pub labels_text : SplitError → List ℕ
labels_text (Unsorted told) = line (codes "labels unsorted ") told
labels_text (Reserved told) = line (codes "labels reserved ") told
labels_text TooManyLabels = line (codes "labels too-many") []
labels_text NoRoomForLabels = []

-- states, each after a blank
abbrev pub states_text : List ℕ → List ℕ
states_text states = flat_map (λ (q : ℕ). codes " " ++ decimal q) states

-- the whole text of a refusal
abbrev pub refusal_text : Refusal → List ℕ
refusal_text (TooLong name) = line (codes "too-long ") name
refusal_text (BadFile name error) = codes "bad " ++ (name ++ line (codes " ") (error_text error))
refusal_text (BadLabels error) = labels_text error
refusal_text (Divergent name cycle) = codes "divergent " ++ (name ++ (states_text cycle ++ 10 ∷ []))
refusal_text (FileFault name) = line (codes "fault ") name
