-- Private: what the reader knows, as lists.
use Rattle.std.specs.Prelude.{◌≡◌, ℕ, List, [], ◌∷◌, ◌++◌, map, option_map, Result, Ok, Err, MatchResult, Vec}
use Rattle.std.specs.Global.{Global}
use Rattle.lts_base.specs.Raw.{RawSystem}
use Rattle.graphml_text.specs.declared.error.GraphError.{GraphError}
use Rattle.graphml_text.specs.declared.error.GraphError.TheVariants.{Memory}
use Rattle.graphml_text.specs.declared.machine.Machine.{Machine}
use Rattle.graphml_text.specs.declared.machine.Open.{Open as LentOpen}
use Rattle.graphml_text.specs.declared.machine.Draft.{Draft as HeldDraft}
use Rattle.graphml_text.specs.declared.edge.NamedEdge.{NamedEdge as HeldEdge}
use Rattle.graphml_scan.specs.Values.{text_of}
use Rattle.graphml_text.specs.Reading.{Open, Draft, NamedEdge, Reading}
use Rattle.graphml_text.specs.Element.{left, with_text}
use Rattle.graphml_text.specs.Document.{Said, said_of}

-- the ids, as lists
abbrev pub ids_of : List (Vec ℕ Global) → List (List ℕ)
ids_of ids = map (λ v. v.items) ids

abbrev pub open_of : LentOpen → Open
open_of o = record { name = o.name.now; at = o.at; role = o.role; text = text_of o.text }

abbrev pub draft_of : HeldDraft → Draft
draft_of d = record { source = text_of d.source; target = text_of d.target; labels = map text_of d.labels.items; told = text_of d.told }

abbrev pub edge_of : HeldEdge → NamedEdge
edge_of e = record { at = e.at; source = text_of e.source; target = text_of e.target; label = option_map text_of e.label }

abbrev pub reading_of : Machine → Reading
reading_of m = record {
  stack = map open_of m.stack.items;
  rooted = m.rooted;
  graphed = m.graphed;
  undirected = m.undirected;
  label_keys = m.label_keys;
  start_keys = m.start_keys;
  nodes = m.graph.ids;
  marked = m.marked;
  draft = option_map draft_of m.draft;
  edges = m.graph.edges;
}

-- a refusal is for the fault that is met, or for want of memory
abbrev pub Refuses : {A : Type 0} → GraphError → Result A GraphError → Type 0
Refuses Memory read = Unit {0}
Refuses e read = read ≡ Err e

-- the reader has read this, or refuses
abbrev pub Steps : {A : Type 0} → Reading → Result A GraphError → Result Reading GraphError → Type 0
Steps m r read = MatchResult r (λ _. read ≡ Ok m) (λ e. Refuses e read)

-- an edge was made so, or is refused for the fault that is met, or for want of memory
abbrev pub MakesEdge : Result HeldEdge GraphError → Result NamedEdge GraphError → Type 0
MakesEdge (Ok edge) read = read ≡ Ok (edge_of edge)
MakesEdge (Err Memory) read = Unit {0}
MakesEdge (Err e) read = read ≡ Err e

-- the reader gives a system that says what is read here, or refuses
abbrev pub Says : Result RawSystem GraphError → Result Said GraphError → Type 0
Says r read = MatchResult r (λ raw. read ≡ Ok (said_of raw)) (λ e. Refuses e read)

-- the machine does what the end of its innermost element does, whichever that is
abbrev pub Closes : {A : Type 0} → Machine → Reading → Result A GraphError → Type 0
Closes m new r = (front : List Open) (o : Open) → map open_of m.stack.items ≡ front ++ o ∷ [] → Steps new r (left (record (reading_of m) { stack = front }) o o.role)

-- the text is added to the innermost element, whichever that is
abbrev pub Adds : List LentOpen → List LentOpen → List ℕ → Type 0
Adds old new text = (front : List Open) (o : Open) → map open_of old ≡ front ++ o ∷ [] → map open_of new ≡ front ++ with_text text o ∷ []
