-- Promise: what each tag and each text means to the document, and which faults are met there.
use Rattle.std.specs.Prelude.{ℕ, zero, suc, ◌-◌, nat_le, nat_lt, Bool, true, false, not, List, [], ◌∷◌, ◌++◌, length, take, map, Option, Some, None, Result, Ok, Err, is_none, if◌then◌else◌, codes, slice_get, slice_set}
use Rattle.std.specs.Char.{to_ascii_lowercase}
use Rattle.std.specs.List.{list_any, find}
use Rattle.std.specs.Option.{unwrap_or, option_or}
use Rattle.std.specs.Str.{bytes_eq, is_utf8}
use Rattle.text_scan.specs.Listing.{has_bytes}
use Rattle.aut_text.specs.Form.{visible}
use Rattle.graphml_text.specs.declared.error.GraphError.{GraphError}
use Rattle.graphml_text.specs.declared.error.GraphError.TheVariants.{Malformed, SecondGraph, Undirected, Hyperedge, Port, DoubleNode, NoLabel, LabelLong, TooDeep, TooManyStates, TooManyMoves}
use Rattle.graphml_text.specs.declared.role.Role.{Role}
use Rattle.graphml_text.specs.declared.role.Role.TheVariants.{Root, Key, Graph, Node, Edge, Mark, Data, Label, Passed as PassedOver}
use Rattle.graphml_scan.specs.Piece.{is_white, trimmed, local_name}
use Rattle.graphml_scan.specs.Tag.{Attribute, Tag}
use Rattle.graphml_scan.specs.Token.{Token, Byte, Text, Start, End, Passed}
use Rattle.graphml_text.specs.Reading.{Open, Draft, NamedEdge, Reading}
use Rattle.lts_base.specs.declared.limits.TheConstants.{MOST_LABEL_BYTES, MOST_MOVES, MOST_STATES}
use Rattle.graphml_text.specs.declared.limits.TheConstants.{MOST_DEPTH}

-- ---- names and attributes

-- the tag is one of an element of this local name
abbrev pub is_named : List ℕ → Tag → Bool
is_named word tag = bytes_eq (local_name tag.name) word

-- the value of the attribute of this name
abbrev pub value_in : List ℕ → List Attribute → Option (List ℕ)
value_in name [] = None
value_in name (a ∷ attributes) = if bytes_eq a.name name then Some a.value else value_in name attributes

abbrev pub value : List ℕ → Tag → Option (List ℕ)
value name tag = value_in name tag.attributes

-- there is a value, and it is this text
abbrev pub is_text : Option (List ℕ) → List ℕ → Bool
is_text None text = false
is_text (Some found) text = bytes_eq found text

-- the text is among the texts
abbrev pub has : List (List ℕ) → List ℕ → Bool
has texts text = list_any (bytes_eq text) texts

-- there is a value, and it is among the texts
abbrev pub has_value : List (List ℕ) → Option (List ℕ) → Bool
has_value texts None = false
has_value texts (Some text) = has texts text

-- ---- keys

-- the key is for elements of this name: it says so, or says `all`, or doesn't say
abbrev pub is_for : List ℕ → Option (List ℕ) → Bool
is_for word None = true
is_for word (Some text) = if bytes_eq text word then true else bytes_eq text (codes "all")

-- the text is this word, without regard to ASCII case
abbrev pub is_same_word : List ℕ → List ℕ → Bool
is_same_word text word = bytes_eq (map to_ascii_lowercase text) (map to_ascii_lowercase word)

abbrev pub is_called : List ℕ → Option (List ℕ) → Bool
is_called word None = false
is_called word (Some text) = is_same_word text word

abbrev pub is_label_key : Tag → Bool
is_label_key tag = if is_for (codes "edge") (value (codes "for") tag) then is_called (codes "label") (value (codes "attr.name") tag) else false

abbrev pub is_start_key : Tag → Bool
is_start_key tag = if is_for (codes "node") (value (codes "for") tag) then is_called (codes "start") (value (codes "attr.name") tag) else false

-- the ids with one more, if it is new
abbrev pub with_id : List (List ℕ) → List ℕ → List (List ℕ)
with_id ids id = if has ids id then ids else ids ++ id ∷ []

-- the keys with the key of this id, if the tag is that of one of them
abbrev pub with_key : Bool → Option (List ℕ) → List (List ℕ) → List (List ℕ)
with_key true (Some id) keys = with_id keys id
with_key true None keys = keys
with_key false id keys = keys

-- ---- what an element is

-- what an element is right inside the graph
abbrev pub role_in_graph : Tag → Role
role_in_graph tag =
    if is_named (codes "node") tag then Node
    else (if is_named (codes "edge") tag then Edge else PassedOver)

-- what an element is right inside one of this role
abbrev pub role_under : Reading → Tag → Role → Role
role_under m tag Root =
    if is_named (codes "key") tag then (if m.graphed then PassedOver else Key)
    else (if is_named (codes "graph") tag then Graph else PassedOver)
role_under m tag Graph = role_in_graph tag
role_under m tag Node =
    if is_named (codes "data") tag then (if has_value m.start_keys (value (codes "key") tag) then Mark else PassedOver)
    else PassedOver
role_under m tag Edge =
    if is_named (codes "data") tag then (if has_value m.label_keys (value (codes "key") tag) then Data else PassedOver)
    else PassedOver
role_under m tag other = PassedOver

-- what an element is, unless it is a label of the open edge: without an open element around it, it is the root
abbrev pub role_inside : Reading → Tag → Option Open → Role
role_inside m tag None = Root
role_inside m tag (Some around) = role_under m tag around.role

abbrev pub innermost : Reading → Option Open
innermost m = slice_get m.stack (length m.stack - 1)

-- what the element of a start tag is; `EdgeLabel` counts at any depth in an edge
abbrev pub role_with : Reading → Tag → Option Draft → Role
role_with m tag None = role_inside m tag (innermost m)
role_with m tag (Some draft) = if is_named (codes "EdgeLabel") tag then Label (length draft.labels) else role_inside m tag (innermost m)

abbrev pub role_of : Reading → Tag → Role
role_of m tag = role_with m tag m.draft

-- ---- faults of a start tag, in their order

abbrev pub is_graph : Role → Bool
is_graph Graph = true
is_graph other = false

-- the graph is open
abbrev pub is_in_graph : Reading → Bool
is_in_graph m = list_any (λ (o : Open). is_graph o.role) m.stack

-- the root must be the first and be called `graphml`, a node needs an id, and an edge needs both ends
abbrev pub lacks : Reading → Tag → Role → Bool
lacks m tag Root = if m.rooted then true else not (is_named (codes "graphml") tag)
lacks m tag Node = is_none (value (codes "id") tag)
lacks m tag Edge = if is_none (value (codes "source") tag) then true else is_none (value (codes "target") tag)
lacks m tag other = false

-- the edge is directed: it says `true`, or says nothing where the graph doesn't say `undirected`
abbrev pub is_directed : Reading → Option (List ℕ) → Bool
is_directed m None = not m.undirected
is_directed m (Some text) = bytes_eq text (codes "true")

abbrev pub edge_fault : ℕ → Reading → Tag → Option GraphError
edge_fault at m tag =
    if is_directed m (value (codes "directed") tag) then (if nat_le MOST_MOVES (length m.edges) then Some TooManyMoves else None)
    else Some (Undirected at)

abbrev pub node_fault : ℕ → Reading → Tag → Option GraphError
node_fault at m tag =
    if has_value m.nodes (value (codes "id") tag) then Some (DoubleNode at)
    else (if nat_le MOST_STATES (length m.nodes) then Some TooManyStates
    else None)

abbrev pub role_fault : ℕ → Reading → Tag → Role → Option GraphError
role_fault at m tag Edge = edge_fault at m tag
role_fault at m tag Node = node_fault at m tag
role_fault at m tag other = None

-- elements that the graph may not have
abbrev pub foreign_fault : ℕ → Reading → Tag → Option GraphError
foreign_fault at m tag =
    if is_in_graph m then (if is_named (codes "hyperedge") tag then Some (Hyperedge at)
    else (if is_named (codes "port") tag then Some (Port at)
    else None))
    else None

-- the first of two faults
abbrev pub first_fault : Option GraphError → Option GraphError → Option GraphError
first_fault None later = later
first_fault (Some e) later = Some e

abbrev pub second_graph : ℕ → Reading → Tag → Option GraphError
second_graph at m tag = if m.graphed then (if is_named (codes "graph") tag then Some (SecondGraph at) else None) else None

abbrev pub start_fault : ℕ → Reading → Tag → Role → Option GraphError
start_fault at m tag role =
    if lacks m tag role then Some (Malformed at)
    else (if nat_le MOST_DEPTH (length m.stack) then Some (TooDeep at)
    else first_fault (second_graph at m tag) (first_fault (foreign_fault at m tag) (role_fault at m tag role)))

-- ---- what a start tag adds

-- the text of an attribute that is there
abbrev pub needed : List ℕ → Tag → List ℕ
needed name tag = unwrap_or (value name tag) []

-- the edge with one more label element, whose text is still to come
abbrev pub with_label : Option Draft → Option Draft
with_label None = None
with_label (Some draft) = Some (record draft { labels = draft.labels ++ [] ∷ [] })

abbrev pub entered : Reading → Tag → Role → Reading
entered m tag Root = record m { rooted = true }
entered m tag Key = record m {
  label_keys = with_key (is_label_key tag) (value (codes "id") tag) m.label_keys;
  start_keys = with_key (is_start_key tag) (value (codes "id") tag) m.start_keys;
}
entered m tag Graph = record m { undirected = is_text (value (codes "edgedefault") tag) (codes "undirected") }
entered m tag Node = record m { nodes = with_id m.nodes (needed (codes "id") tag) }
entered m tag Edge = record m { draft = Some (record { source = needed (codes "source") tag; target = needed (codes "target") tag; labels = []; told = [] }) }
entered m tag (Label k) = record m { draft = with_label m.draft }
entered m tag other = m

-- the element is open, and a `graph` was met if it is one
abbrev pub opened : ℕ → Reading → Tag → Role → Reading
opened at m tag role =
    let n = entered m tag role in
    record n {
      stack = m.stack ++ record { name = tag.name; at = at; role = role; text = [] } ∷ [];
      graphed = if is_named (codes "graph") tag then true else m.graphed;
    }

-- ---- the end of an element

-- white bytes are spaces in a label
abbrev pub spaced : ℕ → ℕ
spaced b = if is_white b then 32 else b

-- the label with spaces for white, unless it has another byte below a space
abbrev pub clean : List ℕ → Option (List ℕ)
clean text = if list_any (λ b. nat_lt b 32) (map spaced text) then None else Some (map spaced text)

-- the text, if it isn't empty
abbrev pub some_text : List ℕ → Option (List ℕ)
some_text text = if has_bytes text then Some text else None

-- the label of an edge: the first text of its label elements that isn't empty, or else of its data
abbrev pub label_of : Draft → Option (List ℕ)
label_of draft = option_or (find has_bytes draft.labels) (some_text draft.told)

-- the edge, unless its label is missing, has other bytes below 32, or is too long; pieces of UTF-8 are cut at ASCII bytes, so
-- no label of a document fails the test for UTF-8
abbrev pub edge_from : ℕ → Draft → Option (List ℕ) → Result NamedEdge GraphError
edge_from at draft None = Err (NoLabel at)
edge_from at draft (Some text) =
    if list_any (λ b. nat_lt b 32) (map spaced text) then Err (Malformed at)
    else (if is_utf8 (map spaced text) then (if nat_lt MOST_LABEL_BYTES (length text) then Err (LabelLong at)
    else Ok (record { at = at; source = draft.source; target = draft.target; label = visible (map spaced text) }))
    else Err (Malformed at))

abbrev pub with_edge : Reading → Result NamedEdge GraphError → Result Reading GraphError
with_edge m (Err e) = Err e
with_edge m (Ok edge) = Ok (record m { draft = None; edges = m.edges ++ edge ∷ [] })

abbrev pub edge_ended : Reading → ℕ → Option Draft → Result Reading GraphError
edge_ended m at None = Ok m
edge_ended m at (Some draft) = with_edge m (edge_from at draft (label_of draft))

-- the place of the last of so many
abbrev pub last_place : ℕ → Option ℕ
last_place zero = None
last_place (suc n) = Some n

-- the last node is the start if its data says `true` and no node was marked before
abbrev pub with_mark : Option ℕ → ℕ → List ℕ → Option ℕ
with_mark (Some first) count text = Some first
with_mark None count text = if bytes_eq text (codes "true") then last_place count else None

abbrev pub with_label_text : Option Draft → ℕ → List ℕ → Option Draft
with_label_text None k text = None
with_label_text (Some draft) k text = Some (record draft { labels = slice_set draft.labels k text })

abbrev pub with_data_text : Option Draft → List ℕ → Option Draft
with_data_text None text = None
with_data_text (Some draft) text = Some (record draft { told = if has_bytes draft.told then draft.told else text })

-- the last node is the start, if the text says so
abbrev pub marked_by : Reading → List ℕ → Reading
marked_by m text = record m { marked = with_mark m.marked (length m.nodes) text }

-- the text is told of the open edge
abbrev pub told_by : Reading → List ℕ → Reading
told_by m text = record m { draft = with_data_text m.draft text }

-- the text is that of a label element of the open edge
abbrev pub labelled_by : Reading → ℕ → List ℕ → Reading
labelled_by m k text = record m { draft = with_label_text m.draft k text }

-- what the end of an element adds
abbrev pub left : Reading → Open → Role → Result Reading GraphError
left m o Mark = Ok (marked_by m (trimmed o.text))
left m o Data = Ok (told_by m (trimmed o.text))
left m o (Label k) = Ok (labelled_by m k (trimmed o.text))
left m o Edge = edge_ended m o.at m.draft
left m o other = Ok m

-- the innermost element ends
abbrev pub closed : Reading → Open → Result Reading GraphError
closed m o = let n = record m { stack = take (length m.stack - 1) m.stack } in left n o o.role

-- ---- one token

abbrev pub started : ℕ → Reading → Tag → Role → Option GraphError → Result Reading GraphError
started at m tag role (Some e) = Err e
started at m tag role None =
    let n = opened at m tag role in
    if tag.whole then closed n (record { name = tag.name; at = at; role = role; text = [] }) else Ok n

abbrev pub ended : ℕ → Reading → List ℕ → Option Open → Result Reading GraphError
ended at m name None = Err (Malformed at)
ended at m name (Some o) = if bytes_eq o.name name then closed m o else Err (Malformed at)

-- the direct text of the element counts
abbrev pub collects : Role → Bool
collects Mark = true
collects Data = true
collects (Label k) = true
collects other = false

-- an element with so much more text, if that counts
abbrev pub with_text : List ℕ → Open → Open
with_text text o = if collects o.role then record o { text = o.text ++ text } else o

abbrev pub texted : Reading → List ℕ → Open → Reading
texted m text o = record m { stack = take (length m.stack - 1) m.stack ++ with_text text o ∷ [] }

-- text outside the root is white, and stands for itself
abbrev pub byte_read : ℕ → Reading → ℕ → Option Open → Result Reading GraphError
byte_read at m b None = if is_white b then Ok m else Err (Malformed at)
byte_read at m b (Some o) = Ok (texted m (b ∷ []) o)

abbrev pub text_read : ℕ → Reading → List ℕ → Option Open → Result Reading GraphError
text_read at m text None = Err (Malformed at)
text_read at m text (Some o) = Ok (texted m text o)

-- what a token at this offset adds to what was read, or the fault that is met there
unfoldable pub step : ℕ → Reading → Token → Result Reading GraphError
step at m (Byte b) = byte_read at m b (innermost m)
step at m (Text text) = text_read at m text (innermost m)
step at m (Start tag) = let role = role_of m tag in started at m tag role (start_fault at m tag role)
step at m (End name) = ended at m name (innermost m)
step at m Passed = Ok m
