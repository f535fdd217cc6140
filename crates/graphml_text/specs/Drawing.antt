-- Promise: drawings of systems, and the documents that are written for them.
use Rattle.std.specs.Prelude.{◌≡◌, ℕ, ◌+◌, ◌<◌, ◌≤◌, Bool, true, false, ◌==◌, List, [], ◌∷◌, ◌++◌, length, All, Option, Some, None, codes, ◌⊎◌}
use Rattle.std.specs.Str.{IsUtf8}
use Rattle.lts_base.specs.Alphabet.{IsLabel, text_at}
use Rattle.lts_base.specs.declared.limits.TheConstants.{MOST_MOVES, MOST_STATES}
use Rattle.aut_text.specs.Parts.{NamedMove}
use Rattle.aut_text.specs.Form.{visible}
use Rattle.graphml_scan.specs.Piece.{without_white, without_back}
use Rattle.graphml_scan.specs.Tag.{Attribute}
use Rattle.graphml_scan.specs.Written.{Piece, Opens, Whole, Closes, Holds, ArePieces}
use Rattle.graphml_text.specs.Document.{Said}

-- a drawing of a system: the ids of the nodes that stand for its states, in their order, and the ids of two keys
pub record Drawing : Type 0 where
  pub system : Said
  pub ids : List (List ℕ)
  pub label_key : List ℕ
  pub start_key : List ℕ

-- the text that is drawn at a move
abbrev pub label_text : Option (List ℕ) → List ℕ
label_text None = codes "tau"
label_text (Some text) = text

-- the move joins two of so many states, and its label can be drawn: it isn't called `i` or `tau`, and has no white at its ends
pub record IsDrawn (states : ℕ) (m : NamedMove) : Type 0 where
  pub from : m.from < states
  pub to : m.to < states
  pub label : IsLabel (label_text m.label)
  pub seen : visible (label_text m.label) ≡ m.label
  pub front : without_white (label_text m.label) ≡ label_text m.label
  pub back : without_back (label_text m.label) ≡ label_text m.label

-- there is a state, within the limits; each has an id of its own; the start is a state, and each move can be drawn
pub record IsDrawing (d : Drawing) : Type 0 where
  pub states : d.system.states ≡ length d.ids
  pub few_states : length d.ids ≤ MOST_STATES
  pub few_moves : length d.system.moves ≤ MOST_MOVES
  pub start : d.system.start < length d.ids
  pub apart : (j k : ℕ) → j < k → k < length d.ids → ¬ (text_at d.ids j ≡ text_at d.ids k)
  pub moves : All (IsDrawn (length d.ids)) d.system.moves
  pub ids : All IsUtf8 d.ids
  pub label_key : IsUtf8 d.label_key
  pub start_key : IsUtf8 d.start_key

-- an attribute
abbrev pub called : List ℕ → List ℕ → Attribute
called name value = record { name = name; value = value }

-- data of this key
abbrev pub data_pieces : List ℕ → List ℕ → List Piece → List Piece
data_pieces key text others = Opens (codes "data") (called (codes "key") key ∷ []) ∷ Holds text ∷ Closes (codes "data") ∷ others

-- a node, with data if it is the start, and what follows it
abbrev pub node_pieces : Drawing → List ℕ → Bool → List Piece → List Piece
node_pieces d id true others = Opens (codes "node") (called (codes "id") id ∷ []) ∷ data_pieces d.start_key (codes "true") (Closes (codes "node") ∷ others)
node_pieces d id false others = Whole (codes "node") (called (codes "id") id ∷ []) ∷ others

-- the nodes from this state on, and what follows them
abbrev pub nodes_pieces : Drawing → ℕ → List (List ℕ) → List Piece → List Piece
nodes_pieces d k [] others = others
nodes_pieces d k (id ∷ ids) others = node_pieces d id (k == d.system.start) (nodes_pieces d (k + 1) ids others)

-- an edge, and what follows it
abbrev pub edge_pieces : Drawing → NamedMove → List Piece → List Piece
edge_pieces d m others =
    Opens (codes "edge") (called (codes "source") (text_at d.ids m.from) ∷ called (codes "target") (text_at d.ids m.to) ∷ []) ∷
    data_pieces d.label_key (label_text m.label) (Closes (codes "edge") ∷ others)

-- the edges, and what follows them
abbrev pub edges_pieces : Drawing → List NamedMove → List Piece → List Piece
edges_pieces d [] others = others
edges_pieces d (m ∷ moves) others = edge_pieces d m (edges_pieces d moves others)

-- a document: the keys, and the graph with its nodes and its edges
abbrev pub drawing_pieces : Drawing → List Piece
drawing_pieces d =
    Opens (codes "graphml") [] ∷
    Whole (codes "key") (called (codes "id") d.label_key ∷ called (codes "for") (codes "edge") ∷ called (codes "attr.name") (codes "label") ∷ []) ∷
    Whole (codes "key") (called (codes "id") d.start_key ∷ called (codes "for") (codes "node") ∷ called (codes "attr.name") (codes "start") ∷ []) ∷
    Opens (codes "graph") (called (codes "edgedefault") (codes "directed") ∷ []) ∷
    nodes_pieces d 0 d.ids (edges_pieces d d.system.moves (Closes (codes "graph") ∷ Closes (codes "graphml") ∷ []))

-- what may stand before the root: nothing, or a declaration
abbrev pub IsFront : List ℕ → Type 0
IsFront bytes = (bytes ≡ []) ⊎ (bytes ≡ codes "<?xml version=\"1.0\" encoding=\"UTF-8\"?>")

-- the content is a document that is written for the drawing
abbrev pub IsWritten : Drawing → List ℕ → Type 0
IsWritten d content = (front : List ℕ) × (body : List ℕ) × IsFront front × ArePieces (drawing_pieces d) body × (content ≡ front ++ body)
