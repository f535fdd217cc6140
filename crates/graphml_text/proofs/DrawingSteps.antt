-- What each tag of a drawing adds to what was read.
use Rattle.std.proofs.Common.{◌≡◌, ℕ, suc, ◌<◌, ◌≤◌, true, false, nat_lt, List, [], ◌∷◌, ◌++◌, length, map, All, Option, Some, None, Ok, inl, inr, refl, ap₂, arith, codes}
use Rattle.std.specs.List.{list_any}
use Rattle.std.specs.Str.{bytes_eq}
use Rattle.std.proofs.lemmas.Bool.{cases_eq, lt-leb, le-ltb}
use Rattle.std.proofs.lemmas.List.{length_push}
use Rattle.std.proofs.lemmas.Slice.Eq.{bytes_eq-Decides}
use Rattle.std.proofs.lemmas.Str.{is_utf8-from_IsUtf8}
use Rattle.std.proofs.lemmas.List.Elements.{All-head, All-tail}
use Rattle.text_scan.specs.Listing.{has_bytes}
use Rattle.text_scan.proofs.CutLaws.{differs}
use Rattle.lts_base.specs.Alphabet.{IsLabel}
use Rattle.lts_base.specs.declared.limits.TheConstants.{MOST_LABEL_BYTES, MOST_MOVES, MOST_STATES}
use Rattle.aut_text.specs.Form.{visible}
use Rattle.graphml_scan.specs.Piece.{trimmed}
use Rattle.graphml_scan.specs.Token.{Start, End}
use Rattle.graphml_text.specs.declared.role.Role.TheVariants.{Root, Graph, Node, Edge, Mark, Data}
use Rattle.graphml_text.specs.Reading.{Open, NamedEdge, Reading, nothing_read}
use Rattle.graphml_text.specs.Element.{has, spaced, step}
use Rattle.graphml_text.specs.Drawing.{Drawing, called}
use Rattle.graphml_text.proofs.PieceSteps.{Passes, Takes}

-- ---- what is read within the document

abbrev pub root_open : ℕ → Open
root_open at = record { name = codes "graphml"; at = at; role = Root; text = [] }

abbrev graph_open : ℕ → Open
graph_open at = record { name = codes "graph"; at = at; role = Graph; text = [] }

-- the root was opened there, and the keys so far
abbrev pub in_root : ℕ → List (List ℕ) → List (List ℕ) → Reading
in_root a labels starts = record nothing_read { stack = root_open a ∷ []; rooted = true; label_keys = labels; start_keys = starts }

module _ (d : Drawing) (a b : ℕ) where
  -- the graph was opened there
  pub in_graph : List (List ℕ) → Option ℕ → List NamedEdge → Reading
  in_graph nodes marked edges = record {
    stack = root_open a ∷ graph_open b ∷ [];
    rooted = true;
    graphed = true;
    undirected = false;
    label_keys = d.label_key ∷ [];
    start_keys = d.start_key ∷ [];
    nodes = nodes;
    marked = marked;
    draft = None;
    edges = edges;
  }

  abbrev pub in_node : ℕ → List (List ℕ) → Option ℕ → Reading
  in_node at nodes marked = record (in_graph nodes marked []) { stack = root_open a ∷ graph_open b ∷ record { name = codes "node"; at = at; role = Node; text = [] } ∷ [] }

  abbrev pub in_mark : ℕ → ℕ → List (List ℕ) → List ℕ → Reading
  in_mark at data_at nodes t = record (in_graph nodes None []) { stack = root_open a ∷ graph_open b ∷ record { name = codes "node"; at = at; role = Node; text = [] } ∷ record { name = codes "data"; at = data_at; role = Mark; text = t } ∷ [] }

  abbrev pub in_edge : ℕ → List (List ℕ) → Option ℕ → List NamedEdge → List ℕ → List ℕ → List ℕ → Reading
  in_edge at nodes marked edges source target told = record (in_graph nodes marked edges) {
    stack = root_open a ∷ graph_open b ∷ record { name = codes "edge"; at = at; role = Edge; text = [] } ∷ [];
    draft = Some (record { source = source; target = target; labels = []; told = told });
  }

  abbrev pub in_data : ℕ → ℕ → List (List ℕ) → Option ℕ → List NamedEdge → List ℕ → List ℕ → List ℕ → Reading
  in_data at data_at nodes marked edges source target t = record (in_edge at nodes marked edges source target []) {
    stack = root_open a ∷ graph_open b ∷ record { name = codes "edge"; at = at; role = Edge; text = [] } ∷ record { name = codes "data"; at = data_at; role = Data; text = t } ∷ [];
  }

-- ---- labels

has_some : (text : List ℕ) → 0 < length text → has_bytes text ≡ true
has_some [] some = absurd (omega (arith, some))
has_some (b ∷ text) some = refl

spaced_byte : (b : ℕ) → 32 ≤ b → spaced b ≡ b
spaced_byte b plain = elim (cases_eq b 32) [
  | inl e ↦ rw e refl
  | inr other ↦ rw (differs b 32 other, differs b 9 (λ e. omega (arith, e, plain)), differs b 13 (λ e. omega (arith, e, plain)), differs b 10 (λ e. omega (arith, e, plain))) refl
]

spaced_plain : (text : List ℕ) → All (λ b. 32 ≤ b) text → map spaced text ≡ text
spaced_plain [] plain = refl
spaced_plain (b ∷ text) plain = ap₂ {A = ℕ} {B = List ℕ} {C = List ℕ} (λ x xs. x ∷ xs) (spaced_byte b (All-head (λ b. 32 ≤ b) b text plain)) (spaced_plain text (All-tail (λ b. 32 ≤ b) b text plain))

no_control : (text : List ℕ) → All (λ b. 32 ≤ b) text → list_any (λ b. nat_lt b 32) text ≡ false
no_control [] plain = refl
no_control (b ∷ text) plain = rw (le-ltb b 32 (All-head (λ b. 32 ≤ b) b text plain), no_control text (All-tail (λ b. 32 ≤ b) b text plain)) refl

pub same_bytes : (xs : List ℕ) → bytes_eq xs xs ≡ true
same_bytes xs = (bytes_eq-Decides xs xs).1 refl

module _ (d : Drawing) (a b : ℕ) where
  pub graph_passes : (nodes : List (List ℕ)) (marked : Option ℕ) (edges : List NamedEdge) → Passes (in_graph d a b nodes marked edges)
  unfolding step in_graph
  graph_passes nodes marked edges at c white = refl

  pub node_step : (at : ℕ) (nodes : List (List ℕ)) (marked : Option ℕ) (id : List ℕ) → has nodes id ≡ false → length nodes < MOST_STATES →
      step at (in_graph d a b nodes marked []) (Start (record { name = codes "node"; attributes = called (codes "id") id ∷ []; whole = true })) ≡ Ok (in_graph d a b (nodes ++ id ∷ []) marked [])
  unfolding step in_graph
  node_step at nodes marked id new few = rw (new, lt-leb MOST_STATES (length nodes) few, new) refl

  pub node_open_step : (at : ℕ) (nodes : List (List ℕ)) (marked : Option ℕ) (id : List ℕ) → has nodes id ≡ false → length nodes < MOST_STATES →
      step at (in_graph d a b nodes marked []) (Start (record { name = codes "node"; attributes = called (codes "id") id ∷ []; whole = false })) ≡ Ok (in_node d a b at (nodes ++ id ∷ []) marked)
  unfolding step in_graph
  node_open_step at nodes marked id new few = rw (new, lt-leb MOST_STATES (length nodes) few, new) refl

  pub node_passes : (at : ℕ) (nodes : List (List ℕ)) (marked : Option ℕ) → Passes (in_node d a b at nodes marked)
  unfolding step in_graph
  node_passes at nodes marked place c white = refl

  pub mark_step : (place at : ℕ) (nodes : List (List ℕ)) →
      step place (in_node d a b at nodes None) (Start (record { name = codes "data"; attributes = called (codes "key") d.start_key ∷ []; whole = false })) ≡ Ok (in_mark d a b at place nodes [])
  unfolding step in_graph
  mark_step place at nodes = rw (same_bytes d.start_key) refl

  pub mark_takes : (at place : ℕ) (nodes : List (List ℕ)) → Takes (in_mark d a b at place nodes)
  unfolding step in_graph
  mark_takes at place nodes = ((λ k c t. refl), (λ k s t. refl))

  pub mark_ends : (at place k : ℕ) (nodes : List (List ℕ)) (id t : List ℕ) → trimmed t ≡ codes "true" → step k (in_mark d a b at place (nodes ++ id ∷ []) t) (End (codes "data")) ≡ Ok (in_node d a b at (nodes ++ id ∷ []) (Some (length nodes)))
  unfolding step in_graph
  mark_ends at place k nodes id t is =
      let count : length (nodes ++ id ∷ []) ≡ suc (length nodes) = omega (arith, length_push nodes id) in
      rw (is, count) refl

  pub node_ends : (at k : ℕ) (nodes : List (List ℕ)) (marked : Option ℕ) → step k (in_node d a b at nodes marked) (End (codes "node")) ≡ Ok (in_graph d a b nodes marked [])
  unfolding step in_graph
  node_ends at k nodes marked = refl

  pub edge_step : (at : ℕ) (nodes : List (List ℕ)) (marked : Option ℕ) (edges : List NamedEdge) (source target : List ℕ) → length edges < MOST_MOVES →
      step at (in_graph d a b nodes marked edges) (Start (record { name = codes "edge"; attributes = called (codes "source") source ∷ called (codes "target") target ∷ []; whole = false })) ≡ Ok (in_edge d a b at nodes marked edges source target [])
  unfolding step in_graph
  edge_step at nodes marked edges source target few = rw (lt-leb MOST_MOVES (length edges) few) refl

  pub edge_passes : (at : ℕ) (nodes : List (List ℕ)) (marked : Option ℕ) (edges : List NamedEdge) (source target told : List ℕ) → Passes (in_edge d a b at nodes marked edges source target told)
  unfolding step in_graph
  edge_passes at nodes marked edges source target told place c white = refl

  pub data_step : (place at : ℕ) (nodes : List (List ℕ)) (marked : Option ℕ) (edges : List NamedEdge) (source target : List ℕ) →
      step place (in_edge d a b at nodes marked edges source target []) (Start (record { name = codes "data"; attributes = called (codes "key") d.label_key ∷ []; whole = false })) ≡ Ok (in_data d a b at place nodes marked edges source target [])
  unfolding step in_graph
  data_step place at nodes marked edges source target = rw (same_bytes d.label_key) refl

  pub data_takes : (at place : ℕ) (nodes : List (List ℕ)) (marked : Option ℕ) (edges : List NamedEdge) (source target : List ℕ) → Takes (in_data d a b at place nodes marked edges source target)
  unfolding step in_graph
  data_takes at place nodes marked edges source target = ((λ k c t. refl), (λ k s t. refl))

  pub data_ends : (at place k : ℕ) (nodes : List (List ℕ)) (marked : Option ℕ) (edges : List NamedEdge) (source target text t : List ℕ) → trimmed t ≡ text →
      step k (in_data d a b at place nodes marked edges source target t) (End (codes "data")) ≡ Ok (in_edge d a b at nodes marked edges source target text)
  unfolding step in_graph
  data_ends at place k nodes marked edges source target text t is = rw is refl

  pub edge_ends : (at k : ℕ) (nodes : List (List ℕ)) (marked : Option ℕ) (edges : List NamedEdge) (source target text : List ℕ) → IsLabel text → step k (in_edge d a b at nodes marked edges source target text) (End (codes "edge")) ≡ Ok (in_graph d a b nodes marked (edges ++ record { at = at; source = source; target = target; label = visible text } ∷ []))
  unfolding step in_graph
  edge_ends at k nodes marked edges source target text label = rw (has_some text label.some, spaced_plain text label.plain, no_control text label.plain, is_utf8-from_IsUtf8 text label.utf8, le-ltb MOST_LABEL_BYTES (length text) label.short) refl

-- after the root
abbrev pub after_root : Drawing → List (List ℕ) → Option ℕ → List NamedEdge → Reading
after_root d nodes marked edges = record nothing_read { rooted = true; graphed = true; label_keys = d.label_key ∷ []; start_keys = d.start_key ∷ []; nodes = nodes; marked = marked; edges = edges }

-- after the graph
abbrev pub after_graph : Drawing → ℕ → List (List ℕ) → Option ℕ → List NamedEdge → Reading
after_graph d a nodes marked edges = record (after_root d nodes marked edges) { stack = root_open a ∷ [] }

-- ---- the tags around nodes and edges

pub nothing_passes : Passes nothing_read
unfolding step
nothing_passes at b white = rw white refl

pub root_passes : (a : ℕ) (labels starts : List (List ℕ)) → Passes (in_root a labels starts)
unfolding step
root_passes a labels starts at b white = refl

pub root_step : (at : ℕ) → step at nothing_read (Start (record { name = codes "graphml"; attributes = []; whole = false })) ≡ Ok (in_root at [] [])
unfolding step
root_step at = refl

pub label_key_step : (a at : ℕ) (key : List ℕ) → step at (in_root a [] []) (Start (record { name = codes "key"; attributes = called (codes "id") key ∷ called (codes "for") (codes "edge") ∷ called (codes "attr.name") (codes "label") ∷ []; whole = true })) ≡ Ok (in_root a (key ∷ []) [])
unfolding step
label_key_step a at key = refl

pub start_key_step : (a at : ℕ) (label_key key : List ℕ) → step at (in_root a (label_key ∷ []) []) (Start (record { name = codes "key"; attributes = called (codes "id") key ∷ called (codes "for") (codes "node") ∷ called (codes "attr.name") (codes "start") ∷ []; whole = true })) ≡ Ok (in_root a (label_key ∷ []) (key ∷ []))
unfolding step
start_key_step a at label_key key = refl

pub graph_step : (d : Drawing) (a at : ℕ) → step at (in_root a (d.label_key ∷ []) (d.start_key ∷ [])) (Start (record { name = codes "graph"; attributes = called (codes "edgedefault") (codes "directed") ∷ []; whole = false })) ≡ Ok (in_graph d a at [] None [])
unfolding step in_graph
graph_step d a at = refl

pub graph_ends : (d : Drawing) (a b at : ℕ) (nodes : List (List ℕ)) (marked : Option ℕ) (edges : List NamedEdge) → step at (in_graph d a b nodes marked edges) (End (codes "graph")) ≡ Ok (after_graph d a nodes marked edges)
unfolding step in_graph
graph_ends d a b at nodes marked edges = refl

pub after_graph_passes : (d : Drawing) (a : ℕ) (nodes : List (List ℕ)) (marked : Option ℕ) (edges : List NamedEdge) → Passes (after_graph d a nodes marked edges)
unfolding step
after_graph_passes d a nodes marked edges at b white = refl

pub root_ends : (d : Drawing) (a at : ℕ) (nodes : List (List ℕ)) (marked : Option ℕ) (edges : List NamedEdge) → step at (after_graph d a nodes marked edges) (End (codes "graphml")) ≡ Ok (after_root d nodes marked edges)
unfolding step
root_ends d a at nodes marked edges = refl

pub after_root_passes : (d : Drawing) (nodes : List (List ℕ)) (marked : Option ℕ) (edges : List NamedEdge) → Passes (after_root d nodes marked edges)
unfolding step
after_root_passes d nodes marked edges at b white = rw white refl
