-- The document that is written for a drawing is read as the drawn system.
use Rattle.std.proofs.Common.{◌≡◌, ◌∙◌, ℕ, suc, ◌+◌, ◌<◌, ◌≤◌, Bool, true, false, cond, not, ◌==◌, nat_lt, List, [], ◌∷◌, ◌++◌, append_assoc, length, map, take, drop, All, Option, Some, None, Result, Ok, inl, inr, ◌⊎◌, refl, sym, ap, ap₂, subst, arith, codes}
use Rattle.std.specs.List.{find, prefix_len, AllByRecursion}
use Rattle.std.specs.Str.{bytes_eq, is_utf8, IsUtf8}
use Rattle.std.proofs.lemmas.Bool.{cases_eq, cases_Bool, cases_lt, eq-eqb, eqb-true, true≢false, le-ltb, lt-ltb}
use Rattle.std.proofs.lemmas.List.{length_push, append-nil, length-append}
use Rattle.std.proofs.Math.ListN.{get_or-append}
use Rattle.std.proofs.Math.Seq.{get_or-append_seam}
use Rattle.std.proofs.lemmas.Slice.Eq.{bytes_eq-Decides}
use Rattle.std.proofs.lemmas.Str.{is_utf8-from_IsUtf8, IsUtf8-append, IsUtf8-nil}
use Rattle.std.proofs.lemmas.List.Sums.{prefix_len_is}
use Rattle.graphml_text.specs.declared.error.GraphError.{GraphError}
use Rattle.std.proofs.lemmas.List.Elements.{All-head, All-tail}
use Rattle.lts_base.specs.Alphabet.{text_at}
use Rattle.lts_base.specs.declared.limits.TheConstants.{MOST_MOVES, MOST_STATES}
use Rattle.aut_text.specs.Parts.{NamedMove}
use Rattle.graphml_scan.specs.Piece.{is_white}
use Rattle.graphml_scan.specs.Tag.{Attribute}
use Rattle.graphml_scan.specs.Token.{End}
use Rattle.graphml_text.specs.Reading.{NamedEdge, Reading, nothing_read}
use Rattle.graphml_text.specs.Element.{has, step}
use Rattle.graphml_text.specs.Document.{Said, read_on, finished, has_nodes, said, document, unmarked, declaration_at, body_of, place_of, is_loose, move_of}
use Rattle.graphml_text.proofs.RunLaws.{read_on-end}
use Rattle.graphml_scan.specs.Many.{many}
use Rattle.graphml_scan.specs.Piece.{after_text}
use Rattle.graphml_scan.specs.Tag.{attribute_at}
use Rattle.graphml_text.proofs.DocumentLaws.{document_body}
use Rattle.graphml_scan.specs.Written.{Piece, Opens, Whole, Closes, Holds, ArePieces}
use Rattle.graphml_scan.proofs.WrittenLaws.{many_along}
use Rattle.graphml_scan.proofs.WrittenUtf8.{utf8_ascii, HasUtf8, utf8_pieces}
use Rattle.graphml_text.specs.Drawing.{Drawing, label_text, IsDrawn, IsDrawing, called, data_pieces, node_pieces, nodes_pieces, edge_pieces, edges_pieces, drawing_pieces, IsFront, IsWritten}
use Rattle.graphml_text.proofs.PieceSteps.{white_along, Then, opens_along, whole_along, closes_along, data_along}
use Rattle.graphml_text.proofs.DrawingSteps.{in_root, in_graph, in_node, in_mark, in_edge, in_data, same_bytes, graph_passes, node_step, node_open_step, node_passes, mark_step, mark_takes, mark_ends, node_ends, edge_step, edge_passes, data_step, data_takes, data_ends, edge_ends, after_root, after_graph, nothing_passes, root_passes, root_step, label_key_step, start_key_step, graph_step, graph_ends, after_graph_passes, root_ends, after_root_passes}

-- ---- nodes

other_bytes : (xs ys : List ℕ) → (xs ≡ ys → ⊥) → bytes_eq xs ys ≡ false
other_bytes xs ys other = elim (cases_Bool (bytes_eq xs ys)) [
  | inl same ↦ absurd (other ((bytes_eq-Decides xs ys).0 same))
  | inr not ↦ not
]

-- the ids differ
abbrev Apart : List (List ℕ) → Type 0
Apart ids = (j k : ℕ) → j < k → k < length ids → text_at ids j ≡ text_at ids k → ⊥

lacks_id : (ids : List (List ℕ)) (id : List ℕ) → ((j : ℕ) → j < length ids → text_at ids j ≡ id → ⊥) → has ids id ≡ false
lacks_id [] id apart = refl
lacks_id (x ∷ ids) id apart = rw (other_bytes id x (λ e. apart 0 (omega arith) (sym e)), lacks_id ids id (λ j below. apart (suc j) (omega (arith, below)))) refl

-- the id after some others is new
new_id : (before after : List (List ℕ)) (id : List ℕ) → Apart (before ++ id ∷ after) → has before id ≡ false
new_id before after id apart = lacks_id before id (λ j below same.
    apart j (length before) below (omega (arith, length-append before (id ∷ after))) (get_or-append before (id ∷ after) [] j below ∙ same ∙ sym (get_or-append_seam before id after [])))

-- the start, if its node was read
abbrev marked_at : ℕ → ℕ → Option ℕ
marked_at start k = cond (nat_lt start k) (Some start) None

module _ (d : Drawing) (size a b : ℕ) where
  one_node : (nodes : List (List ℕ)) (id : List ℕ) (first : Bool) (pieces : List Piece) (bytes : List ℕ) → has nodes id ≡ false → length nodes < MOST_STATES → (length nodes == d.system.start) ≡ first → ArePieces (node_pieces d id first pieces) bytes →
      Then size (in_graph d a b nodes (marked_at d.system.start (length nodes)) []) bytes (λ _. in_graph d a b (nodes ++ id ∷ []) (marked_at d.system.start (length (nodes ++ id ∷ []))) []) pieces
  one_node nodes id true pieces bytes new few here are =
      let start : length nodes ≡ d.system.start = eqb-true (length nodes) d.system.start here in
      let more : length (nodes ++ id ∷ []) ≡ length nodes + 1 = length_push nodes id in
      let old_mark : marked_at d.system.start (length nodes) ≡ None = rw (le-ltb d.system.start (length nodes) (omega (arith, start))) refl in
      let new_mark : marked_at d.system.start (length (nodes ++ id ∷ [])) ≡ Some (length nodes) = rw (lt-ltb d.system.start (length (nodes ++ id ∷ [])) (omega (arith, start, more)), start) refl in
      let m : Option ℕ → Reading = λ marked. in_graph d a b nodes marked [] in
      let (at, r1, are1, e1) = opens_along size (m None) (λ at. in_node d a b at (nodes ++ id ∷ []) None) (codes "node") (called (codes "id") id ∷ []) (data_pieces d.start_key (codes "true") (Closes (codes "node") ∷ pieces)) bytes (graph_passes d a b nodes None []) refl (λ at. node_open_step d a b at nodes None id new few) are in
      let (at2, r2, are2, e2) = opens_along size (in_node d a b at (nodes ++ id ∷ []) None) (λ place. in_mark d a b at place (nodes ++ id ∷ []) []) (codes "data") (called (codes "key") d.start_key ∷ []) (Holds (codes "true") ∷ Closes (codes "data") ∷ Closes (codes "node") ∷ pieces) r1 (node_passes d a b at (nodes ++ id ∷ []) None) refl (λ place. mark_step d a b place at (nodes ++ id ∷ [])) are1 in
      let (at3, r3, are3, e3) = data_along size (in_mark d a b at at2 (nodes ++ id ∷ [])) (in_node d a b at (nodes ++ id ∷ []) (Some (length nodes))) (codes "true") (codes "data") (Closes (codes "node") ∷ pieces) r2 (mark_takes d a b at at2 (nodes ++ id ∷ [])) refl (omega arith) refl refl (λ k t is. mark_ends d a b at at2 k nodes id t is) are2 in
      let (at4, r4, are4, e4) = closes_along size (in_node d a b at (nodes ++ id ∷ []) (Some (length nodes))) (λ _. in_graph d a b (nodes ++ id ∷ []) (Some (length nodes)) []) (codes "node") pieces r3 (node_passes d a b at (nodes ++ id ∷ []) (Some (length nodes))) refl (λ k. node_ends d a b at k (nodes ++ id ∷ []) (Some (length nodes))) are3 in
      (at4, r4, are4, rw (old_mark, new_mark) (e1 ∙ e2 ∙ e3 ∙ e4))
  one_node nodes id false pieces bytes new few other are =
      let more : length (nodes ++ id ∷ []) ≡ length nodes + 1 = length_push nodes id in
      let same : nat_lt d.system.start (length nodes) ≡ nat_lt d.system.start (length (nodes ++ id ∷ [])) = elim (cases_lt d.system.start (length nodes)) [
        | inl below ↦ lt-ltb d.system.start (length nodes) below ∙ sym (lt-ltb d.system.start (length (nodes ++ id ∷ [])) (omega (arith, below, more)))
        | inr past ↦
            let apart : length nodes ≡ d.system.start → ⊥ = λ e. true≢false (sym (eq-eqb (length nodes) d.system.start e) ∙ other) in
            le-ltb d.system.start (length nodes) past ∙ sym (le-ltb d.system.start (length (nodes ++ id ∷ [])) (above apart past more))
      ] in
      rw (← same) (whole_along size (in_graph d a b nodes (marked_at d.system.start (length nodes)) []) (λ _. in_graph d a b (nodes ++ id ∷ []) (marked_at d.system.start (length nodes)) []) (codes "node") (called (codes "id") id ∷ []) pieces bytes (graph_passes d a b nodes (marked_at d.system.start (length nodes)) []) refl (λ at. node_step d a b at nodes (marked_at d.system.start (length nodes)) id new few) are)
    where
      above : (length nodes ≡ d.system.start → ⊥) → length nodes ≤ d.system.start → length (nodes ++ id ∷ []) ≡ length nodes + 1 → length (nodes ++ id ∷ []) ≤ d.system.start
      above apart past more = elim (cases_eq (length nodes) d.system.start) [ inl e ↦ absurd (apart e) | inr ne ↦ omega (arith, past, more, ne) ]

  nodes_along : (before ids : List (List ℕ)) (pieces : List Piece) (bytes : List ℕ) → Apart (before ++ ids) → length (before ++ ids) ≤ MOST_STATES → ArePieces (nodes_pieces d (length before) ids pieces) bytes →
      Then size (in_graph d a b before (marked_at d.system.start (length before)) []) bytes (λ _. in_graph d a b (before ++ ids) (marked_at d.system.start (length (before ++ ids))) []) pieces
  nodes_along before [] pieces bytes apart few are = (0, bytes, are, rw (append-nil before) refl)
  nodes_along before (id ∷ ids) pieces bytes apart few are =
      let split : (before ++ id ∷ []) ++ ids ≡ before ++ id ∷ ids = append_assoc before (id ∷ []) ids in
      let count : length (before ++ id ∷ []) ≡ length before + 1 = length_push before id in
      let room : length before < MOST_STATES = omega (arith, few, length-append before (id ∷ ids)) in
      let (at, r1, are1, e1) = one_node before id (length before == d.system.start) (nodes_pieces d (length before + 1) ids pieces) bytes (new_id before ids id apart) room refl are in
      let (at2, r2, are2, e2) = nodes_along (before ++ id ∷ []) ids pieces r1 (rw split apart) (rw split few) (subst (λ (k : ℕ). ArePieces (nodes_pieces d k ids pieces) r1) (sym count) are1) in
      (at2, r2, are2, rw split at (e1 ∙ e2))

-- ---- edges

-- the edge that was read for a move; its offset doesn't matter
abbrev edge_at : Drawing → ℕ → NamedMove → NamedEdge
edge_at d at m = record { at = at; source = text_at d.ids m.from; target = text_at d.ids m.to; label = m.label }

-- the edges were read for these moves, one by one
abbrev AreEdgesOf : Drawing → List NamedEdge → List NamedMove → Type 0
AreEdgesOf d [] [] = Unit {0}
AreEdgesOf d [] (m ∷ moves) = ⊥
AreEdgesOf d (e ∷ edges) [] = ⊥
AreEdgesOf d (e ∷ edges) (m ∷ moves) = (e ≡ edge_at d e.at m) × AreEdgesOf d edges moves

drawn_ends : (d : Drawing) (a b at k states : ℕ) (nodes : List (List ℕ)) (marked : Option ℕ) (edges : List NamedEdge) (m : NamedMove) → IsDrawn states m → step k (in_edge d a b at nodes marked edges (text_at d.ids m.from) (text_at d.ids m.to) (label_text m.label)) (End (codes "edge")) ≡ Ok (in_graph d a b nodes marked (edges ++ edge_at d at m ∷ []))
drawn_ends d a b at k states nodes marked edges m drawn =
    let ends = edge_ends d a b at k nodes marked edges (text_at d.ids m.from) (text_at d.ids m.to) (label_text m.label) drawn.label in
    let named : Option (List ℕ) → NamedEdge = λ label. record { at = at; source = text_at d.ids m.from; target = text_at d.ids m.to; label = label } in
    ends ∙ ap (λ (label : Option (List ℕ)). Ok (in_graph d a b nodes marked (edges ++ named label ∷ []))) drawn.seen

module _ (d : Drawing) (size a b : ℕ) (nodes : List (List ℕ)) (marked : Option ℕ) where
  one_edge : (edges : List NamedEdge) (m : NamedMove) (states : ℕ) (pieces : List Piece) (bytes : List ℕ) → length edges < MOST_MOVES → IsDrawn states m → ArePieces (edge_pieces d m pieces) bytes →
      (place : ℕ) × Then size (in_graph d a b nodes marked edges) bytes (λ _. in_graph d a b nodes marked (edges ++ edge_at d place m ∷ [])) pieces
  one_edge edges m states pieces bytes few drawn are =
      let source : List ℕ = text_at d.ids m.from in
      let target : List ℕ = text_at d.ids m.to in
      let text : List ℕ = label_text m.label in
      let (at, r1, are1, e1) = opens_along size (in_graph d a b nodes marked edges) (λ at. in_edge d a b at nodes marked edges source target []) (codes "edge") (called (codes "source") source ∷ called (codes "target") target ∷ []) (data_pieces d.label_key text (Closes (codes "edge") ∷ pieces)) bytes (graph_passes d a b nodes marked edges) refl (λ at. edge_step d a b at nodes marked edges source target few) are in
      let (at2, r2, are2, e2) = opens_along size (in_edge d a b at nodes marked edges source target []) (λ place. in_data d a b at place nodes marked edges source target []) (codes "data") (called (codes "key") d.label_key ∷ []) (Holds text ∷ Closes (codes "data") ∷ Closes (codes "edge") ∷ pieces) r1 (edge_passes d a b at nodes marked edges source target []) refl (λ place. data_step d a b place at nodes marked edges source target) are1 in
      let (at3, r3, are3, e3) = data_along size (in_data d a b at at2 nodes marked edges source target) (in_edge d a b at nodes marked edges source target text) text (codes "data") (Closes (codes "edge") ∷ pieces) r2 (data_takes d a b at at2 nodes marked edges source target) refl drawn.label.some drawn.front drawn.back (λ k t is. data_ends d a b at at2 k nodes marked edges source target text t is) are2 in
      let (at4, r4, are4, e4) = closes_along size (in_edge d a b at nodes marked edges source target text) (λ _. in_graph d a b nodes marked (edges ++ edge_at d at m ∷ [])) (codes "edge") pieces r3 (edge_passes d a b at nodes marked edges source target text) refl (λ k. drawn_ends d a b at k states nodes marked edges m drawn) are3 in
      (at, (at4, r4, are4, e1 ∙ e2 ∙ e3 ∙ e4))

  edges_along : (before : List NamedEdge) (moves : List NamedMove) (states : ℕ) (pieces : List Piece) (bytes : List ℕ) → length before + length moves ≤ MOST_MOVES → All (IsDrawn states) moves → ArePieces (edges_pieces d moves pieces) bytes →
      (edges : List NamedEdge) × AreEdgesOf d edges moves × Then size (in_graph d a b nodes marked before) bytes (λ _. in_graph d a b nodes marked (before ++ edges)) pieces
  edges_along before [] states pieces bytes few drawn are = ([], tt, (0, bytes, are, rw (append-nil before) refl))
  edges_along before (m ∷ moves) states pieces bytes few drawn are =
      let (place, (at, r1, are1, e1)) = one_edge before m states (edges_pieces d moves pieces) bytes (omega (arith, few)) (All-head (IsDrawn states) m moves drawn) are in
      let count : length (before ++ edge_at d place m ∷ []) ≡ length before + 1 = length_push before (edge_at d place m) in
      let (edges, of, (at2, r2, are2, e2)) = edges_along (before ++ edge_at d place m ∷ []) moves states pieces r1 (omega (arith, few, count)) (All-tail (IsDrawn states) m moves drawn) are1 in
      (edge_at d place m ∷ edges, (refl, of), (at2, r2, are2, rw (append_assoc before (edge_at d place m ∷ []) edges) at (e1 ∙ e2)))

-- ---- the end

place_at : (ids : List (List ℕ)) (k : ℕ) → Apart ids → k < length ids → place_of ids (text_at ids k) ≡ Some k
place_at ids k apart below =
    let count : prefix_len (λ x. not (bytes_eq (text_at ids k) x)) ids ≡ k = prefix_len_is (λ x. not (bytes_eq (text_at ids k) x)) ids k [] (omega (arith, below)) (λ j less. rw (other_bytes (text_at ids k) (text_at ids j) (λ e. apart j k less below (sym e))) refl) (λ _. rw (same_bytes (text_at ids k)) refl) in
    rw (count, lt-ltb k (length ids) below) refl

edge_joins : (d : Drawing) (at : ℕ) (m : NamedMove) → Apart d.ids → IsDrawn (length d.ids) m → (is_loose d.ids (edge_at d at m) ≡ false) × (move_of d.ids (edge_at d at m) ≡ m)
edge_joins d at m apart drawn = rw (place_at d.ids m.from apart drawn.from, place_at d.ids m.to apart drawn.to) (refl, refl)

edges_join : (d : Drawing) (edges : List NamedEdge) (moves : List NamedMove) → Apart d.ids → All (IsDrawn (length d.ids)) moves → AreEdgesOf d edges moves → (find (is_loose d.ids) edges ≡ None) × (map (move_of d.ids) edges ≡ moves)
edges_join d [] [] apart drawn of = (refl, refl)
edges_join d [] (m ∷ moves) apart drawn of = absurd of
edges_join d (e ∷ edges) [] apart drawn of = absurd of
edges_join d (e ∷ edges) (m ∷ moves) apart drawn (is, of) =
    let (joins, moved) = edge_joins d e.at m apart (All-head (IsDrawn (length d.ids)) m moves drawn) in
    let (none, same) = edges_join d edges moves apart (All-tail (IsDrawn (length d.ids)) m moves drawn) of in
    (rw is (rw joins none), rw is (ap₂ {A = NamedMove} {B = List NamedMove} {C = List NamedMove} (λ x xs. x ∷ xs) moved same))

some_nodes : (size : ℕ) (m : Reading) → 0 < length m.nodes → has_nodes m m.nodes ≡ Ok (said m)
some_nodes size m some = go m.nodes some
  where
    go : (nodes : List (List ℕ)) → 0 < length nodes → has_nodes m nodes ≡ Ok (said m)
    go [] some = absurd (omega (arith, some))
    go (id ∷ nodes) some = refl

finished_drawing : (d : Drawing) (size : ℕ) (edges : List NamedEdge) → IsDrawing d → AreEdgesOf d edges d.system.moves → finished size (after_root d d.ids (Some d.system.start) edges) ≡ Ok d.system
finished_drawing d size edges drawing of =
    let (none, same) = edges_join d edges d.system.moves drawing.apart drawing.moves of in
    let m : Reading = after_root d d.ids (Some d.system.start) edges in
    let whole : said m ≡ d.system = rw (same, ← drawing.states) refl in
    rw none (some_nodes size m (omega (arith, drawing.start)) ∙ ap {A = Said} {B = Result Said GraphError} (λ s. Ok s) whole)

-- ---- the whole body

-- what follows the nodes and the edges
abbrev closing : List Piece
closing = Closes (codes "graph") ∷ Closes (codes "graphml") ∷ []

-- up to the graph
abbrev BeginsGraph : Drawing → ℕ → List ℕ → Type 0
BeginsGraph d size bytes = (a : ℕ) × (b : ℕ) × (rest : List ℕ) × ArePieces (nodes_pieces d 0 d.ids (edges_pieces d d.system.moves closing)) rest × (read_on size nothing_read bytes ≡ read_on size (in_graph d a b [] None []) rest)

begins_graph : (d : Drawing) (size : ℕ) (bytes : List ℕ) → ArePieces (drawing_pieces d) bytes → BeginsGraph d size bytes
begins_graph d size bytes are =
    let inner : List Piece = nodes_pieces d 0 d.ids (edges_pieces d d.system.moves closing) in
    let graph : List Piece = Opens (codes "graph") (called (codes "edgedefault") (codes "directed") ∷ []) ∷ inner in
    let start : List Attribute = called (codes "id") d.start_key ∷ called (codes "for") (codes "node") ∷ called (codes "attr.name") (codes "start") ∷ [] in
    let label : List Attribute = called (codes "id") d.label_key ∷ called (codes "for") (codes "edge") ∷ called (codes "attr.name") (codes "label") ∷ [] in
    let (a, r1, are1, e1) = opens_along size nothing_read (λ at. in_root at [] []) (codes "graphml") [] (Whole (codes "key") label ∷ Whole (codes "key") start ∷ graph) bytes nothing_passes refl root_step are in
    let (a2, r2, are2, e2) = whole_along size (in_root a [] []) (λ _. in_root a (d.label_key ∷ []) []) (codes "key") label (Whole (codes "key") start ∷ graph) r1 (root_passes a [] []) refl (λ at. label_key_step a at d.label_key) are1 in
    let (a3, r3, are3, e3) = whole_along size (in_root a (d.label_key ∷ []) []) (λ _. in_root a (d.label_key ∷ []) (d.start_key ∷ [])) (codes "key") start graph r2 (root_passes a (d.label_key ∷ []) []) refl (λ at. start_key_step a at d.label_key d.start_key) are2 in
    let (b, r4, are4, e4) = opens_along size (in_root a (d.label_key ∷ []) (d.start_key ∷ [])) (λ at. in_graph d a at [] None []) (codes "graph") (called (codes "edgedefault") (codes "directed") ∷ []) inner r3 (root_passes a (d.label_key ∷ []) (d.start_key ∷ [])) refl (λ at. graph_step d a at) are3 in
    (a, b, r4, are4, e1 ∙ e2 ∙ e3 ∙ e4)

-- from the end of the graph on
ends_graph : (d : Drawing) (size a b : ℕ) (nodes : List (List ℕ)) (marked : Option ℕ) (edges : List NamedEdge) (bytes : List ℕ) → ArePieces closing bytes → read_on size (in_graph d a b nodes marked edges) bytes ≡ finished size (after_root d nodes marked edges)
ends_graph d size a b nodes marked edges bytes are =
    let (k1, r1, are1, e1) = closes_along size (in_graph d a b nodes marked edges) (λ _. after_graph d a nodes marked edges) (codes "graph") (Closes (codes "graphml") ∷ []) bytes (graph_passes d a b nodes marked edges) refl (λ at. graph_ends d a b at nodes marked edges) are in
    let (k2, r2, are2, e2) = closes_along size (after_graph d a nodes marked edges) (λ _. after_root d nodes marked edges) (codes "graphml") [] r1 (after_graph_passes d a nodes marked edges) refl (λ at. root_ends d a at nodes marked edges) are1 in
    let end : read_on size (after_root d nodes marked edges) (r2 ++ []) ≡ read_on size (after_root d nodes marked edges) [] = white_along size (after_root d nodes marked edges) r2 [] (after_root_passes d nodes marked edges) are2 in
    e1 ∙ e2 ∙ rw (append-nil r2) at end ∙ read_on-end size (after_root d nodes marked edges)

pub body_read : (d : Drawing) (size : ℕ) (bytes : List ℕ) → IsDrawing d → ArePieces (drawing_pieces d) bytes → read_on size nothing_read bytes ≡ Ok d.system
body_read d size bytes drawing are =
    let (a, b, r1, are1, e1) = begins_graph d size bytes are in
    let none : marked_at d.system.start 0 ≡ None = rw (le-ltb d.system.start 0 (omega arith)) refl in
    let all : marked_at d.system.start (length d.ids) ≡ Some d.system.start = rw (lt-ltb d.system.start (length d.ids) drawing.start) refl in
    let (k, r2, are2, e2) = nodes_along d size a b [] d.ids (edges_pieces d d.system.moves closing) r1 drawing.apart drawing.few_states are1 in
    let (edges, of, (j, r3, are3, e3)) = edges_along d size a b d.ids (Some d.system.start) [] d.system.moves (length d.ids) closing r2 (omega (arith, drawing.few_moves)) drawing.moves are2 in
    let nodes : read_on size (in_graph d a b [] None []) r1 ≡ read_on size (in_graph d a b d.ids (Some d.system.start) []) r2 = rw (none, all) at e2 in
    e1 ∙ nodes ∙ e3 ∙ ends_graph d size a b d.ids (Some d.system.start) edges r3 are3 ∙ finished_drawing d size edges drawing of

-- ---- UTF-8

node_utf8 : (d : Drawing) (id : List ℕ) (first : Bool) (others : List Piece) → IsDrawing d → IsUtf8 id → AllByRecursion HasUtf8 others → AllByRecursion HasUtf8 (node_pieces d id first others)
node_utf8 d id true others drawing u rest = (
  (utf8_ascii (codes "node") refl, ((utf8_ascii (codes "id") refl, u), tt)),
  (
    (utf8_ascii (codes "data") refl, ((utf8_ascii (codes "key") refl, drawing.start_key), tt)),
    (utf8_ascii (codes "true") refl, (utf8_ascii (codes "data") refl, (utf8_ascii (codes "node") refl, rest))),
  ),
)
node_utf8 d id false others drawing u rest = ((utf8_ascii (codes "node") refl, ((utf8_ascii (codes "id") refl, u), tt)), rest)

nodes_utf8 : (d : Drawing) (k : ℕ) (ids : List (List ℕ)) (others : List Piece) → IsDrawing d → All IsUtf8 ids → AllByRecursion HasUtf8 others → AllByRecursion HasUtf8 (nodes_pieces d k ids others)
nodes_utf8 d k [] others drawing u rest = rest
nodes_utf8 d k (id ∷ ids) others drawing u rest = node_utf8 d id (k == d.system.start) (nodes_pieces d (k + 1) ids others) drawing (All-head IsUtf8 id ids u) (nodes_utf8 d (k + 1) ids others drawing (All-tail IsUtf8 id ids u) rest)

edges_utf8 : (d : Drawing) (moves : List NamedMove) (others : List Piece) → IsDrawing d → All (IsDrawn (length d.ids)) moves → AllByRecursion HasUtf8 others → AllByRecursion HasUtf8 (edges_pieces d moves others)
edges_utf8 d [] others drawing drawn rest = rest
edges_utf8 d (m ∷ moves) others drawing drawn rest =
    let one : IsDrawn (length d.ids) m = All-head (IsDrawn (length d.ids)) m moves drawn in (
      (utf8_ascii (codes "edge") refl, ((utf8_ascii (codes "source") refl, drawing.ids m.from [] one.from), ((utf8_ascii (codes "target") refl, drawing.ids m.to [] one.to), tt))),
      (
        (utf8_ascii (codes "data") refl, ((utf8_ascii (codes "key") refl, drawing.label_key), tt)),
        (
          one.label.utf8,
          (
            utf8_ascii (codes "data") refl,
            (
              utf8_ascii (codes "edge") refl,
              edges_utf8 d moves others drawing (All-tail (IsDrawn (length d.ids)) m moves drawn) rest,
            ),
          ),
        ),
      ),
    )

drawing_utf8 : (d : Drawing) → IsDrawing d → AllByRecursion HasUtf8 (drawing_pieces d)
drawing_utf8 d drawing = (
  (utf8_ascii (codes "graphml") refl, tt),
  (
    (utf8_ascii (codes "key") refl, ((utf8_ascii (codes "id") refl, drawing.label_key), ((utf8_ascii (codes "for") refl, utf8_ascii (codes "edge") refl), ((utf8_ascii (codes "attr.name") refl, utf8_ascii (codes "label") refl), tt)))),
    (
      (utf8_ascii (codes "key") refl, ((utf8_ascii (codes "id") refl, drawing.start_key), ((utf8_ascii (codes "for") refl, utf8_ascii (codes "node") refl), ((utf8_ascii (codes "attr.name") refl, utf8_ascii (codes "start") refl), tt)))),
      (
        (utf8_ascii (codes "graph") refl, ((utf8_ascii (codes "edgedefault") refl, utf8_ascii (codes "directed") refl), tt)),
        nodes_utf8 d 0 d.ids (edges_pieces d d.system.moves closing) drawing drawing.ids (edges_utf8 d d.system.moves closing drawing drawing.moves (utf8_ascii (codes "graph") refl, (utf8_ascii (codes "graphml") refl, tt))),
      ),
    ),
  ),
)

front_utf8 : (front : List ℕ) → IsFront front → IsUtf8 front
front_utf8 front (inl is) = rw is IsUtf8-nil
front_utf8 front (inr is) = rw is (utf8_ascii (codes "<?xml version=\"1.0\" encoding=\"UTF-8\"?>") refl)

-- ---- the front

-- the content begins with the root's tag, or with white
abbrev Begins : List ℕ → Type 0
Begins bytes = ((rest : List ℕ) × (bytes ≡ 60 ∷ 103 ∷ rest)) ⊎ ((c : ℕ) × (rest : List ℕ) × (is_white c ≡ true) × (bytes ≡ c ∷ rest))

begins_body : (d : Drawing) (bytes : List ℕ) → ArePieces (drawing_pieces d) bytes → Begins bytes
begins_body d bytes ([], piece, rest, blank, (inner, are, is), more, whole) = inl (drop 2 (piece ++ rest), rw (whole, is, are) refl)
begins_body d bytes (c ∷ white, piece, rest, blank, is, more, whole) = inr (c, (white ++ piece) ++ rest, blank.0, whole)

-- the bytes don't begin with this text
lacks_front : (front bytes : List ℕ) → (take (length front) bytes ≡ front → ⊥) → after_text front bytes ≡ None
lacks_front front bytes other = rw (other_bytes (take (length front) bytes) front other) refl

no_mark : (bytes : List ℕ) → Begins bytes → unmarked bytes ≡ bytes
no_mark bytes (inl (rest, is)) = rw is refl
no_mark bytes (inr (c, rest, white, is)) = rw is (rw (lacks_front (239 ∷ 187 ∷ 191 ∷ []) (c ∷ rest) (λ e. let same : c ≡ 239 = cc in true≢false (sym white ∙ ap is_white same))) refl)

no_declaration : (bytes : List ℕ) → Begins bytes → declaration_at bytes ≡ None
unfolding declaration_at
no_declaration bytes (inl (rest, is)) = rw is refl
no_declaration bytes (inr (c, rest, white, is)) = rw is (rw (lacks_front (codes "<?") (c ∷ rest) (λ e. let same : c ≡ 60 = cc in true≢false (sym white ∙ ap is_white same))) refl)

-- what stands in the declaration
abbrev declared_attributes : List Attribute
declared_attributes = called (codes "version") (codes "1.0") ∷ called (codes "encoding") (codes "UTF-8") ∷ []

abbrev inner_text : List ℕ
inner_text = codes " version=\"1.0\" encoding=\"UTF-8\""

found_attributes : many attribute_at inner_text ≡ (declared_attributes, [])
unfolding attribute_at
found_attributes = many_along declared_attributes inner_text [] refl (codes "\"1.0\"", codes " encoding=\"UTF-8\"", inl refl, (codes "\"UTF-8\"", [], inl refl, refl, refl), refl) refl

declared_front : (size : ℕ) (body : List ℕ) → body_of size (codes "<?xml version=\"1.0\" encoding=\"UTF-8\"?>" ++ body) ≡ Ok body
unfolding declaration_at
declared_front size body = rw found_attributes refl

front_body : (d : Drawing) (size : ℕ) (front body : List ℕ) → IsFront front → ArePieces (drawing_pieces d) body → body_of size (unmarked (front ++ body)) ≡ Ok body
front_body d size front body (inl is) are =
    let begins : Begins body = begins_body d body are in
    rw is (rw (no_mark body begins, no_declaration body begins) refl)
front_body d size front body (inr is) are = rw is (declared_front size body)

-- the law: a document that is written for a drawing says the drawn system
pub drawing_said : (d : Drawing) (content : List ℕ) → IsDrawing d → IsWritten d content → document content ≡ Ok d.system
drawing_said d content drawing (front, body, is_front, are, whole) =
    let u : IsUtf8 content = subst IsUtf8 (sym whole) (IsUtf8-append front body (front_utf8 front is_front) (utf8_pieces (drawing_pieces d) body (drawing_utf8 d drawing) are)) in
    let good : is_utf8 content ≡ true = is_utf8-from_IsUtf8 content u in
    let found : body_of (length content) (unmarked content) ≡ Ok body = rw whole (front_body d (length (front ++ body)) front body is_front are) in
    document_body content body good found ∙ body_read d (length content) body drawing are
