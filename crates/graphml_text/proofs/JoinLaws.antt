-- Edges that are kept as moves.
use Rattle.std.proofs.Common.{◌≡◌, ◌∙◌, ℕ, ◌+◌, ◌<◌, Bool, true, false, cond, ◌==◌, List, [], ◌∷◌, ◌++◌, length, map, slice_get, All, Option, Some, None, refl, sym, ap, ap₂, subst, arith}
use Rattle.std.specs.List.{find, position_or_len}
use Rattle.std.specs.Prelude.{is_some, is_none}
use Rattle.std.specs.Str.{bytes_eq}
use Rattle.std.proofs.lemmas.Bool.{lt-ltb, eqb-true}
use Rattle.std.proofs.lemmas.List.{length-append, length-map, length_push, append-nil, get_or_append_left, get_or-map}
use Rattle.std.proofs.lemmas.List.Elements.{All-head, All-tail}
use Rattle.std.proofs.lemmas.List.Quantifiers.{position-Some}
use Rattle.std.proofs.lemmas.List.Sums.{position_or_len_is}
use Rattle.std.proofs.lemmas.Option.{slice_get_within, get_or_from_slice_get}
use Rattle.std.proofs.lemmas.Slice.Eq.{bytes_eq-Decides}
use Rattle.lts_base.specs.Alphabet.{text_at}
use Rattle.aut_text.specs.Parts.{Parts, NamedMove, named_moves, AddsMove}
use Rattle.aut_text.specs.Reading.{IsWithin}
use Rattle.graphml_text.specs.declared.edge.NamedEdge.{NamedEdge as HeldEdge}
use Rattle.graphml_text.specs.declared.moves.Ends.{Ends}
use Rattle.graphml_text.specs.declared.places.Places.{Places}
use Rattle.graphml_text.specs.Reading.{NamedEdge}
use Rattle.graphml_text.specs.Graph.{Graph}
use Rattle.graphml_text.specs.Element.{has, with_id}
use Rattle.graphml_text.specs.Document.{place_of, is_loose, move_of}
use Rattle.graphml_text.specs.Places.{ArePlaces}
use Rattle.graphml_text.specs.Kept.{IsLabelled}
use Rattle.graphml_text.specs.MachineValues.{edge_of}
use Rattle.graphml_text.specs.Ends.{AddsEdge, AreEdges, HasEnds, IsNear}
use Rattle.graphml_text.specs.Joined.{joined, joined_of, IsJoined, IsHeld, Keeps}
use Rattle.graphml_text.proofs.PlaceLaws.{place_within}
use Rattle.graphml_text.proofs.EndsLaws.{edges_push}

-- ---- places

-- the id stands at its place
pub place_text : (ids : List (List ℕ)) (id : List ℕ) (k : ℕ) → place_of ids id ≡ Some k → text_at ids k ≡ id
place_text ids id k found =
    let (below, here, before) = position-Some (bytes_eq id) ids k [] found in
    sym ((bytes_eq-Decides id (text_at ids k)).0 here)

-- the first place of the id
place_first : (ids : List (List ℕ)) (id : List ℕ) (k : ℕ) → k < length ids → bytes_eq id (text_at ids k) ≡ true → ((j : ℕ) → j < k → bytes_eq id (text_at ids j) ≡ false) → place_of ids id ≡ Some k
place_first ids id k below here before =
    let first : position_or_len (bytes_eq id) ids ≡ k = position_or_len_is (bytes_eq id) ids k [] (omega (arith, below)) before (λ _. here) in
    rw (first, lt-ltb k (length ids) below) refl

-- a place stays with more ids
pub place_more : (ids more : List (List ℕ)) (id : List ℕ) (k : ℕ) → place_of ids id ≡ Some k → place_of (ids ++ more) id ≡ Some k
place_more ids more id k found =
    let (below, here, before) = position-Some (bytes_eq id) ids k [] found in
    let same : (j : ℕ) → j < length ids → text_at (ids ++ more) j ≡ text_at ids j = λ j le. get_or_append_left ids more [] j le in
    place_first (ids ++ more) id k (omega (arith, below, length-append ids more)) (rw (same k below) here) (λ j le. rw (same j (omega (arith, le, below))) (before j le))

pub near_found : (ids : List (List ℕ)) (id : List ℕ) (k : ℕ) → place_of ids id ≡ Some k → IsNear ids (Some k)
near_found ids id k found = rw (place_text ids id k found) found

near_more : (ids more : List (List ℕ)) (near : Option ℕ) → IsNear ids near → IsNear (ids ++ more) near
near_more ids more None is = tt
near_more ids more (Some k) is =
    let below : k < length ids = place_within ids (text_at ids k) k is in
    rw (get_or_append_left ids more [] k below) (place_more ids more (text_at ids k) k is)

-- the key at a place has the text at that place
key_at : {K : Type 0} (f : K → List ℕ) (text : List ℕ) (ks : List K) (i : ℕ) (k : K) → Some k ≡ slice_get ks i → f k ≡ text → (i < length (map f ks)) × (text_at (map f ks) i ≡ text)
key_at f text ks i k found same =
    let below : i < length ks = slice_get_within ks i k (sym found) in
    (rw length-map below, get_or-map f ks i k [] below ∙ ap f (get_or_from_slice_get ks i k k (sym found)) ∙ same)

-- the key at the near place tells the place of its text
pub near_key : {K : Type 0} (f : K → List ℕ) (ks : List K) (k : ℕ) (key : K) (id : List ℕ) → place_of (map f ks) (text_at (map f ks) k) ≡ Some k → Some key ≡ slice_get ks k → bytes_eq (f key) id ≡ true → Some k ≡ place_of (map f ks) id
near_key f ks k key id is at same =
    let (below, here) = key_at f id ks k key at ((bytes_eq-Decides (f key) id).0 same) in
    sym (rw here at is)

places_more : (ids more : List (List ℕ)) (first : ℕ) (places : List ℕ) → ArePlaces ids first places → ArePlaces (ids ++ more) first places
places_more ids more first places are number place at =
    let (id, numbered, found) = are number place at in
    (id, numbered, place_more ids more id place found)

-- ---- ends

-- an edge with these ends joins nodes, by this move
pub ends_join : (nodes : List (List ℕ)) (e : NamedEdge) (ends : Ends) (old new : Parts) → HasEnds nodes e ends → AddsMove old new (record { from = ends.from; label = e.label; to = ends.to }) → AddsEdge nodes e old new
ends_join nodes e ends old new joins adds = (rw (joins.source, joins.target) refl, rw (joins.source, joins.target) adds, rw (joins.source, joins.target) (place_within nodes e.source ends.from joins.source, place_within nodes e.target ends.to joins.target))

-- the edge is told by its move
told_edge : (nodes : List (List ℕ)) (e : NamedEdge) (ends : Ends) → HasEnds nodes e ends → joined nodes e.at (record { from = ends.from; label = e.label; to = ends.to }) ≡ e
told_edge nodes e ends joins = rw (place_text nodes e.source ends.from joins.source, place_text nodes e.target ends.to joins.target) refl

-- ---- one more edge

joined_push : (ids : List (List ℕ)) (offsets : List ℕ) (moves : List NamedMove) (at : ℕ) (m : NamedMove) → length offsets ≡ length moves → joined_of ids (offsets ++ at ∷ []) (moves ++ m ∷ []) ≡ joined_of ids offsets moves ++ joined ids at m ∷ []
joined_push ids [] [] at m same = refl
joined_push ids [] (x ∷ moves) at m same = absurd (omega (arith, same))
joined_push ids (o ∷ offsets) [] at m same = absurd (omega (arith, same))
joined_push ids (o ∷ offsets) (x ∷ moves) at m same = ap {A = List NamedEdge} {B = List NamedEdge} (λ es. joined ids o x ∷ es) (joined_push ids offsets moves at m (omega (arith, same)))

-- the edges with one more
pub kept_edges : (ids : List (List ℕ)) (e : NamedEdge) (ends : Ends) (old new : Parts) (before after : List ℕ) → length before ≡ length old.moves → HasEnds ids e ends → Keeps ends e old before new after → joined_of ids after (named_moves new) ≡ joined_of ids before (named_moves old) ++ e ∷ []
kept_edges ids e ends old new before after counted joins keeps =
    let m : NamedMove = record { from = ends.from; label = e.label; to = ends.to } in
    let same : length before ≡ length (named_moves old) = rw length-map counted in
    rw (keeps.offsets, keeps.moves.moves) (joined_push ids before (named_moves old) e.at m same ∙ ap {A = NamedEdge} {B = List NamedEdge} (λ x. joined_of ids before (named_moves old) ++ x ∷ []) (told_edge ids e ends joins))

pub kept_joined : (ids : List (List ℕ)) (e : NamedEdge) (ends : Ends) (old new : Parts) (before after : List ℕ) → HasEnds ids e ends → Keeps ends e old before new after → IsJoined ids before old → IsJoined ids after new
kept_joined ids e ends old new before after joins keeps is = record {
  counted = rw (keeps.offsets, keeps.moves.count) (length_push before e.at ∙ ap {A = ℕ} {B = ℕ} (λ n. n + 1) is.counted);
  few = omega (arith, keeps.moves.count, keeps.room);
  edges = subst (λ (es : List NamedEdge). AreEdges ids es new) (sym (kept_edges ids e ends old new before after is.counted joins keeps)) (edges_push ids (joined_of ids before (named_moves old)) e old new (ends_join ids e ends old new joins keeps.moves) is.edges);
}

-- ---- one more node

joined_more : (ids more : List (List ℕ)) (offsets : List ℕ) (moves : List NamedMove) → All (IsWithin (length ids)) moves → joined_of (ids ++ more) offsets moves ≡ joined_of ids offsets moves
joined_more ids more [] moves within = refl
joined_more ids more (at ∷ offsets) [] within = refl
joined_more ids more (at ∷ offsets) (m ∷ moves) within =
    let (from, to) = All-head (IsWithin (length ids)) m moves within in
    let one : joined (ids ++ more) at m ≡ joined ids at m = rw (get_or_append_left ids more [] m.from from, get_or_append_left ids more [] m.to to) refl in
    ap₂ {A = NamedEdge} {B = List NamedEdge} {C = List NamedEdge} (λ e es. e ∷ es) one (joined_more ids more offsets moves (All-tail (IsWithin (length ids)) m moves within))

-- both ends of the edge stay where they are
fast_more : (ids more : List (List ℕ)) (e : NamedEdge) → is_loose ids e ≡ false → (is_loose (ids ++ more) e ≡ false) × (move_of (ids ++ more) e ≡ move_of ids e)
fast_more ids more e fast = go (place_of ids e.source) refl (place_of ids e.target) refl fast
  where
    go : (s : Option ℕ) → place_of ids e.source ≡ s → (t : Option ℕ) → place_of ids e.target ≡ t → cond (is_some s) (is_none t) true ≡ false → (is_loose (ids ++ more) e ≡ false) × (move_of (ids ++ more) e ≡ move_of ids e)
    go None source t target f = absurd cc
    go (Some from) source None target f = absurd cc
    go (Some from) source (Some to) target f = (rw (place_more ids more e.source from source, place_more ids more e.target to target) refl, rw (source, target, place_more ids more e.source from source, place_more ids more e.target to target) refl)

all_fast : (ids more : List (List ℕ)) (es : List NamedEdge) → find (is_loose ids) es ≡ None → (find (is_loose (ids ++ more)) es ≡ None) × (map (move_of (ids ++ more)) es ≡ map (move_of ids) es)
all_fast ids more [] none = (refl, refl)
all_fast ids more (e ∷ es) none = go (is_loose ids e) refl none (all_fast ids more es)
  where
    go : (b : Bool) → is_loose ids e ≡ b → cond b (Some e) (find (is_loose ids) es) ≡ None → (find (is_loose ids) es ≡ None → (find (is_loose (ids ++ more)) es ≡ None) × (map (move_of (ids ++ more)) es ≡ map (move_of ids) es)) →
        (find (is_loose (ids ++ more)) (e ∷ es) ≡ None) × (map (move_of (ids ++ more)) (e ∷ es) ≡ map (move_of ids) (e ∷ es))
    go true is f others = absurd cc
    go false is f others =
        let (fast, same) = fast_more ids more e is in
        let (rest, moves) = others f in
        (rw (fast, rest) refl, ap₂ {A = NamedMove} {B = List NamedMove} {C = List NamedMove} (λ m ms. m ∷ ms) same moves)

within_more : (ids more : List (List ℕ)) (moves : List NamedMove) → All (IsWithin (length ids)) moves → All (IsWithin (length (ids ++ more))) moves
within_more ids more moves within k m below =
    let (from, to) = within k m below in
    (omega (arith, from, length-append ids more), omega (arith, to, length-append ids more))

edges_stay : (ids more : List (List ℕ)) (es : List NamedEdge) (p : Parts) → AreEdges ids es p → AreEdges (ids ++ more) es p
edges_stay ids more es p are =
    let (fast, same) = all_fast ids more es are.joined in
    record {
      joined = fast;
      moves = are.moves ∙ sym same;
      within = within_more ids more (named_moves p) are.within;
      few = are.few;
    }

held_more : (ids more : List (List ℕ)) (places : Places) (near : Option ℕ) (offsets : List ℕ) (p : Parts) → IsHeld ids places near offsets p → IsHeld (ids ++ more) places near offsets p
held_more ids more places near offsets p held = record {
  at = places_more ids more places.first places.places.items held.at;
  before = near_more ids more near held.before;
  joined = record {
    counted = held.joined.counted;
    few = held.joined.few;
    edges = rw (joined_more ids more offsets (named_moves p) held.joined.edges.within) (edges_stay ids more (joined_of ids offsets (named_moves p)) p held.joined.edges);
  };
}

pub node_held : (ids : List (List ℕ)) (id : List ℕ) (places : Places) (near : Option ℕ) (offsets : List ℕ) (p : Parts) → IsHeld ids places near offsets p → IsHeld (with_id ids id) places near offsets p
node_held ids id places near offsets p held = go (has ids id)
  where
    go : (b : Bool) → IsHeld (cond b ids (ids ++ id ∷ [])) places near offsets p
    go true = held
    go false = held_more ids (id ∷ []) places near offsets p held

-- a new node leaves the edges as they are
pub node_edges : (ids : List (List ℕ)) (id : List ℕ) (offsets : List ℕ) (p : Parts) → IsJoined ids offsets p → joined_of (with_id ids id) offsets (named_moves p) ≡ joined_of ids offsets (named_moves p)
node_edges ids id offsets p is = go (has ids id)
  where
    go : (b : Bool) → joined_of (cond b ids (ids ++ id ∷ [])) offsets (named_moves p) ≡ joined_of ids offsets (named_moves p)
    go true = refl
    go false = joined_more ids (id ∷ []) offsets (named_moves p) is.edges.within

-- ---- edges that are kept by name

pub none_left : (edges : List HeldEdge) → true ≡ (length edges == 0) → edges ≡ []
none_left [] none = refl
none_left (e ∷ edges) none = absurd (omega (arith, eqb-true (length (e ∷ edges)) 0 (sym none)))

-- where no edge is kept by name, one more is joined at the end
pub graph_join : (ids : List (List ℕ)) (e : NamedEdge) (ends : Ends) (old new : Parts) (before after : List ℕ) (edges : List HeldEdge) → edges ≡ [] → IsJoined ids before old → HasEnds ids e ends → Keeps ends e old before new after →
    ◌≡◌ {A = Graph} (record { ids = ids; edges = joined_of ids after (named_moves new) ++ map edge_of edges }) (record { ids = ids; edges = (joined_of ids before (named_moves old) ++ map edge_of edges) ++ e ∷ [] })
graph_join ids e ends old new before after edges none is joins keeps =
    let more : joined_of ids after (named_moves new) ≡ joined_of ids before (named_moves old) ++ e ∷ [] = kept_edges ids e ends old new before after is.counted joins keeps in
    rw (none, append-nil (joined_of ids after (named_moves new)), append-nil (joined_of ids before (named_moves old)), more) refl

-- where no edge is kept by name, the moves are those of all
pub whole_edges : (ids : List (List ℕ)) (offsets : List ℕ) (p : Parts) (edges : List HeldEdge) → edges ≡ [] → IsJoined ids offsets p → AreEdges ids (joined_of ids offsets (named_moves p) ++ map edge_of edges) p
whole_edges ids offsets p edges none is = rw (none, append-nil (joined_of ids offsets (named_moves p))) is.edges

pub named_labels : (front : List NamedEdge) (edges : List HeldEdge) → All IsLabelled (front ++ map edge_of edges) → All IsLabelled (map edge_of edges)
named_labels [] edges all = all
named_labels (e ∷ front) edges all = named_labels front edges (All-tail IsLabelled e (front ++ map edge_of edges) all)
