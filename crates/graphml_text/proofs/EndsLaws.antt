-- The edges, one by one, make the moves of the system.
use Rattle.std.proofs.Common.{◌≡◌, ◌∙◌, ℕ, ◌+◌, ◌<◌, ◌==◌, Bool, true, false, cond, List, [], ◌∷◌, ◌++◌, append_assoc, length, map, take, drop, get_or, All, Option, Some, None, Result, Ok, Err, inl, inr, refl, sym, ap, subst}
use Rattle.std.specs.List.{find}
use Rattle.std.specs.Option.{unwrap_or}
use Rattle.std.specs.Prelude.{MatchResult}
use Rattle.lts_base.specs.Raw.{RawSystem}
use Rattle.std.proofs.lemmas.List.{length-map, map_push, length_push, take_more, drop_more, get_or-map, append-nil}
use Rattle.std.proofs.Math.Seq.{take-length}
use Rattle.std.proofs.lemmas.List.Elements.{All-push}
use Rattle.aut_text.specs.Parts.{Parts, NamedMove, named_moves}
use Rattle.aut_text.specs.Reading.{IsWithin}
use Rattle.graphml_text.specs.declared.error.GraphError.{GraphError}
use Rattle.graphml_text.specs.declared.edge.NamedEdge.{NamedEdge as HeldEdge}
use Rattle.graphml_text.specs.declared.machine.Machine.{Machine}
use Rattle.graphml_text.specs.Reading.{NamedEdge, Reading}
use Rattle.graphml_text.specs.Document.{Said, said, is_loose, move_of, has_nodes, is_complete, finished}
use Rattle.graphml_text.specs.MachineValues.{edge_of, reading_of, Says}
use Rattle.graphml_text.specs.Kept.{IsLabelled}
use Rattle.graphml_text.specs.Ends.{AddsEdge, IsEdgeFault, AreEdges, IsEdgesFault, system_of}

pub edge_label : (edges : List HeldEdge) (i : ℕ) (e : HeldEdge) → i < length edges → e ≡ get_or edges i e → All IsLabelled (map edge_of edges) → IsLabelled (edge_of e)
edge_label edges i e below is labels =
    let here : IsLabelled (get_or (map edge_of edges) i (edge_of e)) = labels i (edge_of e) (rw length-map below) in
    subst IsLabelled (get_or-map edge_of edges i e (edge_of e) below ∙ ap edge_of (sym is)) here

find_push : (p : NamedEdge → Bool) (xs : List NamedEdge) (x : NamedEdge) → find p xs ≡ None → p x ≡ false → find p (xs ++ x ∷ []) ≡ None
find_push p [] x none other = rw other refl
find_push p (y ∷ xs) x none other = go (p y) none (find_push p xs x)
  where
    go : (b : Bool) → cond b (Some y) (find p xs) ≡ None → (find p xs ≡ None → p x ≡ false → find p (xs ++ x ∷ []) ≡ None) → cond b (Some y) (find p (xs ++ x ∷ [])) ≡ None
    go true e others = absurd cc
    go false e others = others e other

pub edges_push : (nodes : List (List ℕ)) (es : List NamedEdge) (x : NamedEdge) (old new : Parts) → AddsEdge nodes x old new → AreEdges nodes es old → AreEdges nodes (es ++ x ∷ []) new
edges_push nodes es x old new (joins, adds, within) are = record {
  joined = find_push (is_loose nodes) es x are.joined joins;
  moves = adds.moves ∙ ap (λ (ms : List NamedMove). ms ++ move_of nodes x ∷ []) are.moves ∙ sym (map_push (move_of nodes) es x);
  within = rw (adds.moves) (All-push (IsWithin (length nodes)) (named_moves old) (move_of nodes x) are.within within);
  few = adds.count ∙ ap {A = ℕ} {B = ℕ} (λ n. n + 1) are.few ∙ sym (length_push es x);
}

pub edges_more : (nodes : List (List ℕ)) (before : List NamedEdge) (edges : List HeldEdge) (i : ℕ) (e : HeldEdge) (old new : Parts) → i < length edges → e ≡ get_or edges i e → AddsEdge nodes (edge_of e) old new → AreEdges nodes (before ++ map edge_of (take i edges)) old → AreEdges nodes (before ++ map edge_of (take (i + 1) edges)) new
edges_more nodes before edges i e old new below is adds are =
    let split : map edge_of (take (i + 1) edges) ≡ map edge_of (take i edges) ++ edge_of e ∷ [] = rw (take_more edges i e below, ← is) (map_push edge_of (take i edges) e) in
    let whole : before ++ map edge_of (take (i + 1) edges) ≡ (before ++ map edge_of (take i edges)) ++ edge_of e ∷ [] = rw split (sym (append_assoc before (map edge_of (take i edges)) (edge_of e ∷ []))) in
    subst (λ (es : List NamedEdge). AreEdges nodes es new) (sym whole) (edges_push nodes (before ++ map edge_of (take i edges)) (edge_of e) old new adds are)

-- no edge was added yet
pub edges_none : (nodes : List (List ℕ)) (before : List NamedEdge) (p : Parts) → AreEdges nodes before p → AreEdges nodes (before ++ []) p
edges_none nodes before p are = subst (λ (es : List NamedEdge). AreEdges nodes es p) (sym (append-nil before)) are

pub edges_all : (nodes : List (List ℕ)) (before : List NamedEdge) (edges : List HeldEdge) (i : ℕ) (p : Parts) → i ≡ length edges → AreEdges nodes (before ++ map edge_of (take i edges)) p → AreEdges nodes (before ++ map edge_of edges) p
edges_all nodes before edges i p all are = subst (λ (es : List HeldEdge). AreEdges nodes (before ++ map edge_of es) p) (ap (λ n. take n edges) all ∙ take-length edges) are

pub rest_more : (p : NamedEdge → Bool) (edges : List HeldEdge) (i : ℕ) (e : HeldEdge) (total : Option NamedEdge) → i < length edges → e ≡ get_or edges i e → p (edge_of e) ≡ false → find p (map edge_of (drop i edges)) ≡ total → find p (map edge_of (drop (i + 1) edges)) ≡ total
rest_more p edges i e total below is other so_far =
    let one : find p (map edge_of (drop i edges)) ≡ find p (map edge_of (drop (i + 1) edges)) = rw (drop_more edges i e below, ← is, other) refl in
    sym one ∙ so_far

find_after : (p : NamedEdge → Bool) (xs ys : List NamedEdge) → find p xs ≡ None → find p (xs ++ ys) ≡ find p ys
find_after p [] ys none = refl
find_after p (x ∷ xs) ys none = go (p x) none (find_after p xs ys)
  where
    go : (b : Bool) → cond b (Some x) (find p xs) ≡ None → (find p xs ≡ None → find p (xs ++ ys) ≡ find p ys) → cond b (Some x) (find p (xs ++ ys)) ≡ find p ys
    go true e others = absurd cc
    go false e others = others e

pub edges_fault : (nodes : List (List ℕ)) (before : List NamedEdge) (p : Parts) (edges : List HeldEdge) (i : ℕ) (e : HeldEdge) (f : GraphError) → AreEdges nodes before p → i < length edges → e ≡ get_or edges i e → find (is_loose nodes) (map edge_of (drop i edges)) ≡ find (is_loose nodes) (map edge_of edges) → IsEdgeFault nodes (edge_of e) f → IsEdgesFault nodes (before ++ map edge_of edges) f
edges_fault nodes before p edges i e f are below is same (inl memory) = inl memory
edges_fault nodes before p edges i e f are below is same (inr (loose, fault)) =
    let one : find (is_loose nodes) (map edge_of (drop i edges)) ≡ Some (edge_of e) = rw (drop_more edges i e below, ← is, loose) refl in
    inr (edge_of e, find_after (is_loose nodes) before (map edge_of edges) are.joined ∙ sym same ∙ one, fault)

-- ---- the system at the end

pub complete_is : (m : Machine) → true ≡ (length m.stack.items == 0) → m.rooted ≡ true → is_complete (reading_of m) ≡ true
complete_is m empty rooted = rw (length-map, ← empty, rooted) refl

nodes_said : (m : Reading) (nodes : List (List ℕ)) → (length nodes ≡ 0 → ⊥) → has_nodes m nodes ≡ Ok (said m)
nodes_said m [] some = absurd (some refl)
nodes_said m (node ∷ nodes) some = refl

built_said : (states start : ℕ) (m : Reading) (p : Parts) (r : Result RawSystem GraphError) → AreEdges m.nodes m.edges p → states ≡ length m.nodes → start ≡ unwrap_or m.marked 0 → MatchResult r (λ raw. raw ≡ system_of states start p) (λ e. e ≡ GraphError.Memory) → Says r (Ok (said m))
built_said states start m p (Ok raw) are count first is = rw (is, count, first) (ap {A = List NamedMove} {B = Result Said GraphError} (λ moves. Ok (record { states = length m.nodes; start = unwrap_or m.marked 0; moves = moves })) (sym are.moves))
built_said states start m p (Err e) are count first is = rw is tt

-- a complete document with nodes, whose edges join nodes, says the system that is built of their moves
pub finish_says : (size states start : ℕ) (m : Reading) (p : Parts) (r : Result RawSystem GraphError) → is_complete m ≡ true → AreEdges m.nodes m.edges p → states ≡ length m.nodes → (states ≡ 0 → ⊥) → start ≡ unwrap_or m.marked 0 → MatchResult r (λ raw. raw ≡ system_of states start p) (λ e. e ≡ GraphError.Memory) → Says r (finished size m)
finish_says size states start m p r complete are count some first is =
    let read : finished size m ≡ Ok (said m) = rw (complete, are.joined) (nodes_said m m.nodes (λ none. some (count ∙ none))) in
    rw read (built_said states start m p r are count first is)
