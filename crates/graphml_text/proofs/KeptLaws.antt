-- Every reading keeps to the limits, and its edges have labels.
use Rattle.std.proofs.Common.{◌≡◌, ◌∙◌, ℕ, zero, suc, ◌+◌, ◌-◌, ◌<◌, ◌≤◌, Bool, true, false, cond, ◌||◌, List, [], ◌∷◌, ◌++◌, length, map, take, get_or, All, Option, Some, None, Result, Ok, Err, refl, sym, ap, subst, arith, inl, inr, ◌⊎◌}
use Rattle.std.specs.Prelude.{IfSome, nat_lt, nat_le}
use Rattle.std.specs.List.{find, list_any}
use Rattle.std.specs.Option.{option_or}
use Rattle.std.specs.Str.{bytes_eq, is_utf8}
use Rattle.std.proofs.lemmas.Bool.{cases_Bool, false≢true, ltb-false, leb-false}
use Rattle.std.proofs.lemmas.List.{length_push, length-map}
use Rattle.std.proofs.lemmas.List.Elements.{All-push}
use Rattle.std.proofs.lemmas.Str.{IsUtf8-from_is_utf8}
use Rattle.lts_base.specs.Alphabet.{IsLabel}
use Rattle.text_scan.specs.Listing.{has_bytes}
use Rattle.aut_text.specs.Form.{visible}
use Rattle.graphml_text.specs.declared.error.GraphError.{GraphError}
use Rattle.graphml_text.specs.declared.role.Role.{Role}
use Rattle.graphml_text.specs.declared.role.Role.TheVariants.{Root, Key, Graph, Node, Edge, Mark, Data, Label, Passed as PassedOver}
use Rattle.graphml_scan.specs.Piece.{is_white, trimmed}
use Rattle.graphml_scan.specs.Tag.{Tag}
use Rattle.graphml_scan.specs.Token.{Token, Byte, Text, Start, End, Passed}
use Rattle.graphml_text.specs.Reading.{Open, Draft, NamedEdge, Reading, nothing_read}
use Rattle.graphml_text.specs.Element.{needed, has, with_id, spaced, label_of, edge_from, edge_ended, with_edge, last_place, with_mark, with_label, with_label_text, with_data_text, first_fault, second_graph, foreign_fault, role_fault, edge_fault, node_fault, start_fault, lacks, is_directed, has_value, value, role_of, innermost, opened, left, closed, texted, started, ended, byte_read, text_read, step}
use Rattle.graphml_text.specs.Kept.{IsLabelled, IsKept}
use Rattle.graphml_text.specs.Document.{on_ok, run_read}
use Rattle.std.specs.Prelude.{codes}
use Rattle.lts_base.specs.declared.limits.TheConstants.{MOST_LABEL_BYTES, MOST_MOVES, MOST_STATES}
use Rattle.graphml_text.specs.declared.limits.TheConstants.{MOST_DEPTH}

pub kept_nothing : IsKept nothing_read
kept_nothing = record { nodes = omega arith; edges = omega arith; room = tt; marked = tt; labels = λ k d below. absurd (omega (arith, below)) }

-- ---- faults that aren't met

test_false : {A : Type 0} (b : Bool) (x : A) (o : Option A) → cond b (Some x) o ≡ None → (b ≡ false) × (o ≡ None)
test_false true x o e = absurd cc
test_false false x o e = (refl, e)

test_last : {A : Type 0} (b : Bool) (x : A) → cond b (Some x) None ≡ None → b ≡ false
test_last true x e = absurd cc
test_last false x e = refl

later_none : (a b : Option GraphError) → first_fault a b ≡ None → b ≡ None
later_none None b e = e
later_none (Some x) b e = absurd cc

role_fine : (at : ℕ) (m : Reading) (tag : Tag) (role : Role) → start_fault at m tag role ≡ None → role_fault at m tag role ≡ None
role_fine at m tag role fine =
    let whole = (test_false (lacks m tag role) _ _ fine).1 in
    let deep = (test_false (nat_le MOST_DEPTH (length m.stack)) _ _ whole).1 in
    later_none (foreign_fault at m tag) _ (later_none (second_graph at m tag) _ deep)

node_room : (at : ℕ) (m : Reading) (tag : Tag) → node_fault at m tag ≡ None → length m.nodes < MOST_STATES
node_room at m tag fine =
    let new = (test_false (has_value m.nodes (value (codes "id") tag)) _ _ fine).1 in
    leb-false _ _ (test_last (nat_le MOST_STATES (length m.nodes)) _ new)

edge_room : (at : ℕ) (m : Reading) (tag : Tag) → edge_fault at m tag ≡ None → length m.edges < MOST_MOVES
edge_room at m tag fine = go (is_directed m (value (codes "directed") tag)) fine
  where
    go : (b : Bool) → cond b (cond (nat_le MOST_MOVES (length m.edges)) (Some GraphError.TooManyMoves) None) (Some (GraphError.Undirected at)) ≡ None → length m.edges < MOST_MOVES
    go true e = leb-false _ _ (test_last (nat_le MOST_MOVES (length m.edges)) _ e)
    go false e = absurd cc

-- ---- start tags

wider : (o : Option ℕ) (a b : ℕ) → a ≤ b → IfSome o (λ s. s < a) → IfSome o (λ s. s < b)
wider None a b le h = tt
wider (Some s) a b le h = omega (arith, le, h)

labelled_room : (o : Option Draft) (n : ℕ) → IfSome o (λ _. n < MOST_MOVES) → IfSome (with_label o) (λ _. n < MOST_MOVES)
labelled_room None n h = tt
labelled_room (Some d) n h = h

text_room : (o : Option Draft) (k : ℕ) (text : List ℕ) (n : ℕ) → IfSome o (λ _. n < MOST_MOVES) → IfSome (with_label_text o k text) (λ _. n < MOST_MOVES)
text_room None k text n h = tt
text_room (Some d) k text n h = h

data_room : (o : Option Draft) (text : List ℕ) (n : ℕ) → IfSome o (λ _. n < MOST_MOVES) → IfSome (with_data_text o text) (λ _. n < MOST_MOVES)
data_room None text n h = tt
data_room (Some d) text n h = h

same_kept : (m n : Reading) → n.nodes ≡ m.nodes → n.edges ≡ m.edges → n.draft ≡ m.draft → n.marked ≡ m.marked → IsKept m → IsKept n
same_kept m n nodes edges draft marked kept = record {
  nodes = rw nodes kept.nodes;
  edges = rw edges kept.edges;
  room = rw (draft, edges) kept.room;
  marked = rw (marked, nodes) kept.marked;
  labels = rw edges kept.labels;
}

node_count : (nodes : List (List ℕ)) (id : List ℕ) → (length nodes ≤ length (with_id nodes id)) × (length (with_id nodes id) ≤ length nodes + 1)
node_count nodes id = go (has nodes id)
  where
    go : (b : Bool) → (length nodes ≤ length (cond b nodes (nodes ++ id ∷ []))) × (length (cond b nodes (nodes ++ id ∷ [])) ≤ length nodes + 1)
    go true = (omega arith, omega arith)
    go false = let count = length_push nodes id in (omega (arith, count), omega (arith, count))

kept_opened : (at : ℕ) (m : Reading) (tag : Tag) (role : Role) → start_fault at m tag role ≡ None → IsKept m → IsKept (opened at m tag role)
kept_opened at m tag Node fine kept =
    let room : length m.nodes < MOST_STATES = node_room at m tag (role_fine at m tag Node fine) in
    let count = node_count m.nodes (needed (codes "id") tag) in
    record {
      nodes = omega (arith, count.1, room);
      edges = kept.edges;
      room = kept.room;
      marked = wider m.marked (length m.nodes) _ count.0 kept.marked;
      labels = kept.labels;
    }
kept_opened at m tag Edge fine kept = record {
  nodes = kept.nodes;
  edges = kept.edges;
  room = edge_room at m tag (role_fine at m tag Edge fine);
  marked = kept.marked;
  labels = kept.labels;
}
kept_opened at m tag (Label k) fine kept = record {
  nodes = kept.nodes;
  edges = kept.edges;
  room = labelled_room m.draft _ kept.room;
  marked = kept.marked;
  labels = kept.labels;
}
kept_opened at m tag Root fine kept = same_kept m (opened at m tag Root) refl refl refl refl kept
kept_opened at m tag Key fine kept = same_kept m (opened at m tag Key) refl refl refl refl kept
kept_opened at m tag Graph fine kept = same_kept m (opened at m tag Graph) refl refl refl refl kept
kept_opened at m tag Mark fine kept = same_kept m (opened at m tag Mark) refl refl refl refl kept
kept_opened at m tag Data fine kept = same_kept m (opened at m tag Data) refl refl refl refl kept
kept_opened at m tag PassedOver fine kept = same_kept m (opened at m tag PassedOver) refl refl refl refl kept

-- ---- ends of elements

find_passes : (xs : List (List ℕ)) (x : List ℕ) → find has_bytes xs ≡ Some x → has_bytes x ≡ true
find_passes [] x e = absurd cc
find_passes (y ∷ ys) x e = go (has_bytes y) refl e (find_passes ys x)
  where
    go : (b : Bool) → has_bytes y ≡ b → cond b (Some y) (find has_bytes ys) ≡ Some x → (find has_bytes ys ≡ Some x → has_bytes x ≡ true) → has_bytes x ≡ true
    go true h f others = let same : y ≡ x = cc in rw same at h
    go false h f others = others f

label_has : (d : Draft) (text : List ℕ) → label_of d ≡ Some text → has_bytes text ≡ true
label_has d text e = go (find has_bytes d.labels) refl e
  where
    told : (b : Bool) → has_bytes d.told ≡ b → cond b (Some d.told) None ≡ Some text → has_bytes text ≡ true
    told true h g = let same : d.told ≡ text = cc in rw same at h
    told false h g = absurd cc

    go : (o : Option (List ℕ)) → find has_bytes d.labels ≡ o → option_or o (cond (has_bytes d.told) (Some d.told) None) ≡ Some text → has_bytes text ≡ true
    go None f g = told (has_bytes d.told) refl g
    go (Some t) f g = let same : t ≡ text = cc in find_passes d.labels text (f ∙ ap {A = List ℕ} {B = Option (List ℕ)} (λ x. Some x) same)

some_bytes : (text : List ℕ) → has_bytes text ≡ true → 0 < length text
some_bytes [] e = absurd cc
some_bytes (b ∷ text) e = omega arith

all_plain : (t : List ℕ) → list_any (λ b. nat_lt b 32) t ≡ false → All (λ b. 32 ≤ b) t
all_plain [] none k d below = absurd (omega (arith, below))
all_plain (b ∷ t) none k d below = go k below (cases_Bool (nat_lt b 32)) (λ e j. all_plain t (rest e) j d)
  where
    rest : nat_lt b 32 ≡ false → list_any (λ x. nat_lt x 32) t ≡ false
    rest e = sym (ap (λ c. c || list_any (λ x. nat_lt x 32) t) e) ∙ none

    go : (k : ℕ) → k < length (b ∷ t) → (nat_lt b 32 ≡ true) ⊎ (nat_lt b 32 ≡ false) → (nat_lt b 32 ≡ false → (j : ℕ) → j < length t → 32 ≤ get_or t j d) → 32 ≤ get_or (b ∷ t) k d
    go k below (inl is) others = absurd (false≢true (sym none ∙ ap (λ c. c || list_any (λ x. nat_lt x 32) t) is))
    go zero below (inr other) others = ltb-false b 32 other
    go (suc k) below (inr other) others = others other k (omega (arith, below))

visible_label : (t : List ℕ) → IsLabel t → IfSome (visible t) IsLabel
visible_label t is = go (bytes_eq t (codes "i")) (bytes_eq t (codes "tau"))
  where
    go : (a b : Bool) → IfSome (cond a None (cond b None (Some t))) IsLabel
    go true b = tt
    go false true = tt
    go false false = is

pub edge_labelled : (at : ℕ) (d : Draft) (o : Option (List ℕ)) (edge : NamedEdge) → label_of d ≡ o → edge_from at d o ≡ Ok edge → IsLabelled edge
edge_labelled at d None edge is e = absurd cc
edge_labelled at d (Some text) edge is e = go (list_any (λ b. nat_lt b 32) t) refl (is_utf8 t) refl (nat_lt MOST_LABEL_BYTES (length text)) refl e
  where
    t : List ℕ
    t = map spaced text

    made : NamedEdge
    made = record { at = at; source = d.source; target = d.target; label = visible t }

    go : (a : Bool) → list_any (λ b. nat_lt b 32) t ≡ a → (u : Bool) → is_utf8 t ≡ u → (l : Bool) → nat_lt MOST_LABEL_BYTES (length text) ≡ l →
        cond a (Err (GraphError.Malformed at)) (cond u (cond l (Err (GraphError.LabelLong at)) (Ok made)) (Err (GraphError.Malformed at))) ≡ Ok edge → IsLabelled edge
    go true plain u utf8 l short f = absurd cc
    go false plain false utf8 l short f = absurd cc
    go false plain true utf8 true short f = absurd cc
    go false plain true utf8 false short f =
        let same : made ≡ edge = cc in
        subst IsLabelled same (visible_label t (record {
          some = rw length-map (some_bytes text (label_has d text is));
          short = rw length-map (ltb-false MOST_LABEL_BYTES (length text) short);
          plain = all_plain t plain;
          utf8 = IsUtf8-from_is_utf8 t utf8;
        }))

abbrev done : Reading → Result Reading GraphError
done m = Ok m

kept_ok : (m n : Reading) → done m ≡ Ok n → IsKept m → IsKept n
kept_ok m n e kept = let same : m ≡ n = cc in subst IsKept same kept

last_below : (n : ℕ) → IfSome (last_place n) (λ s. s < n)
last_below zero = tt
last_below (suc n) = omega arith

marked_below : (o : Option ℕ) (count : ℕ) (text : List ℕ) → IfSome o (λ s. s < count) → IfSome (with_mark o count text) (λ s. s < count)
marked_below (Some s) count text h = h
marked_below None count text h = go (bytes_eq text (codes "true"))
  where
    go : (b : Bool) → IfSome (cond b (last_place count) None) (λ s. s < count)
    go true = last_below count
    go false = tt

kept_edge : (m n : Reading) (at : ℕ) → edge_ended m at m.draft ≡ Ok n → IsKept m → IsKept n
kept_edge m n at e kept = go m.draft refl e
  where
    more : (d : Draft) → m.draft ≡ Some d → (r : Result NamedEdge GraphError) → edge_from at d (label_of d) ≡ r → with_edge m r ≡ Ok n → IsKept n
    more d is (Err x) from f = absurd cc
    more d is (Ok edge) from f =
        let room : length m.edges < MOST_MOVES = rw is at kept.room in
        let count = length_push m.edges edge in
        kept_ok (record m { draft = None; edges = m.edges ++ edge ∷ [] }) n f (record {
          nodes = kept.nodes;
          edges = omega (arith, count, room);
          room = tt;
          marked = kept.marked;
          labels = All-push IsLabelled m.edges edge kept.labels (edge_labelled at d (label_of d) edge refl from);
        })

    go : (o : Option Draft) → m.draft ≡ o → edge_ended m at o ≡ Ok n → IsKept n
    go None is f = kept_ok m n f kept
    go (Some d) is f = more d is (edge_from at d (label_of d)) refl f

kept_left : (m n : Reading) (o : Open) (role : Role) → left m o role ≡ Ok n → IsKept m → IsKept n
kept_left m n o Mark e kept = kept_ok (record m { marked = with_mark m.marked (length m.nodes) (trimmed o.text) }) n e (record {
  nodes = kept.nodes;
  edges = kept.edges;
  room = kept.room;
  marked = marked_below m.marked (length m.nodes) (trimmed o.text) kept.marked;
  labels = kept.labels;
})
kept_left m n o Data e kept = kept_ok (record m { draft = with_data_text m.draft (trimmed o.text) }) n e (record {
  nodes = kept.nodes;
  edges = kept.edges;
  room = data_room m.draft (trimmed o.text) _ kept.room;
  marked = kept.marked;
  labels = kept.labels;
})
kept_left m n o (Label k) e kept = kept_ok (record m { draft = with_label_text m.draft k (trimmed o.text) }) n e (record {
  nodes = kept.nodes;
  edges = kept.edges;
  room = text_room m.draft k (trimmed o.text) _ kept.room;
  marked = kept.marked;
  labels = kept.labels;
})
kept_left m n o Edge e kept = kept_edge m n o.at e kept
kept_left m n o Root e kept = kept_ok m n e kept
kept_left m n o Key e kept = kept_ok m n e kept
kept_left m n o Graph e kept = kept_ok m n e kept
kept_left m n o Node e kept = kept_ok m n e kept
kept_left m n o PassedOver e kept = kept_ok m n e kept

kept_closed : (m n : Reading) (o : Open) → closed m o ≡ Ok n → IsKept m → IsKept n
kept_closed m n o e kept =
    let k : Reading = record m { stack = take (length m.stack - 1) m.stack } in
    kept_left k n o o.role e (same_kept m k refl refl refl refl kept)

kept_texted : (m n : Reading) (text : List ℕ) (o : Open) → done (texted m text o) ≡ Ok n → IsKept m → IsKept n
kept_texted m n text o e kept = kept_ok (texted m text o) n e (same_kept m (texted m text o) refl refl refl refl kept)

-- ---- tokens

pub kept_step : (at : ℕ) (m n : Reading) (t : Token) → step at m t ≡ Ok n → IsKept m → IsKept n
unfolding step
kept_step at m n (Byte b) e kept = go (innermost m) e (is_white b) refl
  where
    go : (o : Option Open) → byte_read at m b o ≡ Ok n → (w : Bool) → is_white b ≡ w → IsKept n
    go None f true is = kept_ok m n (rw is at f) kept
    go None f false is = let g : Err (GraphError.Malformed at) ≡ done n = rw is at f in absurd cc
    go (Some o) f w is = kept_texted m n (b ∷ []) o f kept
kept_step at m n (Text text) e kept = go (innermost m) e
  where
    go : (o : Option Open) → text_read at m text o ≡ Ok n → IsKept n
    go None f = absurd cc
    go (Some o) f = kept_texted m n text o f kept
kept_step at m n (Start tag) e kept = go (start_fault at m tag (role_of m tag)) refl e tag.whole refl
  where
    next : Reading
    next = opened at m tag (role_of m tag)

    element : Open
    element = record { name = tag.name; at = at; role = role_of m tag; text = [] }

    go : (o : Option GraphError) → start_fault at m tag (role_of m tag) ≡ o → started at m tag (role_of m tag) o ≡ Ok n → (w : Bool) → tag.whole ≡ w → IsKept n
    go (Some x) fine f w is = absurd cc
    go None fine f true is = kept_closed next n element (rw is at f) (kept_opened at m tag (role_of m tag) fine kept)
    go None fine f false is = kept_ok next n (rw is at f) (kept_opened at m tag (role_of m tag) fine kept)
kept_step at m n (End name) e kept = go (innermost m) e
  where
    close : (o : Open) (b : Bool) → cond b (closed m o) (Err (GraphError.Malformed at)) ≡ Ok n → IsKept n
    close o true f = kept_closed m n o f kept
    close o false f = absurd cc

    go : (o : Option Open) → ended at m name o ≡ Ok n → IsKept n
    go None f = absurd cc
    go (Some o) f = close o (bytes_eq o.name name) f
kept_step at m n Passed e kept = kept_ok m n e kept

pub kept_run : (at : ℕ) (m n : Reading) (run : List ℕ) → run_read at m run ≡ Ok n → IsKept m → IsKept n
kept_run at m n [] e kept = kept_ok m n e kept
kept_run at m n (b ∷ run) e kept = go (step at m (Byte b)) refl e (λ (k : Reading) f g. kept_run (at + 1) k n run f g)
  where
    go : (r : Result Reading GraphError) → step at m (Byte b) ≡ r → on_ok r (λ k. run_read (at + 1) k run) ≡ Ok n → ((k : Reading) → run_read (at + 1) k run ≡ Ok n → IsKept k → IsKept n) → IsKept n
    go (Err x) is f others = absurd cc
    go (Ok k) is f others = others k f (kept_step at m k (Byte b) is kept)
