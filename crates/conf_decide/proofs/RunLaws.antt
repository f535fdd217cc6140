-- Laws between the table's pairs, the walks' sets and the search over plain lists.
use Rattle.std.proofs.Common.{ℕ, ◌+◌, ◌<◌, ◌≤◌, ◌≡◌, List, [], ◌∷◌, ◌++◌, length, map, take, Some, refl, sym, ap, ◌∙◌, inl, inr, ◌⊎◌, arith}
use Rattle.std.specs.Prelude.{All, Contains}
use Rattle.std.proofs.lemmas.Bool.{cases_lt}
use Rattle.std.proofs.lemmas.List.{length_push, length-map, length-append, map_push, get_or-map, get_or_push, get_or_append_left, get_or_default, take-append-le, take_all}
use Rattle.std.proofs.lemmas.List.Elements.{All-push, All-head, All-tail, All-weaker, Contains-get_or}
use Rattle.lts_base.specs.declared.item.Item.{Item}
use Rattle.lts_base.specs.declared.item.Mode.{Mode}
use Rattle.lts_base.specs.System.{System, IsSystem, IsItemOf, label_count}
use Rattle.lts_base.specs.After.{Allows}
use Rattle.lts_base.specs.Next.{IsNext}
use Rattle.lts_base.specs.Order.{place}
use Rattle.lts_base.specs.Reached.{Row, no_row, row_at, trace_at, lefts, rights, with_new, distinct, total_members, IsReachedBy, AreFirstPairs, IsFine, IsWithin}
use Rattle.lts_base.specs.Related.{row_of}
use Rattle.lts_base.proofs.SetLaws.{IsSetAfter-next, Has-from_set, Has-set_some}
use Rattle.lts_base.proofs.AllowedLaws.{IsAllowed-push, IsAllowed-has}
use Rattle.lts_base.proofs.DistinctLaws.{with_new-there, with_new-absent, distinct-push, Contains-distinct, total_members-push}
use Rattle.walk_core.specs.Walked.{Walked, set_at, IsWalk, Grows, IsStep, IsFull}
use Rattle.conf_decide.specs.declared.table.Found.{Found}
use Rattle.conf_decide.specs.declared.answer.What.{What}
use Rattle.conf_decide.specs.declared.answer.What.TheVariants.{ImpMembers, SpecMembers}
use Rattle.conf_decide.specs.Decided.{limits_of, left_members, right_members, IsPast, AreFineBefore, last_trace, IsCut}
use Rattle.conf_decide.specs.Table.{no_found, found_at, nodes_of, HasPair, AreEdges, rows_in}
use Rattle.conf_decide.specs.Progress.{IsClosed, IsInLists, IsRun, IsUntested}
use Rattle.conf_decide.proofs.SearchLaws.{all_before, first_push, nothing_before, search_item, search_push}
use Rattle.lts_base.proofs.NextLaws.{next_exists}

-- ---- pairs of nodes as rows

pub row_in_at : (l r : List (List ℕ)) (found : List Found) (k : ℕ) → k < length found → row_at (rows_in l r found) k ≡ row_of l r (nodes_of (found_at found k))
row_in_at l r found k below = get_or-map (λ (f : Found). row_of l r (nodes_of f)) found k no_found no_row below

pub rows_length : (l r : List (List ℕ)) (found : List Found) → length (rows_in l r found) ≡ length found
rows_length l r found = length-map found (λ (f : Found). row_of l r (nodes_of f))

pub rows_push : (l r : List (List ℕ)) (found : List Found) (f : Found) → rows_in l r (found ++ f ∷ []) ≡ rows_in l r found ++ row_of l r (nodes_of f) ∷ []
rows_push l r found f = map_push (λ (f : Found). row_of l r (nodes_of f)) found f

abbrev pub record_row : List ℕ → List ℕ → Row
record_row l r = record { left = l; right = r }

row_same : (a b c d : List ℕ) → a ≡ c → b ≡ d → record_row a b ≡ record_row c d
row_same a b c d e f = ap {A = List ℕ} {B = Row} (λ l. record { left = l; right = b }) e ∙ ap {A = List ℕ} {B = Row} (λ r. record { left = c; right = r }) f

pub rows_grow : (l r ml mr : List (List ℕ)) (found : List Found) → All (IsInLists l r) found → rows_in (l ++ ml) (r ++ mr) found ≡ rows_in l r found
rows_grow l r ml mr [] inside = refl
rows_grow l r ml mr (f ∷ found) inside =
    let (left, right) = All-head (IsInLists l r) f found inside in
    ap {A = Row} {B = List Row} (λ row. row ∷ rows_in (l ++ ml) (r ++ mr) found) (row_same _ _ _ _ (get_or_append_left l ml [] f.left left) (get_or_append_left r mr [] f.right right))
    ∙ ap {A = List Row} {B = List Row} (λ rows. row_of l r (nodes_of f) ∷ rows) (rows_grow l r ml mr found (All-tail (IsInLists l r) f found inside))

nodes_grow : (l r ml mr : List (List ℕ)) (found : List Found) → All (IsInLists l r) found → All (IsInLists (l ++ ml) (r ++ mr)) found
nodes_grow l r ml mr found inside =
    All-weaker (IsInLists l r) (IsInLists (l ++ ml) (r ++ mr)) (λ f (a, b). (rw (length-append l ml) (omega (arith, a)), rw (length-append r mr) (omega (arith, b)))) found inside

pub last_push : (ts : List (List Item)) (τ : List Item) → last_trace (ts ++ τ ∷ []) ≡ τ
last_push ts τ = get_or_push ts τ [] _ (let e = length_push ts τ in omega (arith, e))

pub edges_push : (found : List Found) (ts : List (List Item)) (f : Found) (at : ℕ) (x : Item) → AreEdges found ts → at < length found → f.from ≡ at → f.item ≡ x → f.depth ≡ (found_at found at).depth + 1 →
    AreEdges (found ++ f ∷ []) (ts ++ (trace_at ts at ++ x ∷ []) ∷ [])
edges_push found ts f at x edges within from item depth =
    record {
      long = rw (length_push ts (trace_at ts at ++ x ∷ []), length_push found f) (ap (λ k. k + 1) edges.long);
      opening = rw (old_trace 0 (omega (arith, within))) edges.opening;
      earlier = earlier;
      each = each;
      depth = depths;
      short = short;
    }
  where
    old_trace : (k : ℕ) → k < length found → trace_at (ts ++ (trace_at ts at ++ x ∷ []) ∷ []) k ≡ trace_at ts k
    old_trace k below = get_or_append_left ts ((trace_at ts at ++ x ∷ []) ∷ []) [] k (rw edges.long below)

    new_trace : (k : ℕ) → length found ≡ k → trace_at (ts ++ (trace_at ts at ++ x ∷ []) ∷ []) k ≡ trace_at ts at ++ x ∷ []
    new_trace k e = get_or_push ts (trace_at ts at ++ x ∷ []) [] k (edges.long ∙ e)

    last : (k : ℕ) → length found ≤ k → k < length (found ++ f ∷ []) → length found ≡ k
    last k most below = omega (arith, most, rw (length_push found f) at below)

    earlier : (k : ℕ) → 0 < k → k < length (found ++ f ∷ []) → (found_at (found ++ f ∷ []) k).from < k
    earlier k some below =
        elim (cases_lt k (length found)) [
          | inl old ↦ rw (get_or_append_left found (f ∷ []) no_found k old) (edges.earlier k some old)
          | inr most ↦ rw (get_or_push found f no_found k (last k most below), from) (omega (arith, within, last k most below))
        ]

    each : (k : ℕ) → 0 < k → k < length (found ++ f ∷ []) → trace_at (ts ++ (trace_at ts at ++ x ∷ []) ∷ []) k ≡ trace_at (ts ++ (trace_at ts at ++ x ∷ []) ∷ []) (found_at (found ++ f ∷ []) k).from ++ (found_at (found ++ f ∷ []) k).item ∷ []
    each k some below =
        elim (cases_lt k (length found)) [
          | inl old ↦
              rw (get_or_append_left found (f ∷ []) no_found k old, old_trace k old, old_trace (found_at found k).from (omega (arith, edges.earlier k some old, old))) (edges.each k some old)
          | inr most ↦ rw (get_or_push found f no_found k (last k most below), from, item, old_trace at within) (new_trace k (last k most below))
        ]

    depths : (k : ℕ) → k < length (found ++ f ∷ []) → (found_at (found ++ f ∷ []) k).depth ≡ length (trace_at (ts ++ (trace_at ts at ++ x ∷ []) ∷ []) k)
    depths k below =
        elim (cases_lt k (length found)) [
          | inl old ↦ rw (get_or_append_left found (f ∷ []) no_found k old, old_trace k old) (edges.depth k old)
          | inr most ↦
              rw (get_or_push found f no_found k (last k most below), new_trace k (last k most below), depth, length_push (trace_at ts at) x) (ap (λ n. n + 1) (edges.depth at within))
        ]

    short : (k : ℕ) → k < length (found ++ f ∷ []) → (found_at (found ++ f ∷ []) k).depth ≤ k
    short k below =
        elim (cases_lt k (length found)) [
          | inl old ↦ rw (get_or_append_left found (f ∷ []) no_found k old) (edges.short k old)
          | inr most ↦ rw (get_or_push found f no_found k (last k most below), depth) (omega (arith, edges.short at within, within, last k most below))
        ]

pub same_node : (w : Walked) (j k : ℕ) → IsWalk w → j < length w.sets → k < length w.sets → set_at w.sets j ≡ set_at w.sets k → j ≡ k
same_node w j k walk left right e =
    elim (cases_lt j k) [
      | inl less ↦ absurd (walk.once j k less right e)
      | inr most ↦
          elim (cases_lt k j) [
            | inl less ↦ absurd (walk.once k j less left (sym e))
            | inr least ↦ omega (arith, most, least)
          ]
    ]

old_set : (old new : Walked) (k : ℕ) → Grows old new → k < length old.sets → set_at new.sets k ≡ set_at old.sets k
old_set old new k grows below = rw grows.sets.1 (get_or_append_left old.sets grows.sets.0 [] k below)

more_sets : (old new : Walked) (k : ℕ) → Grows old new → k < length old.sets → k < length new.sets
more_sets old new k grows below = rw (grows.sets.1, length-append old.sets grows.sets.0) (omega (arith, below))

-- ---- one step of both walks

-- the search is at the item x of pair `at`, which the pair's right set allows, and the walks have grown
pub record IsStepped (mode : Mode) (most : ℕ) (wi wi' ws ws' : Walked) (found : List Found) (at p : ℕ) (x : Item) : Type 0 where
  pub run : IsRun mode (limits_of most wi ws) wi.system ws.system wi.sets ws.sets found at p
  pub imp : Grows wi wi'
  pub spec : Grows ws ws'
  pub imp_walk : IsWalk wi'
  pub spec_walk : IsWalk ws'
  pub within : at < length found
  pub item : IsItemOf ws.system x
  pub here : place (label_count ws.system) x ≡ p
  pub allows : Allows mode ws.system (set_at ws.sets (found_at found at).right) x

contains_map : {X Y : Type 0} (f : X → Y) (xs : List X) (x : X) → Contains xs x → Contains (map f xs) (f x)
contains_map f xs x (k, below, e) = (k, rw (length-map xs f) below, get_or-map f xs k x (f x) below ∙ ap f e)

lefts_push : (sets : List (List ℕ)) (rows : List Row) (row : Row) → sets ≡ distinct (lefts rows) → distinct (lefts (rows ++ row ∷ [])) ≡ with_new sets row.left
lefts_push sets rows row e = rw (map_push (λ (r : Row). r.left) rows row, e) (distinct-push (lefts rows) row.left)

rights_push : (sets : List (List ℕ)) (rows : List Row) (row : Row) → sets ≡ distinct (rights rows) → distinct (rights (rows ++ row ∷ [])) ≡ with_new sets row.right
rights_push sets rows row e = rw (map_push (λ (r : Row). r.right) rows row, e) (distinct-push (rights rows) row.right)

unchanged : (w w' : Walked) (k n : ℕ) (x : Item) → Grows w w' → IsStep w w' k x (Some n) → n < length w.sets → w'.sets ≡ w.sets
unchanged w w' k n x grows (qs, next, set, e, below, at) old =
    let same : set_at w.sets n ≡ qs = sym (old_set w w' n grows old) ∙ at in
    e ∙ with_new-there w.sets qs (rw same at (Contains-get_or w.sets n [] old))

fine_carried : (i i' s s' : System) (a b : Row) → i' ≡ i → s' ≡ s → a ≡ b → IsFine i' s' a → IsFine i s b
fine_carried i i' s s' a b e f g h = rw (e, f, g) at h

-- what holds of the systems and limits holds of the same systems and limits
carry : (P : System → ℕ → System → ℕ → Type 0) {i i' s s' : System} {l l' m m' : ℕ} → i' ≡ i → l' ≡ l → s' ≡ s → m' ≡ m → P i l s m → P i' l' s' m'
carry P a b c d h = rw (a, b, c, d) h

module _ (mode : Mode) (most : ℕ) (wi wi' ws ws' : Walked) (found : List Found) (at p : ℕ) (x : Item) (st : IsStepped mode most wi wi' ws ws' found at p x) where
  abbrev rows : List Row
  rows = rows_in wi.sets ws.sets found

  abbrev ts : List (List Item)
  ts = st.run.traces

  abbrev newest : List Item
  newest = trace_at st.run.traces at ++ x ∷ []

  abbrev left_set : List ℕ
  left_set = set_at wi.sets (found_at found at).left

  abbrev right_set : List ℕ
  right_set = set_at ws.sets (found_at found at).right

  within_rows : at < length rows
  within_rows = rw (rows_length wi.sets ws.sets found) st.within

  system : IsSystem ws.system
  system = rw st.spec.system at st.spec_walk.system

  here : IsReachedBy mode wi.system ws.system (trace_at ts at) (record_row left_set right_set)
  here = rw (row_in_at wi.sets ws.sets found at st.within) at (st.run.search.first.least at within_rows).reached

  reached : (qs rs : List ℕ) → IsNext wi.system x left_set qs → 0 < length qs → IsNext ws.system x right_set rs → IsReachedBy mode wi.system ws.system newest (record_row qs rs)
  reached qs rs left some right =
      record {
        allowed = IsAllowed-push mode ws.system (trace_at ts at) x right_set system st.item here.right here.allowed st.allows;
        has = Has-from_set wi.system newest qs (IsSetAfter-next wi.system x (trace_at ts at) left_set qs here.left left) some;
        left = IsSetAfter-next wi.system x (trace_at ts at) left_set qs here.left left;
        right = IsSetAfter-next ws.system x (trace_at ts at) right_set rs here.right right;
      }

  not_empty : IsNext ws.system x right_set [] → ⊥
  not_empty next =
      let allowed = IsAllowed-push mode ws.system (trace_at ts at) x right_set system st.item here.right here.allowed st.allows in
      let some : 0 < 0 = Has-set_some ws.system newest [] (IsSetAfter-next ws.system x (trace_at ts at) right_set [] here.right next) (IsAllowed-has mode ws.system newest allowed) in
      omega (arith, some)

  pub closed_empty : IsNext wi.system x left_set [] → IsClosed mode wi.system ws.system rows ts at x
  closed_empty next item allows has =
      let some : 0 < 0 = Has-set_some wi.system newest [] (IsSetAfter-next wi.system x (trace_at ts at) left_set [] here.left next) has in
      absurd (omega (arith, some))

  run_closed : IsClosed mode wi.system ws.system rows ts at x → IsRun mode (limits_of most wi ws) wi.system ws.system wi.sets ws.sets found at (p + 1)
  run_closed closed =
      record {
        traces = ts;
        search = search_item mode wi.system ws.system rows ts at p x st.run.search st.item st.here closed;
        edges = st.run.edges;
        nodes = st.run.nodes;
        left_sets = st.run.left_sets;
        right_sets = st.run.right_sets;
        within = st.run.within;
      }

  pub run_empty : (IsNext wi.system x left_set [] × (wi'.sets ≡ wi.sets) × (ws'.sets ≡ ws.sets)) ⊎ IsNext ws.system x right_set [] →
      IsRun mode (limits_of most wi' ws') wi'.system ws'.system wi'.sets ws'.sets found at (p + 1)
  run_empty (inl (next, left, right)) = rw (st.imp.system, st.imp.limit, st.spec.system, st.spec.limit, left, right) (run_closed (closed_empty next))
  run_empty (inr next) = absurd (not_empty next)

  pub run_there : (l r : ℕ) → IsStep wi wi' (found_at found at).left x (Some l) → IsStep ws ws' (found_at found at).right x (Some r) → HasPair found l r →
      IsRun mode (limits_of most wi' ws') wi'.system ws'.system wi'.sets ws'.sets found at (p + 1)
  run_there l r left right (k, below, e) =
      let inside = st.run.nodes k no_found below in
      let l_is : (found_at found k).left ≡ l = ap (λ (n : ℕ × ℕ). n.0) e in
      let r_is : (found_at found k).right ≡ r = ap (λ (n : ℕ × ℕ). n.1) e in
      let l_old : l < length wi.sets = rw l_is at inside.0 in
      let r_old : r < length ws.sets = rw r_is at inside.1 in
      let same_left = unchanged wi wi' _ l x st.imp left l_old in
      let same_right = unchanged ws ws' _ r x st.spec right r_old in
      let row_is : row_at rows k ≡ record_row left.0 right.0 =
      row_in_at wi.sets ws.sets found k below ∙ ap (row_of wi.sets ws.sets) e
      ∙ row_same _ _ _ _ (sym (old_set wi wi' l st.imp l_old) ∙ left.5) (sym (old_set ws ws' r st.spec r_old) ∙ right.5) in
      let closed : IsClosed mode wi.system ws.system rows ts at x = λ item allows has. (
        k,
        rw (rows_length wi.sets ws.sets found) below,
        rw row_is (reached left.0 right.0 left.1 left.2.some right.1),
        inr (all_before mode wi.system ws.system rows ts at p x st.run.search within_rows st.here k (rw (rows_length wi.sets ws.sets found) below)),
      ) in
      rw (st.imp.system, st.imp.limit, st.spec.system, st.spec.limit, same_left, same_right) (run_closed closed)

  -- the pair that the step found, and which is new
  record IsNewPair (f : Found) : Type 0 where
    qs : List ℕ
    rs : List ℕ
    row : row_of wi'.sets ws'.sets (nodes_of f) ≡ record_row qs rs
    reached : IsReachedBy mode wi.system ws.system newest (record_row qs rs)
    new : Contains rows (record_row qs rs) → ⊥
    all_rows : rows_in wi'.sets ws'.sets (found ++ f ∷ []) ≡ rows ++ record_row qs rs ∷ []
    left : wi'.sets ≡ distinct (lefts (rows ++ record_row qs rs ∷ []))
    right : ws'.sets ≡ distinct (rights (rows ++ record_row qs rs ∷ []))
    nodes : All (IsInLists wi'.sets ws'.sets) (found ++ f ∷ [])

  new_pair : (f : Found) → IsStep wi wi' (found_at found at).left x (Some f.left) → IsStep ws ws' (found_at found at).right x (Some f.right) → (HasPair found f.left f.right → ⊥) → IsNewPair f
  new_pair f left right apart =
      record {
        qs = left.0;
        rs = right.0;
        row = row_is;
        reached = reached left.0 right.0 left.1 left.2.some right.1;
        new = new;
        all_rows = rows_push wi'.sets ws'.sets found f ∙ ap {A = List Row} {B = List Row} (λ front. front ++ row_of wi'.sets ws'.sets (nodes_of f) ∷ []) grown
            ∙ ap {A = Row} {B = List Row} (λ row. rows ++ row ∷ []) row_is;
        left = left.3 ∙ sym (lefts_push wi.sets rows (record_row left.0 right.0) st.run.left_sets);
        right = right.3 ∙ sym (rights_push ws.sets rows (record_row left.0 right.0) st.run.right_sets);
        nodes = All-push (IsInLists wi'.sets ws'.sets) found f nodes (left.4, right.4);
      }
    where
      row_is : row_of wi'.sets ws'.sets (nodes_of f) ≡ record_row left.0 right.0
      row_is = row_same _ _ _ _ left.5 right.5

      grown : rows_in wi'.sets ws'.sets found ≡ rows
      grown = rw (st.imp.sets.1, st.spec.sets.1) (rows_grow wi.sets ws.sets st.imp.sets.0 st.spec.sets.0 found st.run.nodes)

      nodes : All (IsInLists wi'.sets ws'.sets) found
      nodes = rw (st.imp.sets.1, st.spec.sets.1) (nodes_grow wi.sets ws.sets st.imp.sets.0 st.spec.sets.0 found st.run.nodes)

      new_at : (k : ℕ) → k < length found → row_of wi.sets ws.sets (nodes_of (found_at found k)) ≡ record_row left.0 right.0 → ⊥
      new_at k below e =
          let inside = st.run.nodes k no_found below in
          let l_same = same_node wi' (found_at found k).left f.left st.imp_walk (more_sets wi wi' _ st.imp inside.0) left.4 (old_set wi wi' _ st.imp inside.0 ∙ ap (λ (r : Row). r.left) e ∙ sym left.5) in
          let r_same = same_node ws' (found_at found k).right f.right st.spec_walk (more_sets ws ws' _ st.spec inside.1) right.4 (old_set ws ws' _ st.spec inside.1 ∙ ap (λ (r : Row). r.right) e ∙ sym right.5) in
          apart (k, below, ap (λ (n : ℕ). (n, (found_at found k).right)) l_same ∙ ap (λ (n : ℕ). (f.left, n)) r_same)

      new : Contains rows (record_row left.0 right.0) → ⊥
      new (k, below, e) =
          let within : k < length found = rw (rows_length wi.sets ws.sets found) at below in
          new_at k within (sym (row_in_at wi.sets ws.sets found k within) ∙ get_or_default rows k no_row (record_row left.0 right.0) below ∙ e)

  takes : (row : Row) (k : ℕ) → k ≤ length found → take k (rows ++ row ∷ []) ≡ take k rows
  takes row k most = take-append-le k rows (row ∷ []) (rw (rows_length wi.sets ws.sets found) most)

  before : (row : Row) (k : ℕ) → k ≤ length found → IsWithin (limits_of most wi ws) (take k (rows ++ row ∷ []))
  before row k less = rw (takes row k less) (st.run.within k less)

  fine_before : (row : Row) → AreFineBefore wi.system ws.system (rows ++ row ∷ [])
  fine_before row k below =
      let old : k < length rows = omega (arith, rw (length_push rows row) at below) in
      rw (get_or_append_left rows (row ∷ []) no_row k old) (st.run.search.fine k old)

  first_of_all : (qs rs : List ℕ) → IsReachedBy mode wi.system ws.system newest (record_row qs rs) → (Contains rows (record_row qs rs) → ⊥) →
      AreFirstPairs mode wi.system ws.system (rows ++ record_row qs rs ∷ []) (ts ++ (trace_at st.run.traces at ++ x ∷ []) ∷ [])
  first_of_all qs rs by new = first_push mode wi.system ws.system rows ts at p x (record_row qs rs) system st.run.search within_rows st.item st.here by new

  imp_members : (f : Found) → IsNewPair f → left_members (rows_in wi'.sets ws'.sets (found ++ f ∷ [])) ≤ wi.limit
  imp_members f np = rw np.all_rows (rw (← np.left) (rw st.imp.limit at st.imp_walk.within))

  spec_members : (f : Found) → IsNewPair f → right_members (rows_in wi'.sets ws'.sets (found ++ f ∷ [])) ≤ ws.limit
  spec_members f np = rw np.all_rows (rw (← np.right) (rw st.spec.limit at st.spec_walk.within))

  untested : (f : Found) → f.from ≡ at → f.item ≡ x → f.depth ≡ (found_at found at).depth + 1 → IsNewPair f →
      IsUntested mode (limits_of most wi' ws') wi'.system ws'.system wi'.sets ws'.sets (found ++ f ∷ [])
  untested f from item depth np =
      rw (st.imp.system, st.imp.limit, st.spec.system, st.spec.limit) (record {
        traces = ts ++ (trace_at st.run.traces at ++ x ∷ []) ∷ [];
        first = rw np.all_rows (first_of_all np.qs np.rs np.reached np.new);
        edges = edges_push found ts f at x st.run.edges st.within from item depth;
        nodes = np.nodes;
        before = λ k below. rw np.all_rows (before (record_row np.qs np.rs) k (omega (arith, rw (length_push found f) at below)));
        imp = imp_members f np;
        spec = spec_members f np;
        fine = rw np.all_rows (fine_before (record_row np.qs np.rs));
        earlier = λ τ y bad. rw (last_push ts newest) (nothing_before mode wi.system ws.system rows ts at p x system st.run.search st.item st.here τ y bad);
      })

  run_tested : (f : Found) → f.from ≡ at → f.item ≡ x → f.depth ≡ (found_at found at).depth + 1 → IsNewPair f →
      IsFine wi'.system ws'.system (row_of wi'.sets ws'.sets (nodes_of f)) → length (found ++ f ∷ []) ≤ most →
      IsRun mode (limits_of most wi' ws') wi'.system ws'.system wi'.sets ws'.sets (found ++ f ∷ []) at (p + 1)
  run_tested f from item depth np fine few =
      rw (st.imp.system, st.imp.limit, st.spec.system, st.spec.limit) (record {
        traces = ts ++ (trace_at st.run.traces at ++ x ∷ []) ∷ [];
        search = rw np.all_rows (search_push mode wi.system ws.system rows ts at p x (record_row np.qs np.rs) system st.run.search within_rows st.item st.here np.reached np.new is_fine);
        edges = edges_push found ts f at x st.run.edges st.within from item depth;
        nodes = np.nodes;
        left_sets = rw np.all_rows np.left;
        right_sets = rw np.all_rows np.right;
        within = within;
      })
    where
      is_fine : IsFine wi.system ws.system (record_row np.qs np.rs)
      is_fine = fine_carried _ _ _ _ _ _ st.imp.system st.spec.system np.row fine

      whole : (k : ℕ) → length (found ++ f ∷ []) ≡ k → take k (rows_in wi'.sets ws'.sets (found ++ f ∷ [])) ≡ rows_in wi'.sets ws'.sets (found ++ f ∷ [])
      whole k e = take_all k (rows_in wi'.sets ws'.sets (found ++ f ∷ [])) (rw (rows_length wi'.sets ws'.sets (found ++ f ∷ [])) (omega (arith, e)))

      within : (k : ℕ) → k ≤ length (found ++ f ∷ []) → IsWithin (limits_of most wi ws) (take k (rows_in wi'.sets ws'.sets (found ++ f ∷ [])))
      within k less =
          elim (cases_lt k (length (found ++ f ∷ []))) [
            | inl old ↦ rw np.all_rows (before (record_row np.qs np.rs) k (omega (arith, rw (length_push found f) at old)))
            | inr all ↦
                rw (whole k (omega (arith, less, all))) (record {
                  pairs = rw (rows_length wi'.sets ws'.sets (found ++ f ∷ [])) few;
                  imp = imp_members f np;
                  spec = spec_members f np;
                })
          ]

  pub new_untested : (f : Found) → f.from ≡ at → f.item ≡ x → f.depth ≡ (found_at found at).depth + 1 →
      IsStep wi wi' (found_at found at).left x (Some f.left) → IsStep ws ws' (found_at found at).right x (Some f.right) → (HasPair found f.left f.right → ⊥) →
      IsUntested mode (limits_of most wi' ws') wi'.system ws'.system wi'.sets ws'.sets (found ++ f ∷ [])
  new_untested f from item depth left right apart = untested f from item depth (new_pair f left right apart)

  pub run_new : (f : Found) → f.from ≡ at → f.item ≡ x → f.depth ≡ (found_at found at).depth + 1 →
      IsStep wi wi' (found_at found at).left x (Some f.left) → IsStep ws ws' (found_at found at).right x (Some f.right) → (HasPair found f.left f.right → ⊥) →
      IsFine wi'.system ws'.system (row_of wi'.sets ws'.sets (nodes_of f)) → length (found ++ f ∷ []) ≤ most →
      IsRun mode (limits_of most wi' ws') wi'.system ws'.system wi'.sets ws'.sets (found ++ f ∷ []) at (p + 1)
  run_new f from item depth left right apart fine few = run_tested f from item depth (new_pair f left right apart) fine few

  -- ---- a limit of members is passed

  cut : (qs rs : List ℕ) (what : What) (reach : ℕ) → IsReachedBy mode wi.system ws.system newest (record_row qs rs) → (Contains rows (record_row qs rs) → ⊥) →
      IsPast (limits_of most wi ws) (rows ++ record_row qs rs ∷ []) what reach →
      IsCut mode (limits_of most wi ws) wi.system ws.system what reach ((found_at found at).depth + 1) (rows ++ record_row qs rs ∷ []) (ts ++ (trace_at st.run.traces at ++ x ∷ []) ∷ [])
  cut qs rs what reach by new past =
      record {
        first = first_of_all qs rs by new;
        before = λ k below. before (record_row qs rs) k (omega (arith, rw (length_push rows (record_row qs rs), rows_length wi.sets ws.sets found) at below));
        past = past;
        fine = fine_before (record_row qs rs);
        cut = rw (last_push ts newest, length_push (trace_at ts at) x) (ap (λ n. n + 1) (st.run.edges.depth at st.within));
      }

  pub imp_cut : (reach : ℕ) → IsFull wi (found_at found at).left x reach →
      (all : List Row) × (traces : List (List Item)) × IsCut mode (limits_of most wi' ws') wi'.system ws'.system ImpMembers reach ((found_at found at).depth + 1) all traces
  imp_cut reach (qs, next, set, absent, e, above) =
      let (rs, right) = next_exists ws.system x right_set in
      let members : left_members (rows ++ record_row qs rs ∷ []) ≡ total_members wi.sets + length qs =
      ap total_members (lefts_push wi.sets rows (record_row qs rs) st.run.left_sets ∙ with_new-absent wi.sets qs absent) ∙ total_members-push wi.sets qs in
      let new : Contains rows (record_row qs rs) → ⊥ = λ has. absent (rw st.run.left_sets (Contains-distinct (lefts rows) qs (contains_map (λ (r : Row). r.left) rows (record_row qs rs) has))) in (
        rows ++ record_row qs rs ∷ [],
        ts ++ (trace_at st.run.traces at ++ x ∷ []) ∷ [],
        carry (λ i l s m. IsCut mode (record { pairs = most; imp = l; spec = m }) i s ImpMembers reach ((found_at found at).depth + 1) (rows ++ record_row qs rs ∷ []) (ts ++ (trace_at st.run.traces at ++ x ∷ []) ∷ []))
            st.imp.system st.imp.limit st.spec.system st.spec.limit (cut qs rs ImpMembers reach (reached qs rs next set.some right) new (e ∙ sym members, above)),
      )

  pub spec_cut : (reach n : ℕ) → IsStep wi wi' (found_at found at).left x (Some n) → IsFull ws (found_at found at).right x reach →
      (all : List Row) × (traces : List (List Item)) × IsCut mode (limits_of most wi' ws') wi'.system ws'.system SpecMembers reach ((found_at found at).depth + 1) all traces
  spec_cut reach n left (rs, next, set, absent, e, above) =
      let qs = left.0 in
      let members : right_members (rows ++ record_row left.0 rs ∷ []) ≡ total_members ws.sets + length rs =
      ap total_members (rights_push ws.sets rows (record_row left.0 rs) st.run.right_sets ∙ with_new-absent ws.sets rs absent) ∙ total_members-push ws.sets rs in
      let within : left_members (rows ++ record_row left.0 rs ∷ []) ≤ wi.limit =
      rw (← (left.3 ∙ sym (lefts_push wi.sets rows (record_row left.0 rs) st.run.left_sets))) (rw st.imp.limit at st.imp_walk.within) in
      let new : Contains rows (record_row left.0 rs) → ⊥ = λ has. absent (rw st.run.right_sets (Contains-distinct (rights rows) rs (contains_map (λ (r : Row). r.right) rows (record_row left.0 rs) has))) in (
        rows ++ record_row left.0 rs ∷ [],
        ts ++ (trace_at st.run.traces at ++ x ∷ []) ∷ [],
        carry (λ i l s m. IsCut mode (record { pairs = most; imp = l; spec = m }) i s SpecMembers reach ((found_at found at).depth + 1) (rows ++ record_row left.0 rs ∷ []) (ts ++ (trace_at st.run.traces at ++ x ∷ []) ∷ []))
            st.imp.system st.imp.limit st.spec.system st.spec.limit (cut left.0 rs SpecMembers reach (reached left.0 rs left.1 left.2.some next) new (within, e ∙ sym members, above)),
      )
