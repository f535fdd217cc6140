-- Laws of the end of a row, and of the end of a search: the relation of the reached pairs.
use Rattle.std.proofs.Common.{ℕ, ◌+◌, ◌-◌, ◌*◌, ◌<◌, ◌≤◌, ◌≡◌, List, [], ◌∷◌, ◌++◌, length, map, take, Option, None, refl, sym, ap, ◌∙◌, inl, inr, ◌⊎◌, arith}
use Rattle.std.specs.Prelude.{Contains}
use Rattle.std.proofs.lemmas.Bool.{cases_lt}
use Rattle.std.proofs.lemmas.List.{take_all, length-map, get_or-map, get_or_default}
use Rattle.std.proofs.lemmas.List.Elements.{Contains-get_or}
use Rattle.std.proofs.lemmas.Nat.{mul-le}
use Rattle.std.proofs.lemmas.Simd.{map-map}
use Rattle.lts_base.specs.declared.relation.Relation.{Relation}
use Rattle.lts_base.specs.declared.item.Mode.{Mode}
use Rattle.lts_base.specs.Reached.{Row, lefts, rights, distinct}
use Rattle.lts_base.specs.Related.{row_of, rows_of}
use Rattle.lts_base.proofs.DistinctLaws.{Contains-from_distinct}
use Rattle.walk_core.specs.Walked.{Walked, set_at, IsWalk, IsFresh, Grows}
use Rattle.conf_decide.specs.declared.table.Found.{Found}
use Rattle.conf_decide.specs.declared.search.Setting.{Setting}
use Rattle.conf_decide.specs.declared.answer.Answer.{Answer}
use Rattle.conf_decide.specs.Decided.{limits_of, IsConformance, IsSettled, IsPaid, ArePaid}
use Rattle.conf_decide.specs.declared.answer.Answer.TheVariants.{Conforms}
use Rattle.conf_decide.specs.declared.answer.Verdict.{Verdict}
use Rattle.conf_decide.specs.declared.answer.Verdict.TheVariants.{Conforms as Counted}
use Rattle.conf_decide.specs.Told.{told_of}
use Rattle.conf_decide.specs.Table.{found_at, nodes_of, IsAbove, rows_in}
use Rattle.conf_decide.specs.Progress.{IsSetting, IsRunOf, IsNewest, IsTested, IsAnswer, TookBoth}
use Rattle.conf_decide.proofs.SearchLaws.{search_row, no_violation, reached_pairs, valid_pairs}
use Rattle.conf_decide.proofs.RunLaws.{row_in_at, rows_length, same_node}
use Rattle.conf_decide.proofs.GrowLaws.{Took-trans}
use Rattle.conf_decide.proofs.LookLaws.{few_pairs}
use Rattle.conf_decide.proofs.TestLaws.{opening_untested, opening_run}

-- all items of the pair have been looked at
pub row_over : (setting : Setting) (wi ws : Walked) (found : List Found) (at p : ℕ) → IsSetting setting wi ws → IsRunOf setting wi ws found at p → setting.inputs + setting.outputs + 1 ≤ p →
    IsRunOf setting wi ws found (at + 1) 0
row_over setting wi ws found at p set run over =
    record {
      traces = run.traces;
      search = search_row setting.mode wi.system ws.system (rows_in wi.sets ws.sets found) run.traces at p run.search (rw (set.spec_inputs, set.spec_outputs) over);
      edges = run.edges;
      nodes = run.nodes;
      left_sets = run.left_sets;
      right_sets = run.right_sets;
      within = run.within;
    }

-- the same, of the pairs with numbers below this
pub record IsAboveTo (node : Found → ℕ) (found : List Found) (number n : ℕ) : Type 0 where
  pub within : number ≤ length found
  pub each : (k : ℕ) → k < number → node (found_at found k) < n
  pub some : (n ≡ 0) ⊎ ((k : ℕ) × (k < number) × (node (found_at found k) + 1 ≡ n))

pub above_none : (node : Found → ℕ) (found : List Found) → IsAboveTo node found 0 0
above_none node found = record { within = omega arith; each = λ k less. absurd (omega (arith, less)); some = inl refl }

pub above_same : (node : Found → ℕ) (found : List Found) (number n : ℕ) → number < length found → node (found_at found number) < n → IsAboveTo node found number n → IsAboveTo node found (number + 1) n
above_same node found number n within less above =
    record {
      within = omega (arith, within);
      each = λ k below. elim (cases_lt k number) [ inl old ↦ above.each k old | inr new ↦ let e : k ≡ number = omega (arith, below, new) in rw e less ];
      some = elim above.some [ inl none ↦ inl none | inr (k, below, e) ↦ inr (k, omega (arith, below), e) ];
    }

pub above_more : (node : Found → ℕ) (found : List Found) (number n : ℕ) → number < length found → n ≤ node (found_at found number) → IsAboveTo node found number n → IsAboveTo node found (number + 1) (node (found_at found number) + 1)
above_more node found number n within most above =
    record {
      within = omega (arith, within);
      each = λ k below. elim (cases_lt k number) [ inl old ↦ omega (arith, above.each k old, most) | inr new ↦ let e : k ≡ number = omega (arith, below, new) in rw e (omega arith) ];
      some = inr (number, omega arith, refl);
    }

pub above_all : (node : Found → ℕ) (found : List Found) (number n : ℕ) → length found ≤ number → IsAboveTo node found number n → IsAbove node found n
above_all node found number n over above =
    record {
      each = λ k below. above.each k (omega (arith, over, below));
      some = elim above.some [ inl none ↦ inl none | inr (k, below, e) ↦ inr (k, omega (arith, below, above.within), e) ];
    }

-- every set of a walk is named by some pair, so that the numbers of the pairs' nodes tell how many there are
count_side : (w : Walked) (lists : List (List ℕ)) (found : List Found) (node : Found → ℕ) (n : ℕ) → IsWalk w → w.sets ≡ distinct lists → length lists ≡ length found → 0 < length found →
    ((k : ℕ) → k < length found → (node (found_at found k) < length w.sets) × (set_at lists k ≡ set_at w.sets (node (found_at found k)))) → IsAbove node found n → n ≡ length w.sets
count_side w lists found node n walk sets long some at above =
    elim (cases_lt n (length w.sets)) [
      | inl less ↦ absurd (missed less)
      | inr most ↦
          elim above.some [
            | inl none ↦ absurd (omega (arith, above.each 0 some, none))
            | inr (k, below, e) ↦ omega (arith, most, e, (at k below).0)
          ]
    ]
  where
    found_set : (k : ℕ) → k < length found → n < length w.sets → set_at lists k ≡ set_at w.sets n → ⊥
    found_set k below less e =
        let same : node (found_at found k) ≡ n = same_node w _ n walk (at k below).0 less (sym (at k below).1 ∙ e) in
        omega (arith, same, above.each k below)

    missed : n < length w.sets → ⊥
    missed less =
        let has : Contains (distinct lists) (set_at w.sets n) = rw (← sets) (Contains-get_or w.sets n [] less) in
        let (k, below, e) = Contains-from_distinct lists (set_at w.sets n) has in
        found_set k (rw (← long) below) less (get_or_default lists k [] (set_at w.sets n) below ∙ e)

pub count_left : (setting : Setting) (wi ws : Walked) (found : List Found) (at p n : ℕ) → IsSetting setting wi ws → IsRunOf setting wi ws found at p → IsAbove (λ (f : Found). f.left) found n → n ≡ length wi.sets
count_left setting wi ws found at p n set run above =
    count_side wi (lefts (rows_in wi.sets ws.sets found)) found (λ (f : Found). f.left) n set.imp_walk run.left_sets (length-map (rows_in wi.sets ws.sets found) (λ (r : Row). r.left) ∙ rows_length wi.sets ws.sets found)
    (rw (rows_length wi.sets ws.sets found) at run.search.some)
    (λ k below. ((run.nodes k _ below).0, left_at k below)) above
  where
    left_at : (k : ℕ) → k < length found → set_at (lefts (rows_in wi.sets ws.sets found)) k ≡ set_at wi.sets (found_at found k).left
    left_at k below =
        get_or-map (λ (r : Row). r.left) (rows_in wi.sets ws.sets found) k _ [] (rw (rows_length wi.sets ws.sets found) below) ∙ ap (λ (r : Row). r.left) (row_in_at wi.sets ws.sets found k below)

pub count_right : (setting : Setting) (wi ws : Walked) (found : List Found) (at p n : ℕ) → IsSetting setting wi ws → IsRunOf setting wi ws found at p → IsAbove (λ (f : Found). f.right) found n → n ≡ length ws.sets
count_right setting wi ws found at p n set run above =
    count_side ws (rights (rows_in wi.sets ws.sets found)) found (λ (f : Found). f.right) n set.spec_walk run.right_sets (length-map (rows_in wi.sets ws.sets found) (λ (r : Row). r.right) ∙ rows_length wi.sets ws.sets found)
    (rw (rows_length wi.sets ws.sets found) at run.search.some)
    (λ k below. ((run.nodes k _ below).1, right_at k below)) above
  where
    right_at : (k : ℕ) → k < length found → set_at (rights (rows_in wi.sets ws.sets found)) k ≡ set_at ws.sets (found_at found k).right
    right_at k below =
        get_or-map (λ (r : Row). r.right) (rows_in wi.sets ws.sets found) k _ [] (rw (rows_length wi.sets ws.sets found) below) ∙ ap (λ (r : Row). r.right) (row_in_at wi.sets ws.sets found k below)

-- the search is over: the relation of its pairs
pub conformance : (setting : Setting) (wi ws : Walked) (found : List Found) (at p : ℕ) (relation : Relation) → IsSetting setting wi ws → IsRunOf setting wi ws found at p → length found ≤ at →
    relation.left ≡ wi.sets → relation.right ≡ ws.sets → relation.pairs ≡ map nodes_of found → IsConformance setting.mode (limits_of setting.most_pairs wi ws) wi.system ws.system relation
conformance setting wi ws found at p relation set run over left right pairs =
    record {
      conforming = no_violation setting.mode wi.system ws.system (rows_in wi.sets ws.sets found) run.traces at p set.spec_walk.system run.search over_rows;
      reached = (run.traces, rw same (reached_pairs setting.mode wi.system ws.system (rows_in wi.sets ws.sets found) run.traces at p set.spec_walk.system run.search over_rows));
      within = rw same (rw whole at (run.within (length found) (omega arith)));
      left = rw (same, left) run.left_sets;
      right = rw (same, right) run.right_sets;
      valid = rw same (valid_pairs setting.mode wi.system ws.system (rows_in wi.sets ws.sets found) run.traces at p set.spec_walk.system run.search over_rows);
    }
  where
    same : rows_of relation ≡ rows_in wi.sets ws.sets found
    same = rw (left, right, pairs) (map-map (row_of wi.sets ws.sets) nodes_of found)

    over_rows : length (rows_in wi.sets ws.sets found) ≤ at
    over_rows = rw (rows_length wi.sets ws.sets found) over

    whole : take (length found) (rows_in wi.sets ws.sets found) ≡ rows_in wi.sets ws.sets found
    whole = take_all (length found) (rows_in wi.sets ws.sets found) (rw (rows_length wi.sets ws.sets found) (omega arith))

-- ---- the steps that were taken

-- no step was taken, and no pair is needed
pub paid_none : (mode : Mode) (pairs : ℕ) (wi ws : Walked) (steps : ℕ) → IsPaid mode pairs wi ws steps steps
paid_none mode pairs wi ws steps = (
  [],
  [],
  record {
    first = record {
      long = refl;
      least = λ k below. absurd (omega (arith, below));
      rising = λ j k less below. absurd (omega (arith, below));
      others = λ σ row by. inr (λ k below. absurd (omega (arith, below)));
    };
    within = record { pairs = omega arith; imp = omega arith; spec = omega arith };
    fine = λ k below. absurd (omega (arith, below));
    bound = omega arith;
  },
)

pub paid : (setting : Setting) (wi ws : Walked) (found : List Found) (at p before after : ℕ) → IsSetting setting wi ws → IsRunOf setting wi ws found at p → at ≤ length found →
    after ≤ before + 2 * ((at + 1) * (setting.inputs + setting.outputs + 1)) → IsPaid setting.mode setting.most_pairs wi ws before after
paid setting wi ws found at p before after set run few spent = (
  rows_in wi.sets ws.sets found,
  run.traces,
  record {
    first = run.search.first;
    within = rw whole at (run.within (length found) (omega arith));
    fine = run.search.fine;
    bound = rw (rows_length wi.sets ws.sets found, set.spec_inputs, set.spec_outputs) (omega (arith, spent, mul-le (at + 1) (setting.inputs + setting.outputs + 1) (length found + 1) (setting.inputs + setting.outputs + 1) (omega (arith, few)) (omega arith)));
  },
)
  where
    whole : take (length found) (rows_in wi.sets ws.sets found) ≡ rows_in wi.sets ws.sets found
    whole = take_all (length found) (rows_in wi.sets ws.sets found) (rw (rows_length wi.sets ws.sets found) (omega arith))

pub paid_more : (items at before between after : ℕ) → between ≤ before + 2 * (at * items) → after ≤ between + 2 * items → after ≤ before + 2 * ((at + 1) * items)
paid_more items at before between after spent more = omega (arith, spent, more)

-- a call for one pair ended the search
pub paid_exit : (setting : Setting) (wi wi' ws ws' : Walked) (found : List Found) (at p before between after : ℕ) → IsSetting setting wi ws → IsRunOf setting wi ws found at p → Grows wi wi' → Grows ws ws' → at < length found →
    between ≤ before + 2 * (at * (setting.inputs + setting.outputs + 1)) → after ≤ between + 2 * (setting.inputs + setting.outputs + 1) →
    IsPaid setting.mode setting.most_pairs wi' ws' before after
paid_exit setting wi wi' ws ws' found at p before between after set run imp spec within spent more =
    rw (imp.system, imp.limit, spec.system, spec.limit) (paid setting wi ws found at p before after set run (omega (arith, within)) (paid_more _ at before between after spent more))

-- all pairs have been looked at
pub paid_end : (setting : Setting) (wi ws : Walked) (found : List Found) (at p before after : ℕ) → IsSetting setting wi ws → IsRunOf setting wi ws found at p → at ≤ length found →
    after ≤ before + 2 * (at * (setting.inputs + setting.outputs + 1)) → IsPaid setting.mode setting.most_pairs wi ws before after
paid_end setting wi ws found at p before after set run within spent =
    paid setting wi ws found at p before after set run within (paid_more (setting.inputs + setting.outputs + 1) at before after after spent (omega arith))

-- ---- the steps by the walks' own counts

pub few_none : (mode : Mode) (pairs : ℕ) (wi ws : Walked) (a b : ℕ) → ArePaid mode pairs wi ws a a b b
few_none mode pairs wi ws a b = (0, 0, (0, refl), (0, refl), paid_none mode pairs wi ws 0)

pub few_exit : (setting : Setting) (wi wi' ws ws' : Walked) (found : List Found) (at p a a' a'' b b' b'' : ℕ) → IsSetting setting wi ws → IsRunOf setting wi ws found at p → Grows wi wi' → Grows ws ws' → at < length found →
    TookBoth a a' b b' (2 * (at * (setting.inputs + setting.outputs + 1))) → TookBoth a' a'' b' b'' (2 * (setting.inputs + setting.outputs + 1)) →
    ArePaid setting.mode setting.most_pairs wi' ws' a a'' b b''
few_exit setting wi wi' ws ws' found at p a a' a'' b b' b'' set run imp spec within (m, n, left, right, low) (m', n', left', right', low') = (
  m + m',
  n + n',
  Took-trans a a' a'' m m' left left',
  Took-trans b b' b'' n n' right right',
  paid_exit setting wi wi' ws ws' found at p 0 (m + n) (m + m' + (n + n')) set run imp spec within (omega (arith, low)) (omega (arith, low')),
)

pub few_end : (setting : Setting) (wi ws : Walked) (found : List Found) (at p a a' b b' : ℕ) → IsSetting setting wi ws → IsRunOf setting wi ws found at p → at ≤ length found →
    TookBoth a a' b b' (2 * (at * (setting.inputs + setting.outputs + 1))) → ArePaid setting.mode setting.most_pairs wi ws a a' b b'
few_end setting wi ws found at p a a' b b' set run within (m, n, left, right, low) =
    (m, n, left, right, paid_end setting wi ws found at p 0 (m + n) set run within (omega (arith, low)))

-- the way to the end gets shorter
pub nearer : (setting : Setting) (wi ws : Walked) (found : List Found) (at p : ℕ) → IsRunOf setting wi ws found at p → at < length found → setting.most_pairs - (at + 1) < setting.most_pairs - at
nearer setting wi ws found at p run within = omega (arith, within, few_pairs setting wi ws found at p run)

-- ---- the opening pair was tested

pub opening_newest : (setting : Setting) (wi ws : Walked) (old : List Found) (f : Found) → IsFresh wi → IsFresh ws → f.left < length wi.sets → f.right < length ws.sets → f.from ≡ 0 → f.depth ≡ 0 → 0 < setting.most_pairs →
    old ≡ [] → IsNewest setting wi ws (old ++ f ∷ [])
opening_newest setting wi ws old f imp spec left right from depth some none =
    rw none (opening_untested setting.mode setting.most_pairs wi ws f imp spec left right from depth some)

pub opening_tested : (setting : Setting) (wi ws : Walked) (old new : List Found) (f : Found) (answer : Option Answer) → IsFresh wi → IsFresh ws → f.left < length wi.sets → f.right < length ws.sets → f.from ≡ 0 → f.depth ≡ 0 → 0 < setting.most_pairs →
    old ≡ [] → answer ≡ None → IsTested setting wi ws old f new answer → IsRunOf setting wi ws new 0 0
opening_tested setting wi ws old new f answer imp spec left right from depth some none is tested =
    let (grown, fine, few) = rw (none, is) at tested in
    rw grown (opening_run setting.mode setting.most_pairs wi ws f imp spec left right from depth some fine)

-- ---- the end of a search, said of the walks as they were

pub answer_before : (setting : Setting) (wi wi' ws ws' : Walked) (answer : Answer) → Grows wi wi' → Grows ws ws' → IsAnswer setting wi' ws' answer → IsAnswer setting wi ws answer
answer_before setting wi wi' ws ws' answer imp spec is = rw (imp.system, imp.limit, spec.system, spec.limit) at is

pub paid_before : (mode : Mode) (pairs : ℕ) (wi wi' ws ws' : Walked) (before after : ℕ) → Grows wi wi' → Grows ws ws' → IsPaid mode pairs wi' ws' before after → IsPaid mode pairs wi ws before after
paid_before mode pairs wi wi' ws ws' before after imp spec is = rw (imp.system, imp.limit, spec.system, spec.limit) at is

pub few_before : (mode : Mode) (pairs : ℕ) (wi wi' ws ws' : Walked) (a a' b b' : ℕ) → Grows wi wi' → Grows ws ws' → ArePaid mode pairs wi' ws' a a' b b' → ArePaid mode pairs wi ws a a' b b'
few_before mode pairs wi wi' ws ws' a a' b b' imp spec (m, n, left, right, is) = (m, n, left, right, paid_before mode pairs wi wi' ws ws' 0 (m + n) imp spec is)

-- a search that ended without an answer: the relation of its pairs is there, and they are so many
pub counted : (setting : Setting) (wi wi' ws ws' : Walked) (found : List Found) → IsSetting setting wi' ws' → IsRunOf setting wi' ws' found (length found) 0 → Grows wi wi' → Grows ws ws' →
    IsSettled setting.mode (limits_of setting.most_pairs wi ws) wi.system ws.system (Counted (length found))
counted setting wi wi' ws ws' found set run imp spec =
    let relation : Relation = record { left = wi'.sets; right = ws'.sets; pairs = map nodes_of found } in (
      Conforms relation,
      answer_before setting wi wi' ws ws' (Conforms relation) imp spec (conformance setting wi' ws' found (length found) 0 relation set run (omega arith) refl refl refl),
      ap (λ (n : ℕ). Counted n) (sym (length-map found nodes_of)),
    )

pub told : (setting : Setting) (wi wi' ws ws' : Walked) (answer : Answer) (verdict : Verdict) → Grows wi wi' → Grows ws ws' → IsAnswer setting wi' ws' answer → verdict ≡ told_of answer →
    IsSettled setting.mode (limits_of setting.most_pairs wi ws) wi.system ws.system verdict
told setting wi wi' ws ws' answer verdict imp spec is e = (answer, answer_before setting wi wi' ws ws' answer imp spec is, e)
