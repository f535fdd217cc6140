-- There is one right answer of a decision, but for the lists of a relation.
use Rattle.std.proofs.Common.{ℕ, zero, suc, ◌+◌, ◌-◌, ◌<◌, ◌≤◌, ◌≡◌, List, [], ◌∷◌, ◌++◌, length, take, drop, refl, sym, ap, subst, ◌∙◌, inl, inr, arith}
use Rattle.std.proofs.lemmas.Bool.{cases_lt}
use Rattle.std.proofs.lemmas.List.{append-nil, append_assoc, length-append, length-map, length-take-le, get_or-take, get_or_default, ext_get_or, map-append, take-append-drop}
use Rattle.lts_base.specs.declared.item.Item.{Item}
use Rattle.lts_base.specs.declared.item.Mode.{Mode}
use Rattle.lts_base.specs.declared.relation.Relation.{Relation}
use Rattle.lts_base.specs.System.{System, IsSystem, IsItemOf, label_count}
use Rattle.lts_base.specs.After.{ShowsAfter}
use Rattle.lts_base.specs.Order.{place, IsAtMost, IsFirstViolation}
use Rattle.lts_base.specs.Reached.{Row, no_row, row_at, trace_at, lefts, rights, with_new, distinct, total_members, IsReachedBy, AreFirstPairs, AreReachedPairs, Limits, IsWithin}
use Rattle.lts_base.specs.Related.{row_of, rows_of}
use Rattle.lts_base.proofs.ListLaws.{snoc_induction, Contains-first}
use Rattle.lts_base.proofs.OrderLaws.{IsBefore-trans, IsBefore-irreflexive, IsBefore-at_most, IsAtMost-trans}
use Rattle.lts_base.proofs.SetLaws.{Shows-item, ShowsAfter-from_shows, Shows-from_after}
use Rattle.lts_base.proofs.DistinctLaws.{contains_cases, with_new-there, with_new-absent, distinct-push, total_members-push}
use Rattle.conf_decide.specs.declared.answer.Answer.{Answer}
use Rattle.conf_decide.specs.declared.answer.Answer.TheVariants.{Conforms, Violates, Undecided}
use Rattle.conf_decide.specs.declared.answer.What.{What}
use Rattle.conf_decide.specs.declared.answer.What.TheVariants.{Pairs, ImpMembers, SpecMembers}
use Rattle.conf_decide.specs.Decided.{IsPast, last_trace, IsUncut, IsCut, IsConformance, IsDecided}
use Rattle.conf_decide.proofs.SearchLaws.{reached_unique, place_injective}

-- ---- the first violation

-- traces of which each is at most the other are the same
pub trace_once : (n : ℕ) (σ τ : List Item) → IsAtMost n σ τ → IsAtMost n τ σ → σ ≡ τ
trace_once n σ τ (inl same) other = same
trace_once n σ τ (inr before) (inl same) = sym same
trace_once n σ τ (inr before) (inr after) = absurd (IsBefore-irreflexive n σ (IsBefore-trans n σ τ σ before after))

-- what is shown after a trace is an item of the alphabet
shown_item : (i : System) (σ : List Item) (x : Item) → IsSystem i → ShowsAfter i σ x → IsItemOf i x
shown_item i σ x sound (q, ends, gives) = Shows-item i (q ∷ []) x sound (q, Contains-first q [], gives)

-- there is one first violation
pub first_once : (mode : Mode) (i s : System) (σ τ : List Item) (x y : Item) → IsSystem i → label_count i ≡ label_count s →
    IsFirstViolation mode i s σ x → IsFirstViolation mode i s τ y → (σ ≡ τ) × (x ≡ y)
first_once mode i s σ τ x y sound same one other =
    let trace : σ ≡ τ = trace_once (label_count s) σ τ (one.trace τ y other.violation) (other.trace σ x one.violation) in
    let here : IsFirstViolation mode i s τ x = subst (λ (ρ : List Item). IsFirstViolation mode i s ρ x) trace one in
    let up = here.item y other.violation in
    let down = other.item x here.violation in
    let places : place (label_count s) x ≡ place (label_count s) y = omega (arith, up, down) in
    let item : x ≡ y = place_injective i x y (shown_item i τ x sound here.violation.shown) (shown_item i τ y sound other.violation.shown) (rw same places) in
    (trace, item)

-- ---- two lists of first pairs

-- the lists have one trace and one row at this number
pub record MeetAt (rows : List Row) (ts : List (List Item)) (rows' : List Row) (ts' : List (List Item)) (k : ℕ) : Type 0 where
  pub trace : trace_at ts k ≡ trace_at ts' k
  pub row : row_at rows k ≡ row_at rows' k

module _ (mode : Mode) (i s : System) where
  -- no pair stands twice
  rows_differ : (rows : List Row) (ts : List (List Item)) (j k : ℕ) → AreFirstPairs mode i s rows ts → j < k → k < length rows → row_at rows j ≡ row_at rows k → ⊥
  rows_differ rows ts j k first less below same =
      let by : IsReachedBy mode i s (trace_at ts j) (row_at rows k) = subst (λ (row : Row). IsReachedBy mode i s (trace_at ts j) row) same (first.least j (omega (arith, less, below))).reached in
      let back : IsAtMost (label_count s) (trace_at ts k) (trace_at ts j) = (first.least k below).least (trace_at ts j) by in
      IsBefore-irreflexive (label_count s) (trace_at ts j) (IsBefore-at_most (label_count s) (trace_at ts j) (trace_at ts k) (trace_at ts j) (first.rising j k less below) back)

  -- the traces rise
  rises : (rows : List Row) (ts : List (List Item)) (j k : ℕ) → AreFirstPairs mode i s rows ts → j ≤ k → k < length rows → IsAtMost (label_count s) (trace_at ts j) (trace_at ts k)
  rises rows ts j k first most below = elim (cases_lt j k) [
    | inl less ↦ inr (first.rising j k less below)
    | inr over ↦ let e : j ≡ k = omega (arith, most, over) in inl (ap (trace_at ts) e)
  ]

  -- where the lists meet so far, the next trace of the one is at most that of the other
  next_at_most : (rows : List Row) (ts : List (List Item)) (rows' : List Row) (ts' : List (List Item)) (k : ℕ) → AreFirstPairs mode i s rows ts → AreFirstPairs mode i s rows' ts' →
      k < length rows → k < length rows' → ((j : ℕ) → j < k → row_at rows j ≡ row_at rows' j) → IsAtMost (label_count s) (trace_at ts' k) (trace_at ts k)
  next_at_most rows ts rows' ts' k one two below below' meet = elim (two.others (trace_at ts k) (row_at rows k) (one.least k below).reached) [
    | inr later ↦ inr (later k below')
    | inl (j, inside, is) ↦
        let at : row_at rows' j ≡ row_at rows k = get_or_default rows' j no_row (row_at rows k) inside ∙ is in
        elim (cases_lt j k) [
          | inl earlier ↦ absurd (rows_differ rows ts j k one earlier below (meet j earlier ∙ at))
          | inr late ↦
              let by : IsReachedBy mode i s (trace_at ts k) (row_at rows' j) = subst (λ (row : Row). IsReachedBy mode i s (trace_at ts k) row) (sym at) (one.least k below).reached in
              IsAtMost-trans (label_count s) (trace_at ts' k) (trace_at ts' j) (trace_at ts k) (rises rows' ts' k j two late inside) ((two.least j inside).least (trace_at ts k) by)
        ]
  ]

  -- where the lists meet so far, they meet at the next number
  meet_next : (rows : List Row) (ts : List (List Item)) (rows' : List Row) (ts' : List (List Item)) (k : ℕ) → AreFirstPairs mode i s rows ts → AreFirstPairs mode i s rows' ts' →
      k < length rows → k < length rows' → ((j : ℕ) → j < k → row_at rows j ≡ row_at rows' j) → MeetAt rows ts rows' ts' k
  meet_next rows ts rows' ts' k one two below below' meet =
      let same : trace_at ts k ≡ trace_at ts' k = trace_once (label_count s) (trace_at ts k) (trace_at ts' k)
      (next_at_most rows' ts' rows ts k two one below' below (λ j less. sym (meet j less)))
      (next_at_most rows ts rows' ts' k one two below below' meet) in
      let by : IsReachedBy mode i s (trace_at ts' k) (row_at rows k) = subst (λ (σ : List Item). IsReachedBy mode i s σ (row_at rows k)) same (one.least k below).reached in
      record { trace = same; row = reached_unique mode i s (trace_at ts' k) (row_at rows k) (row_at rows' k) by (two.least k below').reached }

  -- the lists meet at all numbers that both have
  meet_below : (n : ℕ) (rows : List Row) (ts : List (List Item)) (rows' : List Row) (ts' : List (List Item)) → AreFirstPairs mode i s rows ts → AreFirstPairs mode i s rows' ts' →
      (k : ℕ) → k < n → k < length rows → k < length rows' → MeetAt rows ts rows' ts' k
  meet_below zero rows ts rows' ts' one two k less below below' = absurd (omega (arith, less))
  meet_below (suc n) rows ts rows' ts' one two k less below below' =
      meet_next rows ts rows' ts' k one two below below' (λ j before. (meet_below n rows ts rows' ts' one two j (omega (arith, before, less)) (omega (arith, before, below)) (omega (arith, before, below'))).row)

  pub first_pairs_meet : (rows : List Row) (ts : List (List Item)) (rows' : List Row) (ts' : List (List Item)) → AreFirstPairs mode i s rows ts → AreFirstPairs mode i s rows' ts' →
      (k : ℕ) → k < length rows → k < length rows' → MeetAt rows ts rows' ts' k
  first_pairs_meet rows ts rows' ts' one two k below below' = meet_below (k + 1) rows ts rows' ts' one two k (omega arith) below below'

  -- the shorter list is a front of the longer one
  pub front_is : (rows : List Row) (ts : List (List Item)) (rows' : List Row) (ts' : List (List Item)) → AreFirstPairs mode i s rows ts → AreFirstPairs mode i s rows' ts' → length rows' ≤ length rows →
      take (length rows') rows ≡ rows'
  front_is rows ts rows' ts' one two short =
      ext_get_or no_row (take (length rows') rows) rows' count
      (λ k below.
      let inside : k < length rows' = rw count at below in
      get_or-take (length rows') rows k no_row inside ∙ (first_pairs_meet rows ts rows' ts' one two k (omega (arith, inside, short)) inside).row)
    where
      count : length (take (length rows') rows) ≡ length rows'
      count = length-take-le (length rows') rows short

  -- no list of first pairs is longer than that of all pairs
  no_longer : (rows : List Row) (ts : List (List Item)) (rows' : List Row) (ts' : List (List Item)) → AreReachedPairs mode i s rows ts → AreFirstPairs mode i s rows' ts' → length rows' ≤ length rows
  no_longer rows ts rows' ts' one two = elim (cases_lt (length rows) (length rows')) [
    | inr most ↦ most
    | inl less ↦
        let (j, inside, is) = one.all (trace_at ts' (length rows)) (row_at rows' (length rows)) (two.least (length rows) less).reached in
        let at : row_at rows j ≡ row_at rows' (length rows) = get_or_default rows j no_row (row_at rows' (length rows)) inside ∙ is in
        let meets = first_pairs_meet rows ts rows' ts' one.first two j inside (omega (arith, inside, less)) in
        absurd (rows_differ rows' ts' j (length rows) two inside less (sym meets.row ∙ at))
  ]

-- ---- limits

-- one set more adds members, or none
members_with_new : (seen : List (List ℕ)) (x : List ℕ) → total_members seen ≤ total_members (with_new seen x)
members_with_new seen x = elim (contains_cases seen x) [
  | inl there ↦ rw (with_new-there seen x there) (omega arith)
  | inr absent ↦ rw (with_new-absent seen x absent, total_members-push seen x) (omega arith)
]

-- the distinct sets of a front have no more members
members_front : (xs ys : List (List ℕ)) → total_members (distinct xs) ≤ total_members (distinct (xs ++ ys))
members_front xs ys = snoc_induction (λ (zs : List (List ℕ)). total_members (distinct xs) ≤ total_members (distinct (xs ++ zs))) (rw (append-nil xs) (omega arith)) more ys
  where
    more : (zs : List (List ℕ)) (z : List ℕ) → total_members (distinct xs) ≤ total_members (distinct (xs ++ zs)) → total_members (distinct xs) ≤ total_members (distinct (xs ++ (zs ++ z ∷ [])))
    more zs z before =
        let grown = members_with_new (distinct (xs ++ zs)) z in
        rw (← append_assoc xs zs (z ∷ []), distinct-push (xs ++ zs) z) (omega (arith, before, grown))

-- a front of rows that are within the limits is within them
within_front : (limits : Limits) (front more : List Row) → IsWithin limits (front ++ more) → IsWithin limits front
within_front limits front more within = record {
  pairs = let few = within.pairs in omega (arith, few, length-append front more);
  imp =
      let less = members_front (lefts front) (lefts more) in
      let few : total_members (distinct (lefts front ++ lefts more)) ≤ limits.imp = rw (map-append (λ (r : Row). r.left) front more) at within.imp in
      omega (arith, less, few);
  spec =
      let less = members_front (rights front) (rights more) in
      let few : total_members (distinct (rights front ++ rights more)) ≤ limits.spec = rw (map-append (λ (r : Row). r.right) front more) at within.spec in
      omega (arith, less, few);
}

-- rows that are within the limits pass none
none_past : (limits : Limits) (rows : List Row) (what : What) (reached : ℕ) → IsWithin limits rows → IsPast limits rows what reached → ⊥
none_past limits rows ImpMembers reached within (is, over) = omega (arith, is, over, within.imp)
none_past limits rows SpecMembers reached within (low, is, over) = omega (arith, is, over, within.spec)
none_past limits rows Pairs reached within (low, fair, over, is) = omega (arith, over, within.pairs)

-- rows pass one limit first
past_once : (limits : Limits) (rows : List Row) (what what' : What) (reached reached' : ℕ) → IsPast limits rows what reached → IsPast limits rows what' reached' → (what ≡ what') × (reached ≡ reached')
past_once limits rows ImpMembers ImpMembers reached reached' (is, over) (is', over') = (refl, is ∙ sym is')
past_once limits rows ImpMembers SpecMembers reached reached' (is, over) (low, is', over') = absurd (omega (arith, is, over, low))
past_once limits rows ImpMembers Pairs reached reached' (is, over) (low, fair, over', is') = absurd (omega (arith, is, over, low))
past_once limits rows SpecMembers ImpMembers reached reached' (low, is, over) (is', over') = absurd (omega (arith, is', over', low))
past_once limits rows SpecMembers SpecMembers reached reached' (low, is, over) (low', is', over') = (refl, is ∙ sym is')
past_once limits rows SpecMembers Pairs reached reached' (low, is, over) (low', fair, over', is') = absurd (omega (arith, is, over, fair))
past_once limits rows Pairs ImpMembers reached reached' (low, fair, over, is) (is', over') = absurd (omega (arith, is', over', low))
past_once limits rows Pairs SpecMembers reached reached' (low, fair, over, is) (low', is', over') = absurd (omega (arith, is', over', fair))
past_once limits rows Pairs Pairs reached reached' (low, fair, over, is) (low', fair', over', is') = (refl, is ∙ sym is')

-- ---- two right answers

module _ (mode : Mode) (limits : Limits) (i s : System) where
  -- first pairs that are no more than others within the limits are within them
  within_shorter : (rows : List Row) (ts : List (List Item)) (rows' : List Row) (ts' : List (List Item)) → AreFirstPairs mode i s rows ts → AreFirstPairs mode i s rows' ts' →
      length rows' ≤ length rows → IsWithin limits rows → IsWithin limits rows'
  within_shorter rows ts rows' ts' one two short within =
      let front = front_is mode i s rows ts rows' ts' one two short in
      let whole : rows' ++ drop (length rows') rows ≡ rows = rw front at (take-append-drop (length rows') rows) in
      within_front limits rows' (drop (length rows') rows) (subst (IsWithin limits) (sym whole) within)

  -- the number of a relation's pairs is that of its rows
  pairs_length : (relation : Relation) → length (rows_of relation) ≡ length relation.pairs
  pairs_length relation = length-map relation.pairs (row_of relation.left relation.right)

  -- two relations have as many pairs
  conforms_once : (one two : Relation) → IsConformance mode limits i s one → IsConformance mode limits i s two → length one.pairs ≡ length two.pairs
  conforms_once one two h g =
      let (ts, all) = h.reached in
      let (ts', all') = g.reached in
      let up = no_longer mode i s (rows_of one) ts (rows_of two) ts' all all'.first in
      let down = no_longer mode i s (rows_of two) ts' (rows_of one) ts all' all.first in
      omega (arith, up, down, pairs_length one, pairs_length two)

  -- where all reached pairs are within the limits, no limit is passed
  conforms_uncut : (relation : Relation) (what : What) (reached depth : ℕ) → IsConformance mode limits i s relation → IsDecided mode limits i s (Undecided what reached depth) → ⊥
  conforms_uncut relation what reached depth h (rows, ts, cut) =
      let (all_ts, all) = h.reached in
      let short = no_longer mode i s (rows_of relation) all_ts rows ts all cut.first in
      none_past limits rows what reached (within_shorter (rows_of relation) all_ts rows ts all.first cut.first short h.within) cut.past

  -- the pair of sets after a violating trace isn't fine
  not_fine : (trace : List Item) (shown : Item) (rows : List Row) (ts : List (List Item)) (rows' : List Row) (ts' : List (List Item)) (what : What) (reached depth : ℕ) →
      IsFirstViolation mode i s trace shown → IsUncut mode limits i s trace rows ts → IsCut mode limits i s what reached depth rows' ts' → length rows < length rows' → ⊥
  not_fine trace shown rows ts rows' ts' what reached depth first uncut cut less =
      let last = length rows - 1 in
      let some = uncut.some in
      let below : last < length rows = omega (arith, some) in
      let below' : last < length rows' = omega (arith, below, less) in
      let meets = first_pairs_meet mode i s rows ts rows' ts' uncut.first cut.first last below below' in
      let same : trace_at ts last ≡ trace = ap (λ (n : ℕ). trace_at ts (n - 1)) (sym uncut.first.long) ∙ uncut.last in
      let by : IsReachedBy mode i s trace (row_at rows' last) = subst (λ (σ : List Item). IsReachedBy mode i s σ (row_at rows' last)) (sym meets.trace ∙ same) (cut.first.least last below').reached in
      let shows = cut.fine last (omega (arith, some, less)) shown (Shows-from_after i trace (row_at rows' last).left shown by.left first.violation.shown) in
      first.violation.unshown (ShowsAfter-from_shows s trace (row_at rows' last).right shown by.right shows)

  -- where a violation is met within the limits, no limit is passed before
  violates_uncut : (trace : List Item) (shown : Item) (what : What) (reached depth : ℕ) → IsDecided mode limits i s (Violates trace shown) → IsDecided mode limits i s (Undecided what reached depth) → ⊥
  violates_uncut trace shown what reached depth (first, (rows, ts, uncut)) (rows', ts', cut) = elim (cases_lt (length rows) (length rows')) [
    | inl less ↦ not_fine trace shown rows ts rows' ts' what reached depth first uncut cut less
    | inr most ↦ none_past limits rows' what reached (within_shorter rows ts rows' ts' uncut.first cut.first most uncut.within) cut.past
  ]

  -- no cut is later than another
  cut_no_later : (rows : List Row) (ts : List (List Item)) (rows' : List Row) (ts' : List (List Item)) (what what' : What) (reached reached' depth depth' : ℕ) →
      IsCut mode limits i s what reached depth rows ts → IsCut mode limits i s what' reached' depth' rows' ts' → length rows' ≤ length rows
  cut_no_later rows ts rows' ts' what what' reached reached' depth depth' one two = elim (cases_lt (length rows) (length rows')) [
    | inr most ↦ most
    | inl less ↦
        let front : take (length rows) rows' ≡ rows = front_is mode i s rows' ts' rows ts two.first one.first (omega (arith, less)) in
        absurd (none_past limits rows what reached (subst (IsWithin limits) front (two.before (length rows) less)) one.past)
  ]

  -- two cuts tell of the same limit at the same depth
  undecided_once : (what what' : What) (reached reached' depth depth' : ℕ) → IsDecided mode limits i s (Undecided what reached depth) → IsDecided mode limits i s (Undecided what' reached' depth') →
      (what ≡ what') × (reached ≡ reached') × (depth ≡ depth')
  undecided_once what what' reached reached' depth depth' (rows, ts, one) (rows', ts', two) = (past.0, past.1, one.cut ∙ ap length traces ∙ sym two.cut)
    where
      count : length rows ≡ length rows'
      count =
          let up = cut_no_later rows ts rows' ts' what what' reached reached' depth depth' one two in
          let down = cut_no_later rows' ts' rows ts what' what reached' reached depth' depth two one in
          omega (arith, up, down)

      same : rows ≡ rows'
      same = ext_get_or no_row rows rows' count (λ k below. (first_pairs_meet mode i s rows ts rows' ts' one.first two.first k below (rw count at below)).row)

      past : (what ≡ what') × (reached ≡ reached')
      past = past_once limits rows what what' reached reached' one.past (subst (λ (pairs : List Row). IsPast limits pairs what' reached') (sym same) two.past)

      long : length ts ≡ length ts'
      long = one.first.long ∙ count ∙ sym two.first.long

      traces : last_trace ts ≡ last_trace ts'
      traces = ap last_trace (ext_get_or [] ts ts' long (λ k below.
          (first_pairs_meet mode i s rows ts rows' ts' one.first two.first k (rw one.first.long at below) (rw (long, two.first.long) at below)).trace))

-- what an answer tells, but for the lists of a relation: of them the number of pairs
abbrev pub told : {X : Type 0} → (ℕ → X) → (List Item → Item → X) → (What → ℕ → ℕ → X) → Answer → X
told conforms violates undecided (Conforms relation) = conforms (length relation.pairs)
told conforms violates undecided (Violates trace shown) = violates trace shown
told conforms violates undecided (Undecided what reached depth) = undecided what reached depth

-- two right answers tell the same
pub decided_once : {X : Type 0} (conforms : ℕ → X) (violates : List Item → Item → X) (undecided : What → ℕ → ℕ → X) (mode : Mode) (limits : Limits) (i s : System) (a b : Answer) →
    IsSystem s → IsSystem i → label_count i ≡ label_count s → IsDecided mode limits i s a → IsDecided mode limits i s b → told conforms violates undecided a ≡ told conforms violates undecided b
decided_once conforms violates undecided mode limits i s (Conforms one) (Conforms two) spec imp same f g = ap conforms (conforms_once mode limits i s one two f g)
decided_once conforms violates undecided mode limits i s (Conforms relation) (Violates trace shown) spec imp same f g = absurd (f.conforming trace shown g.0.violation)
decided_once conforms violates undecided mode limits i s (Conforms relation) (Undecided what reached depth) spec imp same f g = absurd (conforms_uncut mode limits i s relation what reached depth f g)
decided_once conforms violates undecided mode limits i s (Violates trace shown) (Conforms relation) spec imp same f g = absurd (g.conforming trace shown f.0.violation)
decided_once conforms violates undecided mode limits i s (Violates σ x) (Violates τ y) spec imp same f g =
    let once = first_once mode i s σ τ x y imp same f.0 g.0 in
    ap (λ (ρ : List Item). violates ρ x) once.0 ∙ ap (violates τ) once.1
decided_once conforms violates undecided mode limits i s (Violates trace shown) (Undecided what reached depth) spec imp same f g = absurd (violates_uncut mode limits i s trace shown what reached depth f g)
decided_once conforms violates undecided mode limits i s (Undecided what reached depth) (Conforms relation) spec imp same f g = absurd (conforms_uncut mode limits i s relation what reached depth g f)
decided_once conforms violates undecided mode limits i s (Undecided what reached depth) (Violates trace shown) spec imp same f g = absurd (violates_uncut mode limits i s trace shown what reached depth g f)
decided_once conforms violates undecided mode limits i s (Undecided what reached depth) (Undecided what' reached' depth') spec imp same f g =
    let (w, r, d) = undecided_once mode limits i s what what' reached reached' depth depth' f g in
    ap (λ (v : What). undecided v reached depth) w ∙ ap (λ (n : ℕ). undecided what' n depth) r ∙ ap (undecided what' reached') d
