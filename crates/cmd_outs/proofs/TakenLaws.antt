-- Which labels the members of a set take, move by move and state by state.
use Rattle.std.proofs.Common.{◌≡◌, ◌↔◌, ℕ, ◌+◌, ◌<◌, ◌≤◌, List, length, get_or, set, replicate, Bool, true, false, inl, inr, ◌⊎◌, refl, sym, ◌∙◌, ap, subst, arith, length-set}
use Rattle.std.proofs.lemmas.List.{get_or-set_same, get_or-set_other, get_or_default, get_or-replicate, length-replicate}
use Rattle.std.proofs.lemmas.Bool.{cases_eq, cases_lt, false≢true}
use Rattle.lts_base.specs.declared.action.Act.{Act}
use Rattle.lts_base.specs.declared.action.Act.TheVariants.{Tau, Label}
use Rattle.lts_base.specs.declared.action.Move.{Move}
use Rattle.lts_base.specs.declared.item.Item.TheVariants.{Input, Output}
use Rattle.lts_base.specs.declared.item.Mode.{Mode}
use Rattle.lts_base.specs.declared.item.Mode.TheVariants.{Ioco, Uioco}
use Rattle.lts_base.specs.After.{AllStableTake, Shows, Allows}
use Rattle.lts_base.specs.Built.{move_at}
use Rattle.lts_base.specs.System.{System, IsStable, Takes, AreMovesOf, label_count}
use Rattle.lts_base.proofs.Leads.{HasMove-from_parts}
use Rattle.lts_base.proofs.ListLaws.{below_next, none_contained}
use Rattle.state_sets.specs.Finds.{IsTakenIn}
use Rattle.cmd_outs.specs.Taken.{AreFlags, AreFronts, IsAdvanced, IsRisen, IsAmong, IsMarked, IsTakenBelow, HasToTake, AllTake, IsHeld}

-- ---- the moves of one state

-- the next move has the label, or the label is among the first moves already
among_cases : (ms : List Move) (j a : ℕ) (act : Act) → (move_at ms j).act ≡ act → IsAmong ms (j + 1) a → IsAmong ms j a ⊎ (act ≡ Label a)
among_cases ms j a act is (k, low, below, has) = elim (cases_lt k j) [
  | inl early ↦ inl (k, early, below, has)
  | inr late ↦
      let last : k ≡ j = omega (arith, low, late) in
      inr (sym is ∙ ap (λ n. (move_at ms n).act) (sym last) ∙ has)
]

among_more : (ms : List Move) (j a : ℕ) → IsAmong ms j a → IsAmong ms (j + 1) a
among_more ms j a (k, low, below, has) = (k, omega (arith, low), below, has)

among_here : (ms : List Move) (j a : ℕ) → j < length ms → (move_at ms j).act ≡ Label a → IsAmong ms (j + 1) a
among_here ms j a below has = (j, omega arith, below, has)

among_none : (ms : List Move) (a : ℕ) → ¬ IsAmong ms 0 a
among_none ms a (k, low, below, has) = omega (arith, low)

among_tau : (ms : List Move) (j a : ℕ) → (move_at ms j).act ≡ Tau → IsAmong ms (j + 1) a → IsAmong ms j a
among_tau ms j a tau h = elim (among_cases ms j a Tau tau h) [ inl early ↦ early | inr same ↦ absurd (cc same) ]

among_other : (ms : List Move) (j a b : ℕ) → (move_at ms j).act ≡ Label b → (a ≡ b → ⊥) → IsAmong ms (j + 1) a → IsAmong ms j a
among_other ms j a b label other h = elim (among_cases ms j a (Label b) label h) [ inl early ↦ early | inr same ↦ absurd (other (same_label a b same)) ]
  where
    same_label : (a b : ℕ) → Label b ≡ Label a → a ≡ b
    same_label a b e = cc

-- the labels of the state's moves are those that it takes
takes_among : (s : System) (q a n : ℕ) (ms : List Move) → AreMovesOf s q ms → length ms ≤ n → Takes s q a → IsAmong ms n a
takes_among s q a n ms are past (to, has) =
    let m : Move = record { from = q; act = Label a; to = to } in
    let (k, below, at) = are.all m refl has in
    (k, omega (arith, below, past), below, ap {A = Move} {B = Act} (λ (x : Move). x.act) (get_or_default ms k (record { from = 0; act = Tau; to = 0 }) m below ∙ at))

among_takes : (s : System) (q a n : ℕ) (ms : List Move) → AreMovesOf s q ms → IsAmong ms n a → Takes s q a
among_takes s q a n ms are (k, low, below, has) =
    let (from, inside) = are.each k (record { from = 0; act = Tau; to = 0 }) below in
    ((move_at ms k).to, HasMove-from_parts s (move_at ms k) q (Label a) from has inside)

-- a state with a move with Tau isn't stable
pub unstable : (s : System) (q j : ℕ) (ms : List Move) (d : Move) → AreMovesOf s q ms → j < length ms → (get_or ms j d).act ≡ Tau → ¬ IsStable s q
unstable s q j ms d are below tau stable =
    let (from, inside) = are.each j d below in
    stable (get_or ms j d).to (HasMove-from_parts s (get_or ms j d) q Tau from tau inside)

-- a state none of whose moves carries Tau is stable
pub stable_all : (s : System) (q n : ℕ) (ms : List Move) → AreMovesOf s q ms → length ms ≤ n → ((k : ℕ) (d : Move) → k < n → ¬ ((get_or ms k d).act ≡ Tau)) → IsStable s q
stable_all s q n ms are past none to has =
    let m : Move = record { from = q; act = Tau; to = to } in
    let (k, below, at) = are.all m refl has in
    none k m (omega (arith, below, past)) (ap {A = Move} {B = Act} (λ (x : Move). x.act) at)

-- ---- flags

pub flags_none : (s : System) (P : ℕ → Type 0) (n : ℕ) → n ≡ label_count s → ((a : ℕ) → ¬ P a) → AreFlags s P (replicate n false)
flags_none s P n long none = record {
  long = length-replicate {A = Bool} n false ∙ long;
  each = λ a low. (λ t. absurd (false≢true (sym (get_or-replicate {A = Bool} n a false false (omega (arith, low, long))) ∙ t)), λ h. absurd (none a h));
}

pub flags_same : (s : System) (P Q : ℕ → Type 0) (flags : List Bool) → ((a : ℕ) → P a → Q a) → ((a : ℕ) → Q a → P a) → AreFlags s P flags → AreFlags s Q flags
flags_same s P Q flags to from is = record {
  long = is.long;
  each = λ a low. (λ t. to a ((is.each a low).0 t), λ h. (is.each a low).1 (from a h));
}

pub mark_none : (s : System) (ms : List Move) (old : List Bool) → length old ≡ label_count s → AreFlags s (IsMarked (IsAmong ms 0) old) old
mark_none s ms old long = record { long = long; each = λ a low. (λ t. inl t, λ h. back a h) }
  where
    back : (a : ℕ) → IsMarked (IsAmong ms 0) old a → get_or old a false ≡ true
    back a (inl t) = t
    back a (inr among) = absurd (among_none ms a among)

pub mark_tau : (s : System) (ms : List Move) (j : ℕ) (old flags : List Bool) → (move_at ms j).act ≡ Tau → AreFlags s (IsMarked (IsAmong ms j) old) flags → AreFlags s (IsMarked (IsAmong ms (j + 1)) old) flags
mark_tau s ms j old flags tau is = flags_same s (IsMarked (IsAmong ms j) old) (IsMarked (IsAmong ms (j + 1)) old) flags to from is
  where
    to : (a : ℕ) → IsMarked (IsAmong ms j) old a → IsMarked (IsAmong ms (j + 1)) old a
    to a (inl t) = inl t
    to a (inr among) = inr (among_more ms j a among)

    from : (a : ℕ) → IsMarked (IsAmong ms (j + 1)) old a → IsMarked (IsAmong ms j) old a
    from a (inl t) = inl t
    from a (inr among) = inr (among_tau ms j a tau among)

pub mark_label : (s : System) (ms : List Move) (j b : ℕ) (old flags : List Bool) → j < length ms → (move_at ms j).act ≡ Label b → b < label_count s → AreFlags s (IsMarked (IsAmong ms j) old) flags →
    AreFlags s (IsMarked (IsAmong ms (j + 1)) old) (set flags b true)
mark_label s ms j b old flags below label inside is = record {
  long = length-set flags b true ∙ is.long;
  each = λ a low. elim (cases_eq a b) [
    | inl same ↦ (
      λ t. inr (rw same (among_here ms j b below label)),
      λ h. rw same (get_or-set_same flags b true false (omega (arith, inside, is.long))),
    )
    | inr other ↦ (
      λ t. to a ((is.each a low).0 (sym (get_or-set_other flags b a true false other) ∙ t)),
      λ h. get_or-set_other flags b a true false other ∙ (is.each a low).1 (from a other h),
    )
  ];
}
  where
    to : (a : ℕ) → IsMarked (IsAmong ms j) old a → IsMarked (IsAmong ms (j + 1)) old a
    to a (inl t) = inl t
    to a (inr among) = inr (among_more ms j a among)

    from : (a : ℕ) → (a ≡ b → ⊥) → IsMarked (IsAmong ms (j + 1)) old a → IsMarked (IsAmong ms j) old a
    from a other (inl t) = inl t
    from a other (inr among) = inr (among_other ms j a b label other among)

pub mark_all : (s : System) (q n : ℕ) (ms : List Move) (old flags : List Bool) → AreMovesOf s q ms → length ms ≤ n → AreFlags s (IsMarked (IsAmong ms n) old) flags → AreFlags s (IsMarked (Takes s q) old) flags
mark_all s q n ms old flags are past is = flags_same s (IsMarked (IsAmong ms n) old) (IsMarked (Takes s q) old) flags to from is
  where
    to : (a : ℕ) → IsMarked (IsAmong ms n) old a → IsMarked (Takes s q) old a
    to a (inl t) = inl t
    to a (inr among) = inr (among_takes s q a n ms are among)

    from : (a : ℕ) → IsMarked (Takes s q) old a → IsMarked (IsAmong ms n) old a
    from a (inl t) = inl t
    from a (inr takes) = inr (takes_among s q a n ms are past takes)

pub taken_none : (s : System) (ps : List ℕ) (a : ℕ) → ¬ IsTakenBelow s ps 0 a
taken_none s ps a (k, low, below, takes) = omega (arith, low)

-- one member more has been looked at
pub taken_more : (s : System) (ps : List ℕ) (i q : ℕ) (old new : List Bool) → i < length ps → q ≡ get_or ps i q → AreFlags s (IsTakenBelow s ps i) old → AreFlags s (IsMarked (Takes s q) old) new → AreFlags s (IsTakenBelow s ps (i + 1)) new
taken_more s ps i q old new below is before marked = record {
  long = marked.long;
  each = λ a low. (λ t. to a low ((marked.each a low).0 t), λ h. (marked.each a low).1 (from a low h));
}
  where
    here : q ≡ get_or ps i 0
    here = is ∙ get_or_default ps i q 0 below

    to : (a : ℕ) → a < label_count s → IsMarked (Takes s q) old a → IsTakenBelow s ps (i + 1) a
    to a low (inl t) = let (k, early, inside, takes) = (before.each a low).0 t in (k, omega (arith, early), inside, takes)
    to a low (inr takes) = (i, omega arith, below, subst (λ (p : ℕ). Takes s p a) here takes)

    from : (a : ℕ) → a < label_count s → IsTakenBelow s ps (i + 1) a → IsMarked (Takes s q) old a
    from a low (k, upto, inside, takes) = elim (cases_lt k i) [
      | inl early ↦ inl ((before.each a low).1 (k, early, inside, takes))
      | inr late ↦
          let last : k ≡ i = omega (arith, upto, late) in
          inr (subst (λ (p : ℕ). Takes s p a) (ap (λ n. get_or ps n 0) last ∙ sym here) takes)
    ]

pub taken_all : (s : System) (ps : List ℕ) (n : ℕ) (flags : List Bool) → length ps ≤ n → AreFlags s (IsTakenBelow s ps n) flags → AreFlags s (IsTakenIn s ps) flags
taken_all s ps n flags past is = flags_same s (IsTakenBelow s ps n) (IsTakenIn s ps) flags to from is
  where
    to : (a : ℕ) → IsTakenBelow s ps n a → IsTakenIn s ps a
    to a (k, low, inside, takes) = (get_or ps k 0, (k, inside, get_or_default ps k (get_or ps k 0) 0 inside), takes)

    from : (a : ℕ) → IsTakenIn s ps a → IsTakenBelow s ps n a
    from a (q, (k, inside, at), takes) =
        let here : q ≡ get_or ps k 0 = sym at ∙ get_or_default ps k q 0 inside in
        (k, omega (arith, inside, past), inside, subst (λ (p : ℕ). Takes s p a) here takes)

-- ---- fronts

pub fronts_none : (s : System) (P : ℕ → Type 0) (n : ℕ) → n ≡ label_count s → ((a : ℕ) → P a) → AreFronts s 0 P (replicate n 0)
fronts_none s P n long all = record {
  long = length-replicate {A = ℕ} n 0 ∙ long;
  within = λ a low. let zero = get_or-replicate {A = ℕ} n a 0 0 (omega (arith, low, long)) in omega (arith, zero);
  each = λ a low. (λ e. all a, λ h. get_or-replicate {A = ℕ} n a 0 0 (omega (arith, low, long)));
}

pub advance_none : (s : System) (n : ℕ) (ms : List Move) (old : List ℕ) → length old ≡ label_count s → IsAdvanced s n (IsAmong ms 0) old old
advance_none s n ms old long = record { long = long; each = λ a low. inr (λ h. among_none ms a h.0, refl) }

risen_tau : (n : ℕ) (ms : List Move) (j a old new : ℕ) → (IsAmong ms (j + 1) a → IsAmong ms j a) → IsRisen n (IsAmong ms j a) old new → IsRisen n (IsAmong ms (j + 1) a) old new
risen_tau n ms j a old new from (inl (among, at, up)) = inl (among_more ms j a among, at, up)
risen_tau n ms j a old new from (inr (none, same)) = inr (λ h. none (from h.0, h.1), same)

pub advance_tau : (s : System) (n : ℕ) (ms : List Move) (j : ℕ) (old new : List ℕ) → (move_at ms j).act ≡ Tau → IsAdvanced s n (IsAmong ms j) old new → IsAdvanced s n (IsAmong ms (j + 1)) old new
advance_tau s n ms j old new tau is = record { long = is.long; each = λ a low. risen_tau n ms j a (get_or old a 0) (get_or new a 0) (among_tau ms j a tau) (is.each a low) }

-- the label of the next move has risen already, or some state before lacks it
risen_stay : (n : ℕ) (ms : List Move) (j a old new : ℕ) → (new ≡ n → ⊥) → IsRisen n (IsAmong ms j a) old new → IsRisen n (IsAmong ms (j + 1) a) old new
risen_stay n ms j a old new other (inl (among, at, up)) = inl (among_more ms j a among, at, up)
risen_stay n ms j a old new other (inr (none, same)) = inr (λ h. other (same ∙ h.1), same)

pub advance_stay : (s : System) (n : ℕ) (ms : List Move) (j b : ℕ) (old new : List ℕ) → (move_at ms j).act ≡ Label b → (get_or new b 0 ≡ n → ⊥) → IsAdvanced s n (IsAmong ms j) old new → IsAdvanced s n (IsAmong ms (j + 1)) old new
advance_stay s n ms j b old new label stays is = record { long = is.long; each = each }
  where
    each : (a : ℕ) → a < label_count s → IsRisen n (IsAmong ms (j + 1) a) (get_or old a 0) (get_or new a 0)
    each a low = elim (cases_eq a b) [
      | inl same ↦ risen_stay n ms j a (get_or old a 0) (get_or new a 0) (λ e. stays (ap (λ k. get_or new k 0) (sym same) ∙ e)) (is.each a low)
      | inr other ↦ risen_tau n ms j a (get_or old a 0) (get_or new a 0) (among_other ms j a b label other) (is.each a low)
    ]

-- the label of the next move rises
risen_here : (n : ℕ) (ms : List Move) (j a old new : ℕ) → new ≡ n → IsAmong ms (j + 1) a → IsRisen n (IsAmong ms j a) old new → IsRisen n (IsAmong ms (j + 1) a) old (n + 1)
risen_here n ms j a old new at has (inl (among, was, up)) = absurd (omega (arith, at, up))
risen_here n ms j a old new at has (inr (none, same)) = inl (has, sym same ∙ at, refl)

pub advance_rise : (s : System) (n : ℕ) (ms : List Move) (j b : ℕ) (old new : List ℕ) → j < length ms → (move_at ms j).act ≡ Label b → b < label_count s → get_or new b 0 ≡ n → IsAdvanced s n (IsAmong ms j) old new →
    IsAdvanced s n (IsAmong ms (j + 1)) old (set new b (n + 1))
advance_rise s n ms j b old new below label inside at is = record { long = length-set new b (n + 1) ∙ is.long; each = each }
  where
    each : (a : ℕ) → a < label_count s → IsRisen n (IsAmong ms (j + 1) a) (get_or old a 0) (get_or (set new b (n + 1)) a 0)
    each a low = elim (cases_eq a b) [
      | inl same ↦ rw (same, get_or-set_same new b (n + 1) 0 (omega (arith, inside, is.long))) (risen_here n ms j b (get_or old b 0) (get_or new b 0) at (among_here ms j b below label) (is.each b inside))
      | inr other ↦ rw (get_or-set_other new b a (n + 1) 0 other) (risen_tau n ms j a (get_or old a 0) (get_or new a 0) (among_other ms j a b label other) (is.each a low))
    ]

pub advance_all : (s : System) (q n i : ℕ) (ms : List Move) (old new : List ℕ) → AreMovesOf s q ms → length ms ≤ i → IsAdvanced s n (IsAmong ms i) old new → IsAdvanced s n (Takes s q) old new
advance_all s q n i ms old new are past is = record { long = is.long; each = λ a low. go a (get_or old a 0) (get_or new a 0) (is.each a low) }
  where
    go : (a old new : ℕ) → IsRisen n (IsAmong ms i a) old new → IsRisen n (Takes s q a) old new
    go a old new (inl (among, at, up)) = inl (among_takes s q a i ms are among, at, up)
    go a old new (inr (none, same)) = inr (λ h. none (takes_among s q a i ms are past h.0, h.1), same)

-- a member more that has to take the inputs
pub fronts_more : (mode : Mode) (s : System) (ps : List ℕ) (i n d : ℕ) (old new : List ℕ) → i < length ps → HasToTake mode s (get_or ps i d) → AreFronts s n (AllTake mode s ps i) old → IsAdvanced s n (Takes s (get_or ps i d)) old new →
    AreFronts s (n + 1) (AllTake mode s ps (i + 1)) new
fronts_more mode s ps i n d old new below has before step = record {
  long = step.long;
  within = λ a low. up (get_or old a 0) (get_or new a 0) (Takes s (get_or ps i d) a) (before.within a low) (step.each a low);
  each = λ a low. (to a low (step.each a low), from a low (step.each a low));
}
  where
    up : (x y : ℕ) (P : Type 0) → x ≤ n → IsRisen n P x y → y ≤ n + 1
    up x y P low (inl (p, at, e)) = omega (arith, e)
    up x y P low (inr (none, e)) = omega (arith, low, e)

    to : (a : ℕ) → a < label_count s → IsRisen n (Takes s (get_or ps i d) a) (get_or old a 0) (get_or new a 0) → get_or new a 0 ≡ n + 1 → AllTake mode s ps (i + 1) a
    to a low (inl (takes, at, e)) f = below_next (λ p. HasToTake mode s p → Takes s p a) ps i d below ((before.each a low).0 at) (λ h. takes)
    to a low (inr (none, e)) f = let most = before.within a low in absurd (omega (arith, e, f, most))

    from : (a : ℕ) → a < label_count s → IsRisen n (Takes s (get_or ps i d) a) (get_or old a 0) (get_or new a 0) → AllTake mode s ps (i + 1) a → get_or new a 0 ≡ n + 1
    from a low (inl (takes, at, e)) all = e
    from a low (inr (none, e)) all = absurd (none (all i d (omega arith) has, (before.each a low).1 (λ k b early. all k b (omega (arith, early)))))

-- a member more that hasn't to
pub fronts_skip : (mode : Mode) (s : System) (ps : List ℕ) (i n d : ℕ) (fronts : List ℕ) → i < length ps → (HasToTake mode s (get_or ps i d) → ⊥) → AreFronts s n (AllTake mode s ps i) fronts → AreFronts s n (AllTake mode s ps (i + 1)) fronts
fronts_skip mode s ps i n d fronts below free before = record {
  long = before.long;
  within = before.within;
  each = λ a low. (
    λ e. below_next (λ p. HasToTake mode s p → Takes s p a) ps i d below ((before.each a low).0 e) (λ h. absurd (free h)),
    λ all. (before.each a low).1 (λ k b early. all k b (omega (arith, early))),
  );
}

-- all members have been looked at
all_take : (mode : Mode) (s : System) (ps : List ℕ) (n a : ℕ) → length ps ≤ n → AllTake mode s ps n a → AllStableTake mode s ps a
all_take Ioco s ps n a past all = tt
all_take Uioco s ps n a past all = λ q inside stable. none_contained (λ p. IsStable s p → Takes s p a) ps n past all q inside stable

take_all_of : (mode : Mode) (s : System) (ps : List ℕ) (n a : ℕ) → n ≡ length ps → AllStableTake mode s ps a → AllTake mode s ps n a
take_all_of Ioco s ps n a long all = λ k d low h. absurd h
take_all_of Uioco s ps n a long all = λ k d low h. all (get_or ps k d) (k, omega (arith, low, long), get_or_default ps k (get_or ps k d) d (omega (arith, low, long))) h

pub fronts_all : (mode : Mode) (s : System) (ps : List ℕ) (n count : ℕ) (fronts : List ℕ) → n ≡ length ps → AreFronts s count (AllTake mode s ps n) fronts → AreFronts s count (AllTake mode s ps (length ps)) fronts
fronts_all mode s ps n count fronts all is = subst (λ (k : ℕ). AreFronts s count (AllTake mode s ps k) fronts) all is

-- ---- what the flags say of items

pub flag_shows : (s : System) (ps : List ℕ) (flags : List Bool) (a : ℕ) → AreFlags s (IsTakenIn s ps) flags → s.inputs ≤ a → a < label_count s → get_or flags a false ≡ true → Shows s ps (Output a)
flag_shows s ps flags a is low high t = let (q, inside, takes) = (is.each a high).0 t in (q, inside, (low, takes))

pub flag_hides : (s : System) (ps : List ℕ) (flags : List Bool) (a : ℕ) → AreFlags s (IsTakenIn s ps) flags → a < label_count s → get_or flags a false ≡ false → ¬ Shows s ps (Output a)
flag_hides s ps flags a is high f (q, inside, gives) = false≢true (sym f ∙ (is.each a high).1 (q, inside, gives.1))

pub flag_allows : (mode : Mode) (s : System) (ps : List ℕ) (flags : List Bool) (a : ℕ) → AreFlags s (IsHeld mode s ps) flags → a < label_count s → get_or flags a false ≡ true → Allows mode s ps (Input a)
flag_allows mode s ps flags a is high t = (is.each a high).0 t

pub flag_forbids : (mode : Mode) (s : System) (ps : List ℕ) (flags : List Bool) (a : ℕ) → AreFlags s (IsHeld mode s ps) flags → a < label_count s → get_or flags a false ≡ false → ¬ Allows mode s ps (Input a)
flag_forbids mode s ps flags a is high f allowed = false≢true (sym f ∙ (is.each a high).1 allowed)

-- ---- labels that are taken as they have to be

-- the labels below n that some member lacks have been taken back
abbrev pub IsKept : Mode → System → List ℕ → ℕ → ℕ → Type 0
IsKept mode s ps n a = IsTakenIn s ps a × (a < n → AllTake mode s ps (length ps) a)

pub kept_none : (mode : Mode) (s : System) (ps : List ℕ) (flags : List Bool) → AreFlags s (IsTakenIn s ps) flags → AreFlags s (IsKept mode s ps 0) flags
kept_none mode s ps flags is = flags_same s (IsTakenIn s ps) (IsKept mode s ps 0) flags (λ a h. (h, λ low. absurd (omega (arith, low)))) (λ a h. h.0) is

kept_more : (mode : Mode) (s : System) (ps : List ℕ) (n a : ℕ) → (a ≡ n → AllTake mode s ps (length ps) a) → IsKept mode s ps n a → IsKept mode s ps (n + 1) a
kept_more mode s ps n a here (taken, all) = (taken, next)
  where
    next : a < n + 1 → AllTake mode s ps (length ps) a
    next low = elim (cases_lt a n) [ inl early ↦ all early | inr late ↦ here (omega (arith, low, late)) ]

-- the front of label n, however it was read
front_read : (s : System) (n v count : ℕ) (P : ℕ → Type 0) (fronts : List ℕ) → n < label_count s → v ≡ get_or fronts n v → AreFronts s count P fronts → v ≡ get_or fronts n 0
front_read s n v count P fronts low read are = read ∙ get_or_default fronts n v 0 (omega (arith, low, are.long))

pub kept_stay : (mode : Mode) (s : System) (ps : List ℕ) (n v count : ℕ) (fronts : List ℕ) (flags : List Bool) → n < label_count s → v ≡ get_or fronts n v → v ≡ count → AreFronts s count (AllTake mode s ps (length ps)) fronts →
    AreFlags s (IsKept mode s ps n) flags → AreFlags s (IsKept mode s ps (n + 1)) flags
kept_stay mode s ps n v count fronts flags low read at are is =
    flags_same s (IsKept mode s ps n) (IsKept mode s ps (n + 1)) flags
    (λ a. kept_more mode s ps n a (λ e. subst (AllTake mode s ps (length ps)) (sym e) ((are.each n low).0 (sym (front_read s n v count (AllTake mode s ps (length ps)) fronts low read are) ∙ at))))
    (λ a h. (h.0, λ early. h.1 (omega (arith, early)))) is

pub kept_drop : (mode : Mode) (s : System) (ps : List ℕ) (n v count : ℕ) (fronts : List ℕ) (flags : List Bool) → n < label_count s → v ≡ get_or fronts n v → (v ≡ count → ⊥) → AreFronts s count (AllTake mode s ps (length ps)) fronts →
    AreFlags s (IsKept mode s ps n) flags → AreFlags s (IsKept mode s ps (n + 1)) (set flags n false)
kept_drop mode s ps n v count fronts flags low read other are is = record { long = length-set flags n false ∙ is.long; each = each }
  where
    lacks : ¬ AllTake mode s ps (length ps) n
    lacks all = other (front_read s n v count (AllTake mode s ps (length ps)) fronts low read are ∙ (are.each n low).1 all)

    each : (a : ℕ) → a < label_count s → (get_or (set flags n false) a false ≡ true) ↔ IsKept mode s ps (n + 1) a
    each a below = elim (cases_eq a n) [
      | inl same ↦ (
        λ t. absurd (false≢true (sym (get_or-set_same flags n false false (omega (arith, low, is.long))) ∙ ap (λ k. get_or (set flags n false) k false) (sym same) ∙ t)),
        λ h. absurd (lacks (subst (AllTake mode s ps (length ps)) same (h.1 (omega (arith, same))))),
      )
      | inr apart ↦ (
        λ t. kept_more mode s ps n a (λ e. absurd (apart e)) ((is.each a below).0 (sym (get_or-set_other flags n a false false apart) ∙ t)),
        λ h. get_or-set_other flags n a false false apart ∙ (is.each a below).1 (h.0, λ early. h.1 (omega (arith, early))),
      )
    ]

pub kept_all : (mode : Mode) (s : System) (ps : List ℕ) (n : ℕ) (flags : List Bool) → label_count s ≤ n → AreFlags s (IsKept mode s ps n) flags → AreFlags s (IsHeld mode s ps) flags
kept_all mode s ps n flags past is = record {
  long = is.long;
  each = λ a low. (
    λ t. let (taken, all) = (is.each a low).0 t in (taken, all_take mode s ps (length ps) a (omega arith) (all (omega (arith, low, past)))),
    λ h. (is.each a low).1 (h.0, λ early. take_all_of mode s ps (length ps) a refl h.1),
  );
}
