-- Laws on walks: their sets, their accounts, and a set that is added.
use Rattle.lts_base.specs.declared.limits.TheConstants.{MOST_MEMBERS}
use Rattle.std.proofs.Common.{Bool, ◌/◌, ◌%◌, IfSome, get_or, set, replicate, length-set, ◌-◌, ◌≡◌, ℕ, ◌+◌, ◌<◌, ◌≤◌, List, [], ◌∷◌, ◌++◌, length, inl, inr, All, Contains, Option, Some, None, true, false, Fits, w32, Result, Ok, Err, IsErrAnd, MatchResult, unwrap_or, ◌==◌, pos_of_ne-zero, refl, sym, ap, ◌∙◌, arith}
use Rattle.std.specs.List.{list_any, position, slice_get}
use Rattle.std.specs.Str.{bytes_eq}
use Rattle.std.proofs.lemmas.List.{length_push, get_or_push, get_or_append_left, length-replicate, get_or-replicate, get_or_past, get_or-set_same, get_or-set_other}
use Rattle.std.proofs.lemmas.List.Elements.{All-push, All-nil, All-contains, Contains-get_or}
use Rattle.std.proofs.lemmas.List.Quantifiers.{position-Some}
use Rattle.std.proofs.lemmas.Option.{unwrap_or-slice_get}
use Rattle.std.proofs.lemmas.Slice.Eq.{bytes_eq-Decides}
use Rattle.std.proofs.lemmas.List.{nil_from_length}
use Rattle.std.proofs.lemmas.Bool.{cases_Bool, cases_lt, cases_eq, eqb-true, eq-eqb, false≢true}
use Rattle.lts_base.specs.declared.item.Item.{Item}
use Rattle.lts_base.specs.declared.item.Mode.TheVariants.{Ioco}
use Rattle.lts_base.specs.System.{System, IsSystem}
use Rattle.lts_base.specs.Path.{Has}
use Rattle.lts_base.specs.After.{IsSetAfter}
use Rattle.lts_base.specs.Next.{IsNext}
use Rattle.lts_base.specs.Reached.{with_new, distinct, total_members}
use Rattle.lts_base.proofs.ListLaws.{snoc_induction}
use Rattle.lts_base.proofs.SetLaws.{IsSetAfter-next, Has-set_some}
use Rattle.lts_base.proofs.AllowedLaws.{IsAllowed-nil}
use Rattle.lts_base.proofs.DistinctLaws.{with_new-absent, with_new-there, distinct-push, total_members-push, is_seen-from_contains}
use Rattle.walk_core.specs.declared.walk.WalkError.{WalkError}
use Rattle.walk_core.specs.declared.walk.WalkError.TheVariants.{Full, Memory}
use Rattle.walk_core.specs.Refused.{RefusesSet, RefusesAccount}
use Rattle.lts_base.specs.Finds.{AreNext}
use Rattle.state_sets.specs.Taus.{AreTauFlags}
use Rattle.state_sets.proofs.Reaching.{IsNext-one}
use Rattle.std.proofs.Math.Nat.{mod-add-div'}
use Rattle.walk_core.specs.Taken.{Took}
use Rattle.walk_core.specs.Interned.{IsInterned, AreAlone, with_alone}
use Rattle.walk_core.specs.Walked.{Walked, set_at, IsSetOf, IsWalk, IsFresh, IsStep, LeadsTo, IsFull, AreSetsAfter, IsAccount, HasAccountOf}

-- the walk with one more set at its end
abbrev pub pushed : Walked → List ℕ → Walked
pushed w qs = record { system = w.system; limit = w.limit; sets = w.sets ++ qs ∷ [] }

-- sets that aren't empty are at most as many as they have members
pub length_within : (s : System) (sets : List (List ℕ)) → All (IsSetOf s) sets → length sets ≤ total_members sets
length_within s = snoc_induction (λ (sets : List (List ℕ)). All (IsSetOf s) sets → length sets ≤ total_members sets) (λ all. omega arith) more
  where
    more : (sets : List (List ℕ)) (qs : List ℕ) → (All (IsSetOf s) sets → length sets ≤ total_members sets) → All (IsSetOf s) (sets ++ qs ∷ []) → length (sets ++ qs ∷ []) ≤ total_members (sets ++ qs ∷ [])
    more sets qs before all =
        let longer : length (sets ++ qs ∷ []) ≡ length sets + 1 = length_push sets qs in
        let earlier : length sets ≤ total_members sets =
        before (λ k d below. rw (get_or_append_left sets (qs ∷ []) d k below) at (all k d (omega (arith, longer, below)))) in
        let last : IsSetOf s qs = rw (get_or_push sets qs [] (length sets) refl) at (all (length sets) [] (omega (arith, longer))) in
        omega (arith, longer, earlier, last.some, total_members-push sets qs)

-- a sound walk stays sound with a set that isn't there and doesn't pass the limit
pub IsWalk-push : (w : Walked) (qs : List ℕ) → IsWalk w → IsSetOf w.system qs → (Contains w.sets qs → ⊥) → total_members w.sets + length qs ≤ w.limit → IsWalk (pushed w qs)
IsWalk-push w qs walk is absent low = record {
  system = walk.system;
  sets = All-push (IsSetOf w.system) w.sets qs walk.sets is;
  once = once;
  within = rw (total_members-push w.sets qs) low;
  limit = walk.limit;
}
  where
    longer : length (w.sets ++ qs ∷ []) ≡ length w.sets + 1
    longer = length_push w.sets qs

    once : (j k : ℕ) → j < k → k < length (w.sets ++ qs ∷ []) → set_at (w.sets ++ qs ∷ []) j ≡ set_at (w.sets ++ qs ∷ []) k → ⊥
    once j k less below same = elim (cases_lt k (length w.sets)) [
      | inl inside ↦
          walk.once j k less inside
          (rw (get_or_append_left w.sets (qs ∷ []) [] j (omega (arith, less, inside)), get_or_append_left w.sets (qs ∷ []) [] k inside) at same)
      | inr past ↦
          let last : length w.sets ≡ k = omega (arith, past, below, longer) in
          let low_j : j < length w.sets = omega (arith, less, last) in
          let at_j : set_at w.sets j ≡ qs = rw (get_or_append_left w.sets (qs ∷ []) [] j low_j, get_or_push w.sets qs [] k last) at same in
          absent (rw at_j at (Contains-get_or w.sets j [] low_j))
    ]

-- one trace more, and the set after it
pub AreSetsAfter-push : (s : System) (traces : List (List Item)) (lists : List (List ℕ)) (τ : List Item) (qs : List ℕ) → AreSetsAfter s traces lists → IsSetAfter s τ qs → AreSetsAfter s (traces ++ τ ∷ []) (lists ++ qs ∷ [])
AreSetsAfter-push s traces lists τ qs are set = record {
  long = longer_lists ∙ ap {A = ℕ} {B = ℕ} (λ n. n + 1) are.long ∙ sym longer_traces;
  each = λ k below. elim (cases_lt k (length traces)) [
    | inl inside ↦
        rw (get_or_append_left traces (τ ∷ []) [] k inside, get_or_append_left lists (qs ∷ []) [] k (omega (arith, inside, are.long))) (are.each k inside)
    | inr past ↦
        let last : length traces ≡ k = omega (arith, past, below, longer_traces) in
        let last_list : length lists ≡ k = are.long ∙ last in
        rw (get_or_push traces τ [] k last, get_or_push lists qs [] k last_list) set
  ];
}
  where
    longer_lists : length (lists ++ qs ∷ []) ≡ length lists + 1
    longer_lists = length_push lists qs

    longer_traces : length (traces ++ τ ∷ []) ≡ length traces + 1
    longer_traces = length_push traces τ

-- a step makes the account of one trace more
pub IsAccount-step : (old new : Walked) (k : ℕ) (x : Item) (to : Option ℕ) (traces : List (List Item)) (σ : List Item) → new.system ≡ old.system → IsStep old new k x to → IsAccount old traces → IsSetAfter old.system σ (set_at old.sets k) → Has old.system (σ ++ x ∷ []) → IsAccount new (traces ++ (σ ++ x ∷ []) ∷ [])
IsAccount-step old new k x None traces σ same step account set has =
    let after = IsSetAfter-next old.system x σ (set_at old.sets k) [] set step.0 in
    absurd (omega (arith, Has-set_some old.system (σ ++ x ∷ []) [] after has))
IsAccount-step old new k x (Some n) traces σ same (qs, next, is, grown, below, at) (lists, are, sets) set has =
    let after = IsSetAfter-next old.system x σ (set_at old.sets k) qs set next in (
      lists ++ qs ∷ [],
      rw same (AreSetsAfter-push old.system traces lists (σ ++ x ∷ []) qs are after),
      grown ∙ ap {A = List (List ℕ)} {B = List (List ℕ)} (λ z. with_new z qs) sets ∙ sym (distinct-push lists qs),
    )

-- a step that is refused since it would pass the limit: the account of one trace more would
pub HasAccount-full : (old : Walked) (k : ℕ) (x : Item) (reached : ℕ) (traces : List (List Item)) (σ : List Item) → IsFull old k x reached → IsAccount old traces → IsSetAfter old.system σ (set_at old.sets k) → HasAccountOf old.system (traces ++ (σ ++ x ∷ []) ∷ []) reached × (old.limit < reached)
HasAccount-full old k x reached traces σ (qs, next, is, absent, size, over) (lists, are, sets) set =
    let after = IsSetAfter-next old.system x σ (set_at old.sets k) qs set next in
    let grown : distinct (lists ++ qs ∷ []) ≡ old.sets ++ qs ∷ [] =
    distinct-push lists qs ∙ ap {A = List (List ℕ)} {B = List (List ℕ)} (λ z. with_new z qs) (sym sets) ∙ with_new-absent old.sets qs absent in (
      (
        lists ++ qs ∷ [],
        AreSetsAfter-push old.system traces lists (σ ++ x ∷ []) qs are after,
        size ∙ sym (ap {A = List (List ℕ)} {B = ℕ} total_members grown ∙ total_members-push old.sets qs),
      ),
      over,
    )

-- the opening set alone makes a walk
pub IsFresh-alone : (s : System) (most : ℕ) (ps : List ℕ) → IsSystem s → IsSetAfter s [] ps → All (λ q. q < s.states) ps → length ps ≤ most → most ≤ MOST_MEMBERS → (sets : List (List ℕ)) → sets ≡ with_new [] ps → IsFresh (record { system = s; limit = most; sets = sets })
IsFresh-alone s most ps system opening inside low small sets is = rw is (record {
  walk = record {
    system = system;
    sets = All-push (IsSetOf s) [] ps (All-nil (IsSetOf s)) (record {
      some = Has-set_some s [] ps opening (IsAllowed-nil Ioco s);
      rising = opening.rising;
      within = inside;
    });
    once = λ j k less below same. omega (arith, less, below);
    within = omega (arith, total_members-push [] ps, low);
    limit = small;
  };
  alone = refl;
  opening = opening;
})

-- a list at which the test of its bytes passes is the list
pub same_from_test : (qs ps : List ℕ) → bytes_eq qs ps ≡ true → ps ≡ qs
same_from_test qs ps e = sym ((bytes_eq-Decides qs ps).0 e)

-- the place at which a list is found holds it
pub found_at : (sets : List (List ℕ)) (qs : List ℕ) (place : ℕ) → position (bytes_eq qs) sets ≡ Some place → (place < length sets) × (set_at sets place ≡ qs)
found_at sets qs place e =
    let (below, passes, first) = position-Some (bytes_eq qs) sets place [] e in
    (below, same_from_test qs (set_at sets place) passes)

-- a list that is found at no place isn't there
pub absent_from_test : (sets : List (List ℕ)) (qs : List ℕ) → list_any (bytes_eq qs) sets ≡ false → Contains sets qs → ⊥
absent_from_test sets qs e inside = false≢true (sym e ∙ is_seen-from_contains sets qs inside)

-- a list that was stored below the length was there
pub kept_before : (old new : List (List ℕ)) (qs : List ℕ) (place : ℕ) → new ≡ with_new old qs → place < length old → set_at new place ≡ qs → new ≡ old
kept_before old new qs place grown below at = grown ∙ with_new-there old qs here
  where
    here : Contains old qs
    here = elim (cases_Bool (list_any (bytes_eq qs) old)) [
      | inl seen ↦ let same : new ≡ old = rw seen at grown in rw (← (rw same at at)) (Contains-get_or old place [] below)
      | inr unseen ↦
          let pushed_is : new ≡ old ++ qs ∷ [] = rw unseen at grown in
          let before : set_at old place ≡ qs = rw (pushed_is, get_or_append_left old (qs ∷ []) [] place below) at at in
          rw (← before) (Contains-get_or old place [] below)
    ]

-- a list that was stored at the end wasn't there
pub absent_before : (old new : List (List ℕ)) (qs : List ℕ) (place count : ℕ) → new ≡ with_new old qs → count ≡ length old → count ≤ place → place < length new → Contains old qs → ⊥
absent_before old new qs place count grown size late below inside =
    let same : new ≡ old = grown ∙ with_new-there old qs inside in
    omega (arith, size, late, rw same at below)

-- the place that holds an equal list holds the list
pub stored_at : (sets : List (List ℕ)) (qs : List ℕ) (place : ℕ) (k : List ℕ) → slice_get sets place ≡ Some k → bytes_eq qs k ≡ true → set_at sets place ≡ qs
stored_at sets qs place k e same =
    sym (unwrap_or-slice_get sets place []) ∙ ap {A = Option (List ℕ)} {B = List ℕ} (λ o. unwrap_or o []) e ∙ same_from_test qs k same

-- the number of a set fits 32 bits
pub number_fits : (w : Walked) (k : ℕ) → IsWalk w → k < length w.sets → Fits w32 k
number_fits w k walk below =
    omega (arith, below, length_within w.system w.sets walk.sets, walk.within, walk.limit)

-- no number is kept
pub alone_none : (states : ℕ) (sets : List (List ℕ)) → AreAlone states sets (replicate states 0)
alone_none states sets = record {
  long = length-replicate {A = ℕ} states 0;
  each = λ q above. elim (cases_lt q states) [
    | inl below ↦ let zero_is : ◌≡◌ {A = ℕ} (get_or (replicate states 0) q 0) 0 = get_or-replicate states q 0 0 below in absurd (omega (arith, above, zero_is))
    | inr past ↦ let zero_is : ◌≡◌ {A = ℕ} (get_or (replicate states 0) q 0) 0 = get_or_past (replicate states 0) q 0 (omega (arith, past, length-replicate {A = ℕ} states 0)) in absurd (omega (arith, above, zero_is))
  ];
}

-- the numbers stay right with one more set
alone_more : (states : ℕ) (sets : List (List ℕ)) (qs : List ℕ) (alone : List ℕ) → AreAlone states sets alone → AreAlone states (sets ++ qs ∷ []) alone
alone_more states sets qs alone are = record {
  long = are.long;
  each = λ q above.
      let (low, at) = are.each q above in
      let longer : length (sets ++ qs ∷ []) ≡ length sets + 1 = length_push sets qs in
      let inside : get_or alone q 0 - 1 < length sets = omega (arith, low, above) in
      (omega (arith, low, longer), get_or_append_left sets (qs ∷ []) [] (get_or alone q 0 - 1) inside ∙ at);
}

-- what is said of the one state of a set
abbrev pub IsOnly : List ℕ → Option ℕ → Type 0
IsOnly qs only = IfSome only (λ q. qs ≡ q ∷ [])

pub only_low : (states : ℕ) (sets : List (List ℕ)) (alone qs : List ℕ) (only : Option ℕ) → AreAlone states sets alone → IsOnly qs only → All (λ q. q < states) qs → IfSome only (λ q. q < length alone)
only_low states sets alone qs None are is low = tt
only_low states sets alone qs (Some q) are is low = rw are.long (All-contains (λ q. q < states) qs q low (rw is (0, omega arith, refl)))

-- the number of a set is low
pub number_low : (w : Walked) (k : ℕ) → IsWalk w → k < length w.sets → k < MOST_MEMBERS
number_low w k walk below = omega (arith, below, length_within w.system w.sets walk.sets, walk.within, walk.limit)

pub alone_kept : (states : ℕ) (sets : List (List ℕ)) (qs : List ℕ) (alone : List ℕ) (only : Option ℕ) (n : ℕ) → AreAlone states sets alone → IsOnly qs only → All (λ q. q < states) qs → n < length (sets ++ qs ∷ []) →
    set_at (sets ++ qs ∷ []) n ≡ qs → AreAlone states (sets ++ qs ∷ []) (with_alone alone only n)
alone_kept states sets qs alone None n are is low below at = alone_more states sets qs alone are
alone_kept states sets qs alone (Some q) n are is low below at = record {
  long = length-set alone q (n + 1) ∙ are.long;
  each = λ r above. elim (cases_eq r q) [
    | inl same ↦
        let here : get_or (set alone q (n + 1)) r 0 ≡ n + 1 = rw same (get_or-set_same alone q (n + 1) 0 inside) in
        let back : get_or (set alone q (n + 1)) r 0 - 1 ≡ n = omega (arith, here) in
        (omega (arith, here, below), rw back (at ∙ is ∙ rw same refl))
    | inr other ↦
        let kept : get_or (set alone q (n + 1)) r 0 ≡ get_or alone r 0 = get_or-set_other alone q r (n + 1) 0 other in
        rw kept ((alone_more states sets qs alone are).each r (rw kept at above))
  ];
}
  where
    member : q < states
    member = All-contains (λ q. q < states) qs q low (rw is (0, omega arith, refl))

    inside : q < length alone
    inside = rw are.long member

-- what is kept stays so with a set that is added
pub IsInterned-kept : (w : Walked) (count searched : ℕ) (alone : List ℕ) (flags : List Bool) (qs : List ℕ) (n : ℕ) (sets : List (List ℕ)) (only : Option ℕ) (place : ℕ) → IsInterned w count searched alone flags → IsSetOf w.system qs → (Contains w.sets qs → ⊥) → n ≡ length qs → count + n ≤ w.limit → sets ≡ with_new w.sets qs →
    IsOnly qs only → place < length sets → set_at sets place ≡ qs → IsInterned (record { system = w.system; limit = w.limit; sets = sets }) (count + n) searched (with_alone alone only place) flags
IsInterned-kept w count searched alone flags qs n sets only place plain is absent size low grown one below at =
    let pushed_is : sets ≡ w.sets ++ qs ∷ [] = grown ∙ with_new-absent w.sets qs absent in
    record {
      walk = rw pushed_is (IsWalk-push w qs plain.walk is absent (omega (arith, low, size, plain.members)));
      some = rw pushed_is (omega (arith, length_push w.sets qs));
      opening = rw (pushed_is, get_or_append_left w.sets (qs ∷ []) [] 0 plain.some) plain.opening;
      members = rw pushed_is (omega (arith, total_members-push w.sets qs, plain.members, size));
      states = plain.states;
      single = rw pushed_is (alone_kept w.system.states w.sets qs alone only place plain.single one is.within (rw pushed_is at below) (rw pushed_is at at));
      taus = plain.taus;
    }

-- what is kept of a fresh walk
pub IsInterned-fresh : (w : Walked) (count searched : ℕ) (ps alone : List ℕ) (flags : List Bool) → IsFresh w → w.sets ≡ with_new [] ps → count ≡ length ps → searched ≡ w.system.states → alone ≡ replicate w.system.states 0 → AreTauFlags w.system flags → IsInterned w count searched alone flags
IsInterned-fresh w count searched ps alone flags fresh is size states none taus = record {
  walk = fresh.walk;
  some = omega (arith, fresh.alone);
  opening = fresh.opening;
  members = rw is (omega (arith, total_members-push [] ps, size));
  states = states;
  single = rw none (alone_none w.system.states w.sets);
  taus = taus;
}

-- the number that is kept for the one state that was found is that of the next set
pub known_next : (w : Walked) (k : ℕ) (x : Item) (alone found : List ℕ) (q known : ℕ) → AreAlone w.system.states w.sets alone → AreNext w.system x (set_at w.sets k) found → length found ≡ 1 → q ≡ get_or found 0 0 →
    known ≡ get_or alone q 0 → 0 < known → (known - 1 < length w.sets) × IsNext w.system x (set_at w.sets k) (set_at w.sets (known - 1))
known_next w k x alone found q known are next one is at above =
    let (low, set) = are.each q (rw at at above) in
    let low' : known ≤ length w.sets = rw at low in
    let set' : set_at w.sets (known - 1) ≡ q ∷ [] = rw at set in
    (omega (arith, low', above), rw set' (IsNext-one w.system x (set_at w.sets k) found q one is next))

-- a step to a set that is there
pub IsStep-known : (w : Walked) (k : ℕ) (x : Item) (n : ℕ) → IsWalk w → n < length w.sets → IsNext w.system x (set_at w.sets k) (set_at w.sets n) → IsStep w w k x (Some n)
IsStep-known w k x n walk below next = (
  set_at w.sets n,
  next,
  walk.sets n [] below,
  sym (with_new-there w.sets (set_at w.sets n) (Contains-get_or w.sets n [] below)),
  below,
  refl,
)

-- a step leads from the node of the set after a trace to that of the set after the trace with the item
pub LeadsTo-from_step : (old new : Walked) (k : ℕ) (x : Item) (to : Option ℕ) → new.system ≡ old.system → IsStep old new k x to → LeadsTo old new k x to
LeadsTo-from_step old new k x None same step σ set =
    rw same (IsSetAfter-next old.system x σ (set_at old.sets k) [] set step.0)
LeadsTo-from_step old new k x (Some n) same (qs, next, is, grown, below, at) σ set =
    rw at (below, is.some, rw same (IsSetAfter-next old.system x σ (set_at old.sets k) qs set next))

-- a count that goes round at 2^64 grew by one
pub Took-next : (n : ℕ) → Took n ((n + 1) % 18446744073709551616) 1
Took-next n = ((n + 1) / 18446744073709551616, mod-add-div' (n + 1) 18446744073709551616)

-- a list that passes the test for no item has none
pub none_from_test : (qs ps : List ℕ) → true ≡ (length qs == 0) → qs ≡ ps → ps ≡ []
none_from_test qs ps e same = nil_from_length ps (ap {A = List ℕ} {B = ℕ} length (sym same) ∙ eqb-true (length qs) 0 (sym e))

-- a next list that fails the test for no item is a set of the system
pub IsSetOf-from_next : (s : System) (x : Item) (ps qs rs : List ℕ) → IsNext s x ps qs → All (λ q. q < s.states) qs → false ≡ (length rs == 0) → rs ≡ qs → IsSetOf s qs
IsSetOf-from_next s x ps qs rs next inside e same = record {
  some = elim (cases_eq (length rs) 0) [
    | inl none ↦ absurd (false≢true (e ∙ eq-eqb (length rs) 0 none))
    | inr some ↦ rw (← same) (pos_of_ne-zero some)
  ];
  rising = next.rising;
  within = inside;
}

-- a set that isn't kept: the account of the trace that leads to it isn't either
pub RefusesAccount-from_set : (old : Walked) (k : ℕ) (x : Item) (qs : List ℕ) (e : WalkError) (traces : List (List Item)) (σ : List Item) → IsNext old.system x (set_at old.sets k) qs → IsSetOf old.system qs → RefusesSet old qs e → IsAccount old traces → IsSetAfter old.system σ (set_at old.sets k) → RefusesAccount old (traces ++ (σ ++ x ∷ []) ∷ []) e
RefusesAccount-from_set old k x qs (Full reached) traces σ next is (absent, size, over) account set =
    HasAccount-full old k x reached traces σ (qs, next, is, absent, size, over) account set
RefusesAccount-from_set old k x qs Memory traces σ next is refused account set = tt

-- what an error alone says of a result
pub MatchResult-from_err : {A E : Type 0} (r : Result A E) (Q : A → Type 0) (F P : E → Type 0) → IsErrAnd r F → ((y : E) → F y → P y) → MatchResult r Q P
MatchResult-from_err (Ok a) Q F P is into = absurd is
MatchResult-from_err (Err y) Q F P is into = into y is
