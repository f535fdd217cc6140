-- Laws on cycles of moves with Tau.
use Rattle.std.proofs.Common.{◌≡◌, ℕ, zero, suc, ◌+◌, ◌-◌, ◌<◌, ◌≤◌, List, [], ◌∷◌, ◌++◌, length, get_or, set, take, Contains, inl, inr, refl, sym, ◌∙◌, ap, arith, add-one, length-set}
use Rattle.std.proofs.lemmas.List.{take_more, length_push, get_or_push, get_or_append_left, get_or-set_same, get_or-set_other, get_or_default, get_or_read, take_all}
use Rattle.std.proofs.lemmas.List.Elements.{Contains-push_cases}
use Rattle.std.proofs.lemmas.Bool.{cases_eq, cases_lt}
use Rattle.lts_base.specs.declared.action.Act.TheVariants.{Tau, Label}
use Rattle.lts_base.specs.declared.action.Move.{Move}
use Rattle.lts_base.specs.Built.{move_at}
use Rattle.lts_base.specs.System.{System, IsSystem, IsMoveOf, label_count, HasMove}
use Rattle.lts_base.specs.Path.{Leads}
use Rattle.lts_base.specs.Shape.{IsConvergent}
use Rattle.lts_base.proofs.Leads.{HasMove-from_parts, Leads-here, Leads-append, Leads-tau}
use Rattle.lts_base.proofs.ListLaws.{Contains-none}
use Rattle.lts_base.specs.Finds.{IsAdded}
use Rattle.lts_shape.specs.Cycle.{IsTauCycle, IsSource, AreSources, IsTrail, IsTurned}
use Rattle.lts_shape.specs.Peel.{IsPeeled}

-- a cycle of moves with Tau refutes convergence
pub IsTauCycle-diverges : (s : System) (ps : List ℕ) → IsTauCycle s ps → IsConvergent s → ⊥
IsTauCycle-diverges s ps is convergent =
    let q : ℕ = get_or ps (length ps - 1) 0 in
    let (steps, on, silent) = along (length ps - 1) (omega (arith, is.some)) in
    convergent q (record { from = q; act = Tau; to = get_or ps 0 0 }) steps (refl, is.last, on) silent
  where
    along : (k : ℕ) → k < length ps → Leads s (get_or ps 0 0) [] (get_or ps k 0)
    along zero below = Leads-here s (get_or ps 0 0)
    along (suc k) below =
        let step : HasMove s (get_or ps k 0) Tau (get_or ps (suc k) 0) = rw (add-one k) at (is.next k (omega (arith, below))) in
        Leads-append s (get_or ps 0 0) (get_or ps k 0) (get_or ps (suc k) 0) [] [] (along k (omega (arith, below))) (Leads-tau s (get_or ps k 0) (get_or ps (suc k) 0) step)

-- the first n states have no count
pub zeros_next : (counts : List ℕ) (n : ℕ) → n < length counts → (0 < get_or counts n 0 → ⊥) → ((k d : ℕ) → k < n → get_or counts k d ≡ 0) → (k d : ℕ) → k < n + 1 → get_or counts k d ≡ 0
zeros_next counts n inside none before k d below = elim (cases_lt k n) [
  | inl early ↦ before k d early
  | inr late ↦
      let same : k ≡ n = omega (arith, below, late) in
      let here : get_or counts n 0 ≡ 0 = zero_from (get_or counts n 0) none in
      rw (same, get_or_default counts n d 0 inside) here
]
  where
    zero_from : (x : ℕ) → (0 < x → ⊥) → x ≡ 0
    zero_from zero h = refl
    zero_from (suc x) h = absurd (h (omega arith))

pub AreSources-none : (s : System) (counts sources : List ℕ) → length sources ≡ s.states → AreSources s counts 0 sources
AreSources-none s counts sources long = record { long = long; each = λ k below. absurd (omega (arith, below)) }

-- the next move leads to its target from a state with a count
AreSources-set : (s : System) (counts : List ℕ) (n : ℕ) (sources : List ℕ) (d : Move) → IsSystem s → n < length s.moves → (get_or s.moves n d).act ≡ Tau → 0 < get_or counts (get_or s.moves n d).from 0 →
    AreSources s counts n sources → AreSources s counts (n + 1) (set sources (get_or s.moves n d).to (get_or s.moves n d).from)
AreSources-set s counts n sources d system inside tau some is = record {
  long = length-set sources m.to m.from ∙ is.long;
  each = λ k below carries left. elim (cases_eq (move_at s.moves k).to m.to) [
    | inl same ↦ rw (same, get_or-set_same sources m.to m.from 0 (omega (arith, ends.to, is.long))) (HasMove-from_parts s m m.from Tau refl tau (n, inside, here), ends.from, some)
    | inr other ↦ elim (cases_lt k n) [
      | inl early ↦ rw (get_or-set_other sources m.to (move_at s.moves k).to m.from 0 other) (is.each k early carries left)
      | inr late ↦
          let last : k ≡ n = omega (arith, below, late) in
          let e : move_at s.moves k ≡ m = rw last (get_or_default s.moves n (record { from = 0; act = Tau; to = 0 }) d inside) in
          absurd (other (ap {A = Move} {B = ℕ} (λ x. x.to) e))
    ]
  ];
}
  where
    m : Move
    m = get_or s.moves n d

    here : get_or s.moves n m ≡ m
    here = get_or_default s.moves n m d inside

    ends : IsMoveOf s.states (label_count s) m
    ends = system.moves n d inside

-- the next move doesn't lead to its target with Tau from a state with a count
AreSources-skip : (s : System) (counts : List ℕ) (n : ℕ) (sources : List ℕ) (d : Move) → n < length s.moves → ((get_or s.moves n d).act ≡ Tau → 0 < get_or counts (get_or s.moves n d).from 0 → ⊥) →
    AreSources s counts n sources → AreSources s counts (n + 1) sources
AreSources-skip s counts n sources d inside other is = record {
  long = is.long;
  each = λ k below carries left. elim (cases_lt k n) [
    | inl early ↦ is.each k early carries left
    | inr late ↦
        let last : k ≡ n = omega (arith, below, late) in
        let same : move_at s.moves k ≡ get_or s.moves n d = rw last (get_or_default s.moves n (record { from = 0; act = Tau; to = 0 }) d inside) in
        absurd (other (rw same at carries) (rw same at left))
  ];
}

-- the same, of the moves as they were read
pub AreSources-read : (s : System) (counts : List ℕ) (n : ℕ) (sources : List ℕ) (ms : List Move) (d : Move) → IsSystem s → ms ≡ s.moves → n < length ms → (get_or ms n d).act ≡ Tau → 0 < get_or counts (get_or ms n d).from 0 →
    AreSources s counts n sources → AreSources s counts (n + 1) (set sources (get_or ms n d).to (get_or ms n d).from)
AreSources-read s counts n sources ms d system same inside tau some is =
    rw same (AreSources-set s counts n sources d system (rw same at inside) (rw same at tau) (rw same at some) is)

-- the next move leaves a state without a count
pub AreSources-zero : (s : System) (counts : List ℕ) (n : ℕ) (sources : List ℕ) (ms : List Move) (d : Move) → ms ≡ s.moves → n < length ms → get_or counts (get_or ms n d).from 0 ≤ 0 →
    AreSources s counts n sources → AreSources s counts (n + 1) sources
AreSources-zero s counts n sources ms d same inside none is =
    let none' : get_or counts (get_or s.moves n d).from 0 ≤ 0 = rw same at none in
    AreSources-skip s counts n sources d (rw same at inside) (λ tau some. omega (arith, none', some)) is

-- the next move carries a label
pub AreSources-label : (s : System) (counts : List ℕ) (n : ℕ) (sources : List ℕ) (ms : List Move) (d : Move) (a : ℕ) → ms ≡ s.moves → n < length ms → (get_or ms n d).act ≡ Label a →
    AreSources s counts n sources → AreSources s counts (n + 1) sources
AreSources-label s counts n sources ms d a same inside label is =
    let label' : (get_or s.moves n d).act ≡ Label a = rw same at label in
    AreSources-skip s counts n sources d (rw same at inside) (λ tau some. let e : Tau ≡ Label a = sym tau ∙ label' in cc) is

-- a state with a count has a source
pub source_of : (s : System) (counts sources : List ℕ) (q : ℕ) → IsPeeled s counts → AreSources s counts (length s.moves) sources → q < s.states → 0 < get_or counts q 0 → IsSource s counts q (get_or sources q 0)
source_of s counts sources q peeled are below some =
    let (p, has, low, count) = peeled.left q below some in
    let (k, inside, at) = has in
    let same : move_at s.moves k ≡ record { from = p; act = Tau; to = q } = get_or_default s.moves k (record { from = 0; act = Tau; to = 0 }) (record { from = p; act = Tau; to = q }) inside ∙ at in
    rw same at (are.each k inside (rw same refl) (rw same count))

-- a state has been met, and the next one leads to it
pub IsTrail-step : (s : System) (counts : List ℕ) (old : List ℕ) (q : ℕ) (new : List ℕ) (p : ℕ) → IsAdded old q new → (length new ≡ length old → ⊥) → IsSource s counts q p → IsTrail s old q → IsTrail s new p
IsTrail-step s counts old q new p (inl (same, inside)) grew source is = absurd (grew (ap (length {A = ℕ}) same))
IsTrail-step s counts old q new p (inr grown) grew source is = rw grown (record {
  back = λ k below. elim (cases_lt (k + 1) (length old)) [
    | inl early ↦ rw (get_or_append_left old (q ∷ []) 0 k (omega (arith, early)), get_or_append_left old (q ∷ []) 0 (k + 1) early) (is.back k early)
    | inr late ↦
        let last : length old ≡ k + 1 = omega (arith, below, late, length_push old q) in
        rw (get_or_append_left old (q ∷ []) 0 k (omega (arith, last)), get_or_push old q 0 (k + 1) last) (is.last k (sym last))
  ];
  last = λ k at_end.
      let last : length old ≡ k = omega (arith, at_end, length_push old q) in
      rw (get_or_push old q 0 k last) source.0;
})

pub IsTrail-none : (s : System) (q : ℕ) → IsTrail s [] q
IsTrail-none s q = record { back = λ k below. absurd (omega (arith, below)); last = λ k at_end. absurd (omega (arith, at_end)) }

-- nothing was added, so the state had been met
pub met_again : (old : List ℕ) (q : ℕ) (new : List ℕ) → IsAdded old q new → length new ≡ length old → (new ≡ old) × Contains old q
met_again old q new (inl h) same = h
met_again old q new (inr grown) same =
    let longer : length new ≡ length old + 1 = ap (length {A = ℕ}) grown ∙ length_push old q in
    absurd (omega (arith, same, longer))

-- the finds from number i on have been turned, and the state is one of those before
pub record IsTurning (found : List ℕ) (p i : ℕ) (turned : List ℕ) : Type 0 where
  pub before : Contains (take i found) p
  pub count : length turned + i ≡ length found
  pub each : (k : ℕ) → k < length turned → get_or turned k 0 ≡ get_or found (length found - 1 - k) 0

pub IsTurning-none : (found : List ℕ) (p : ℕ) → Contains found p → IsTurning found p (length found) []
IsTurning-none found p inside = record {
  before = rw (take_all (length found) found (omega arith)) inside;
  count = omega arith;
  each = λ k below. absurd (omega (arith, below));
}

pub IsTurning-some : (found : List ℕ) (p i : ℕ) (turned : List ℕ) → IsTurning found p i turned → 0 < i
IsTurning-some found p zero turned is = absurd (Contains-none p is.before)
IsTurning-some found p (suc i) turned is = omega arith

each_push : (found turned : List ℕ) (i : ℕ) → length turned + (i + 1) ≡ length found → ((k : ℕ) → k < length turned → get_or turned k 0 ≡ get_or found (length found - 1 - k) 0) →
    (k : ℕ) → k < length (turned ++ get_or found i 0 ∷ []) → get_or (turned ++ get_or found i 0 ∷ []) k 0 ≡ get_or found (length found - 1 - k) 0
each_push found turned i count each k below = elim (cases_lt k (length turned)) [
  | inl early ↦ get_or_append_left turned (get_or found i 0 ∷ []) 0 k early ∙ each k early
  | inr late ↦
      let last : length turned ≡ k = omega (arith, below, late, length_push turned (get_or found i 0)) in
      let place : i ≡ length found - 1 - k = omega (arith, count, last) in
      get_or_push turned (get_or found i 0) 0 k last ∙ ap {A = ℕ} {B = ℕ} (λ j. get_or found j 0) place
]

-- one more find is turned, and it isn't the state
pub IsTurning-more : (found : List ℕ) (p i : ℕ) (turned : List ℕ) → 0 < i → (get_or found (i - 1) 0 ≡ p → ⊥) → IsTurning found p i turned → IsTurning found p (i - 1) (turned ++ get_or found (i - 1) 0 ∷ [])
IsTurning-more found p zero turned some other is = absurd (omega (arith, some))
IsTurning-more found p (suc i) turned some other is =
    let is_i : suc i - 1 ≡ i = omega arith in
    let inside : i < length found = omega (arith, is.count) in
    let more : take (suc i) found ≡ take i found ++ get_or found i 0 ∷ [] = ap {A = ℕ} {B = List ℕ} (λ n. take n found) (sym (add-one i)) ∙ take_more found i 0 inside in
    let other' : get_or found i 0 ≡ p → ⊥ = rw is_i at other in
    rw is_i (record {
      before = elim (Contains-push_cases (take i found) (get_or found i 0) p (rw more at is.before)) [
        | inl early ↦ early
        | inr last ↦ absurd (other' last)
      ];
      count = omega (arith, is.count, length_push turned (get_or found i 0));
      each = each_push found turned i (omega (arith, is.count)) is.each;
    })

-- one more find is turned, and it is the state
pub IsTurned-at : (found : List ℕ) (p i : ℕ) (turned : List ℕ) → 0 < i → get_or found (i - 1) 0 ≡ p → IsTurning found p i turned → IsTurned found p (turned ++ get_or found (i - 1) 0 ∷ [])
IsTurned-at found p zero turned some here is = absurd (omega (arith, some))
IsTurned-at found p (suc i) turned some here is =
    let is_i : suc i - 1 ≡ i = omega arith in
    let here' : get_or found i 0 ≡ p = rw is_i at here in
    let long : length (turned ++ get_or found i 0 ∷ []) ≡ length turned + 1 = length_push turned (get_or found i 0) in
    rw is_i (record {
      some = omega (arith, long);
      within = omega (arith, long, is.count);
      each = each_push found turned i (omega (arith, is.count)) is.each;
      last =
          let place : length turned ≡ length (turned ++ get_or found i 0 ∷ []) - 1 = omega (arith, long) in
          get_or_push turned (get_or found i 0) 0 (length (turned ++ get_or found i 0 ∷ []) - 1) place ∙ here';
    })

-- a trail that meets its state again, turned, is a cycle
pub IsTauCycle-from_trail : (s : System) (found : List ℕ) (p : ℕ) (turned : List ℕ) → IsTrail s found p → IsTurned found p turned → IsTauCycle s turned
IsTauCycle-from_trail s found p turned trail is = record {
  some = is.some;
  next = λ k below.
      let one : get_or turned k 0 ≡ get_or found (length found - 1 - (k + 1) + 1) 0 = is.each k (omega (arith, below)) ∙ ap {A = ℕ} {B = ℕ} (λ j. get_or found j 0) (omega (arith, below, is.within)) in
      let two = is.each (k + 1) below in
      rw (one, two) (trail.back (length found - 1 - (k + 1)) (omega (arith, below, is.within)));
  last =
      let first : get_or turned 0 0 ≡ get_or found (length found - 1) 0 = is.each 0 is.some ∙ ap {A = ℕ} {B = ℕ} (λ j. get_or found j 0) (omega arith) in
      rw (is.last, first) (trail.last (length found - 1) (omega (arith, is.some, is.within)));
}

-- what was read at a state with a count is its source
pub read_source : (s : System) (counts sources : List ℕ) (q p : ℕ) → IsPeeled s counts → AreSources s counts (length s.moves) sources → q < s.states → 0 < get_or counts q 0 → p ≡ get_or sources q p → IsSource s counts q p
read_source s counts sources q p peeled are below some read =
    let e : p ≡ get_or sources q 0 = get_or_read sources q p (omega (arith, below, are.long)) read 0 in
    rw e (source_of s counts sources q peeled are below some)
