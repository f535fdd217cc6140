-- Laws on searches that follow moves, forwards or backwards.
use Rattle.std.proofs.Common.{◌≡◌, ℕ, ◌+◌, ◌<◌, ◌≤◌, List, [], ◌∷◌, ◌++◌, length, get_or, set, replicate, All, Contains, Bool, true, false, inl, inr, refl, sym, ◌∙◌, ap, arith, length-set}
use Rattle.std.proofs.lemmas.List.{append-nil, append_assoc, length-append, get_or_append_left, get_or_default, get_or-set_same, get_or-set_other, get_or_past, get_or-replicate, length-replicate}
use Rattle.std.proofs.lemmas.List.Elements.{All-nil, All-push, All-append, All-weaker, All-contains, Contains-append_left, Contains-get_or}
use Rattle.std.proofs.lemmas.Bool.{cases_eq, cases_lt, false≢true}
use Rattle.lts_base.specs.declared.action.Act.{Act}
use Rattle.lts_base.specs.declared.action.Act.TheVariants.{Tau, Label}
use Rattle.lts_base.specs.declared.action.Move.{Move}
use Rattle.lts_base.specs.System.{System, HasMove, Takes, AreMovesOf}
use Rattle.lts_base.specs.Path.{Step, Along, Rest, IsPath, item_of, trace_of}
use Rattle.lts_base.proofs.Leads.{act_cases, HasMove-from_parts, Leads-here, Leads-append, Leads-tau, Ends-push, Ends-silent, IsSeen-along}
use Rattle.lts_base.proofs.ListLaws.{none_contained}
use Rattle.lts_base.specs.Finds.{IsAdded, Adds}
use Rattle.lts_base.proofs.FindLaws.{Contains-added}
use Rattle.lts_shape.specs.Marks.{AreMarks, AreMarksOf}
use Rattle.lts_shape.specs.Inputs.{EndsSome, CanTake, AreTakers}

-- states with P were added, and no others
abbrev pub IsAdding : (ℕ → Type 0) → List ℕ → List ℕ → Type 0
IsAdding P old new = (more : List ℕ) × (new ≡ old ++ more) × All P more

pub IsAdding-none : (P : ℕ → Type 0) (old : List ℕ) → IsAdding P old old
IsAdding-none P old = ([], sym (append-nil old), All-nil P)

pub IsAdding-add : (P : ℕ → Type 0) (old now new : List ℕ) (q : ℕ) → P q → IsAdded now q new → IsAdding P old now → IsAdding P old new
IsAdding-add P old now new q has (inl (same, inside)) (more, is, all) = (more, same ∙ is, all)
IsAdding-add P old now new q has (inr grown) (more, is, all) =
    (more ++ q ∷ [], grown ∙ ap {A = List ℕ} {B = List ℕ} (λ z. z ++ q ∷ []) is ∙ append_assoc old more (q ∷ []), All-push P more q all has)

pub Contains-more : (now : List ℕ) (q : ℕ) (new : List ℕ) → IsAdded now q new → (r : ℕ) → Contains now r → Contains new r
Contains-more now q new (inl (same, inside)) r has = rw same has
Contains-more now q new (inr grown) r has = rw grown (Contains-append_left now (q ∷ []) r has)

pub Contains-adds : (P : ℕ → Type 0) (old new : List ℕ) (r : ℕ) → Adds P old new → Contains old r → Contains new r
Contains-adds P old new r adds has =
    let (more, grown, all) = adds.kept in
    rw grown (Contains-append_left old more r has)

-- of the moves of a state the first i have been looked at, and their targets were added
pub record IsLooking (P : ℕ → Type 0) (old new : List ℕ) (ms : List Move) (i : ℕ) : Type 0 where
  pub kept : IsAdding P old new
  pub looked : (k : ℕ) (d : Move) → k < i → Contains new (get_or ms k d).to

pub IsLooking-none : (P : ℕ → Type 0) (old : List ℕ) (ms : List Move) → IsLooking P old old ms 0
IsLooking-none P old ms = record { kept = IsAdding-none P old; looked = λ k d below. absurd (omega (arith, below)) }

pub IsLooking-more : (s : System) (p : ℕ) (old now new : List ℕ) (ms : List Move) (i : ℕ) (e : Move) → AreMovesOf s p ms → i < length ms → IsAdded now (get_or ms i e).to new →
    IsLooking (λ q. (act : Act) × HasMove s p act q) old now ms i → IsLooking (λ q. (act : Act) × HasMove s p act q) old new ms (i + 1)
IsLooking-more s p old now new ms i e these inside added is = record {
  kept =
      let each = these.each i e inside in
      IsAdding-add (λ q. (act : Act) × HasMove s p act q) old now new (get_or ms i e).to ((get_or ms i e).act, HasMove-from_parts s (get_or ms i e) p (get_or ms i e).act each.0 refl each.1) added is.kept;
  looked = λ k d below. elim (cases_lt k i) [
    | inl earlier ↦ Contains-more now (get_or ms i e).to new added (get_or ms k d).to (is.looked k d earlier)
    | inr late ↦
        let same : k ≡ i = omega (arith, late, below) in
        rw (same, get_or_default ms i d e inside) (Contains-added now (get_or ms i e).to new added)
  ];
}

pub IsLooking-all : (s : System) (p : ℕ) (old new : List ℕ) (ms : List Move) (n : ℕ) → AreMovesOf s p ms → length ms ≤ n → IsLooking (λ q. (act : Act) × HasMove s p act q) old new ms n → Adds (λ q. (act : Act) × HasMove s p act q) old new
IsLooking-all s p old new ms n these over is = record {
  kept = is.kept;
  all = λ q has.
      none_contained (λ (m : Move). Contains new m.to) ms n over is.looked
      (record { from = p; act = has.0; to = q }) (these.all (record { from = p; act = has.0; to = q }) refl has.1);
}

-- of all moves the first i have been looked at, and the states that those with the label leave were added
pub record IsGathering (s : System) (a : ℕ) (old new : List ℕ) (i : ℕ) : Type 0 where
  pub kept : IsAdding (λ q. Takes s q a) old new
  pub looked : (k : ℕ) (d : Move) → k < i → (get_or s.moves k d).act ≡ Label a → Contains new (get_or s.moves k d).from

pub IsGathering-none : (s : System) (a : ℕ) (old : List ℕ) → IsGathering s a old old 0
IsGathering-none s a old = record { kept = IsAdding-none (λ q. Takes s q a) old; looked = λ k d below. absurd (omega (arith, below)) }

IsGathering-skip : (s : System) (a : ℕ) (old new : List ℕ) (ms : List Move) (i : ℕ) (e : Move) → ms ≡ s.moves → i < length ms → ((get_or ms i e).act ≡ Label a → ⊥) → IsGathering s a old new i → IsGathering s a old new (i + 1)
IsGathering-skip s a old new ms i e is_ms inside other is = record {
  kept = is.kept;
  looked = λ k d below carries. elim (cases_lt k i) [
    | inl earlier ↦ is.looked k d earlier carries
    | inr late ↦
        let same : k ≡ i = omega (arith, late, below) in
        let inside' : i < length s.moves = rw is_ms at inside in
        let other' : (get_or s.moves i e).act ≡ Label a → ⊥ = rw is_ms at other in
        absurd (other' (rw (get_or_default s.moves i e d inside') (rw same at carries)))
  ];
}

-- the next move carries Tau
pub IsGathering-tau : (s : System) (a : ℕ) (old new : List ℕ) (ms : List Move) (i : ℕ) (e : Move) → ms ≡ s.moves → i < length ms → (get_or ms i e).act ≡ Tau → IsGathering s a old new i → IsGathering s a old new (i + 1)
IsGathering-tau s a old new ms i e is_ms inside tau is =
    IsGathering-skip s a old new ms i e is_ms inside (λ label. let no_act : Tau ≡ Label a = sym tau ∙ label in cc) is

-- the next move carries another label
pub IsGathering-other : (s : System) (a b : ℕ) (old new : List ℕ) (ms : List Move) (i : ℕ) (e : Move) → ms ≡ s.moves → i < length ms → (get_or ms i e).act ≡ Label b → (b ≡ a → ⊥) → IsGathering s a old new i → IsGathering s a old new (i + 1)
IsGathering-other s a b old new ms i e is_ms inside carries other is =
    IsGathering-skip s a old new ms i e is_ms inside (λ label. let act : Label b ≡ Label a = sym carries ∙ label in other (labels act)) is
  where
    labels : Label b ≡ Label a → b ≡ a
    labels act = cc

pub IsGathering-add : (s : System) (a b : ℕ) (old now new : List ℕ) (ms : List Move) (i : ℕ) (e : Move) → ms ≡ s.moves → i < length ms → (get_or ms i e).act ≡ Label b → b ≡ a → IsAdded now (get_or ms i e).from new →
    IsGathering s a old now i → IsGathering s a old new (i + 1)
IsGathering-add s a b old now new ms i e is_ms inside0 carries0 same_label added0 is = record {
  kept = IsAdding-add (λ q. Takes s q a) old now new m.from (m.to, HasMove-from_parts s m m.from (Label a) refl carries' (i, inside, get_or_default s.moves i m e inside)) added is.kept;
  looked = λ k d below carries. elim (cases_lt k i) [
    | inl earlier ↦ Contains-more now m.from new added (get_or s.moves k d).from (is.looked k d earlier carries)
    | inr late ↦
        let same : k ≡ i = omega (arith, late, below) in
        rw (same, get_or_default s.moves i d e inside) (Contains-added now m.from new added)
  ];
}
  where
    m : Move
    m = get_or s.moves i e

    inside : i < length s.moves
    inside = rw is_ms at inside0

    carries' : m.act ≡ Label a
    carries' = let label : m.act ≡ Label b = rw is_ms at carries0 in rw same_label at label

    added : IsAdded now m.from new
    added = rw is_ms at added0

pub IsGathering-all : (s : System) (a : ℕ) (old new : List ℕ) (ms : List Move) (n : ℕ) → ms ≡ s.moves → length ms ≤ n → IsGathering s a old new n → Adds (λ q. Takes s q a) old new
IsGathering-all s a old new ms n is_ms over is = record {
  kept = is.kept;
  all = λ q takes.
      none_contained (λ (m : Move). m.act ≡ Label a → Contains new m.from) s.moves n (rw is_ms at over) is.looked
      (record { from = q; act = Label a; to = takes.0 }) takes.1 refl;
}

-- all finds have P, and what R leads to from the first i finds was found
pub record IsFollowing (P : ℕ → Type 0) (R : ℕ → ℕ → Type 0) (found : List ℕ) (i : ℕ) : Type 0 where
  pub each : All P found
  pub closed : (k d r : ℕ) → k < i → R (get_or found k d) r → Contains found r
  pub within : i ≤ length found

pub IsFollowing-none : (P : ℕ → Type 0) (R : ℕ → ℕ → Type 0) (found : List ℕ) → All P found → IsFollowing P R found 0
IsFollowing-none P R found each = record { each = each; closed = λ k d r below. absurd (omega (arith, below)); within = omega arith }

pub IsFollowing-more : (P : ℕ → Type 0) (R : ℕ → ℕ → Type 0) (old new : List ℕ) (i p : ℕ) → ((q r : ℕ) → P q → R q r → P r) → i < length old → p ≡ get_or old i 0 → Adds (R p) old new → IsFollowing P R old i → IsFollowing P R new (i + 1)
IsFollowing-more P R old new i p keeps inside is_p adds is =
    let (more, grown, all) = adds.kept in
    let here : P p = rw is_p (is.each i 0 inside) in
    record {
      each = rw grown (All-append P old more is.each (All-weaker (R p) P (λ r leads. keeps p r here leads) more all));
      closed = λ k d r below leads.
          let low : k < length old = omega (arith, below, inside) in
          let leads' : R (get_or old k d) r = rw (grown, get_or_append_left old more d k low) at leads in
          elim (cases_lt k i) [
            | inl earlier ↦ rw grown (Contains-append_left old more r (is.closed k d r earlier leads'))
            | inr late ↦
                let same : k ≡ i = omega (arith, late, below) in
                let at_i : R (get_or old i d) r = rw same at leads' in
                adds.all r (rw (is_p, get_or_default old i 0 d inside) at_i)
          ];
      within =
          let longer : length new ≡ length old + length more = rw grown (length-append old more) in
          omega (arith, longer, inside);
    }

pub IsFollowing-all : (P : ℕ → Type 0) (R : ℕ → ℕ → Type 0) (found : List ℕ) (n : ℕ) → length found ≤ n → IsFollowing P R found n → (p r : ℕ) → Contains found p → R p r → Contains found r
IsFollowing-all P R found n over is p r inside leads =
    none_contained (λ p. R p r → Contains found r) found n over (λ k d below. is.closed k d r below) p inside leads

-- a move leads from a state that ends some trace to another one
pub EndsSome-step : (s : System) (p q : ℕ) → EndsSome s p → (act : Act) × HasMove s p act q → EndsSome s q
EndsSome-step s p q ends (Tau, has) = (ends.0, Ends-silent s ends.0 p q ends.1 (Leads-tau s p q has))
EndsSome-step s p q ends (Label a, has) = (ends.0 ++ item_of s a ∷ [], Ends-push s ends.0 p (item_of s a) q ends.1 (IsSeen-along s p a q has))

pub EndsSome-start : (s : System) → EndsSome s s.start
EndsSome-start s = ([], Leads-here s s.start)

-- the state with which a search begins was added
pub All-started : (P : ℕ → Type 0) (q : ℕ) (new : List ℕ) → P q → IsAdded [] q new → All P new
All-started P q new has (inl (same, inside)) = rw same (All-nil P)
All-started P q new has (inr grown) = rw grown (All-push P [] q (All-nil P) has)

-- finds that hold the start and all that moves lead to from them hold each state that ends some trace
pub found_reached : (s : System) (found : List ℕ) → Contains found s.start → ((p q : ℕ) → Contains found p → (act : Act) × HasMove s p act q → Contains found q) → (q : ℕ) → EndsSome s q → Contains found q
found_reached s found start closed q (σ, (steps, on, e)) = go steps s.start start on
  where
    go : (steps : List Step) (p : ℕ) → Contains found p → IsPath s p steps q → Contains found q
    go [] p here on = rw on at here
    go (Rest ∷ steps) p here on = go steps p here on.1
    go (Along m ∷ steps) p here on = go steps m.to (closed p m.to here (m.act, HasMove-from_parts s m p m.act on.0 refl on.1)) on.2

-- all states that take the input were found
abbrev pub HasTakers : System → ℕ → List ℕ → Type 0
HasTakers s a found = (q : ℕ) → Takes s q a → Contains found q

pub CanTake-here : (s : System) (a q : ℕ) → Takes s q a → CanTake s a q
CanTake-here s a q takes = (q, Leads-here s q, takes)

-- where a move with Tau leads to a state that can take the input, so can the state that it leaves
pub CanTake-step : (s : System) (a q p : ℕ) → CanTake s a q → HasMove s p Tau q → CanTake s a p
CanTake-step s a q p (r, leads, takes) has = (r, Leads-append s p q r [] [] (Leads-tau s p q has) leads, takes)

-- finds that hold all states that take the input, and all from which moves with Tau lead to them, are those that can take it
pub found_takers : (s : System) (a : ℕ) (found : List ℕ) → HasTakers s a found → ((q p : ℕ) → Contains found q → HasMove s p Tau q → Contains found p) → (q : ℕ) → CanTake s a q → Contains found q
found_takers s a found seeds closed q (r, (steps, on, e), takes) = go steps q on e
  where
    go : (steps : List Step) (p : ℕ) → IsPath s p steps r → trace_of s steps ≡ [] → Contains found p
    go [] p on e = rw on (seeds r takes)
    go (Rest ∷ steps) p on e = cc
    go (Along m ∷ steps) p on e = elim (act_cases m.act) [
      | inl tau ↦
          let e' : trace_of s steps ≡ [] = rw tau at e in
          closed m.to p (go steps m.to on.2 e') (HasMove-from_parts s m p Tau on.0 tau on.1)
      | inr (l, label) ↦
          let e' : item_of s l ∷ trace_of s steps ≡ [] = rw label at e in
          cc
    ]

pub AreTakers-all : (s : System) (a : ℕ) (found : List ℕ) (n : ℕ) → length found ≤ n → HasTakers s a found → IsFollowing (CanTake s a) (λ q p. HasMove s p Tau q) found n → AreTakers s a found
AreTakers-all s a found n over seeds is = record {
  each = is.each;
  all = found_takers s a found seeds (IsFollowing-all (CanTake s a) (λ q p. HasMove s p Tau q) found n over is);
}

-- only states that take the input were added to nothing
pub All-seeded : (s : System) (a : ℕ) (new : List ℕ) → Adds (λ q. Takes s q a) [] new → All (CanTake s a) new
All-seeded s a new adds =
    let (more, grown, all) = adds.kept in
    let e : new ≡ more = grown in
    rw e (All-weaker (λ q. Takes s q a) (CanTake s a) (λ q takes. CanTake-here s a q takes) more all)

pub AreMarks-none : (found : List ℕ) (states : ℕ) → AreMarks found 0 states (replicate states false)
AreMarks-none found states = record {
  long = length-replicate states false;
  each = λ q t. absurd (elim (cases_lt q states) [
    | inl below ↦ false≢true (sym (get_or-replicate states q false false below) ∙ t)
    | inr past ↦ false≢true (sym (get_or_past (replicate states false) q false (omega (arith, past, length-replicate states false))) ∙ t)
  ]);
  all = λ k below. absurd (omega (arith, below));
}

-- one more find is marked
pub AreMarks-more : (found : List ℕ) (n states : ℕ) (marks : List Bool) (q : ℕ) → n < length found → q ≡ get_or found n 0 → q < states → AreMarks found n states marks → AreMarks found (n + 1) states (set marks q true)
AreMarks-more found n states marks q inside is_q below is = record {
  long = length-set marks q true ∙ is.long;
  each = λ p t. elim (cases_eq p q) [
    | inl same ↦ rw (same, is_q) (Contains-get_or found n 0 inside)
    | inr other ↦ is.each p (sym (get_or-set_other marks q p true false other) ∙ t)
  ];
  all = λ k low. elim (cases_eq (get_or found k 0) q) [
    | inl same ↦ rw same here
    | inr other ↦ elim (cases_lt k n) [
      | inl earlier ↦ get_or-set_other marks q (get_or found k 0) true false other ∙ is.all k earlier
      | inr late ↦
          let last : k ≡ n = omega (arith, late, low) in
          absurd (other (ap {A = ℕ} {B = ℕ} (λ j. get_or found j 0) last ∙ sym is_q))
    ]
  ];
}
  where
    here : get_or (set marks q true) q false ≡ true
    here = get_or-set_same marks q true false (omega (arith, below, is.long))

pub AreMarks-all : (found : List ℕ) (n states : ℕ) (marks : List Bool) → length found ≤ n → AreMarks found n states marks → AreMarks found (length found) states marks
AreMarks-all found n states marks over is = record { long = is.long; each = is.each; all = λ k below. is.all k (omega (arith, below, over)) }

-- the marks of finds that are the states with P
pub AreMarksOf-from_found : (P : ℕ → Type 0) (found : List ℕ) (states : ℕ) (marks : List Bool) → All P found → ((q : ℕ) → P q → Contains found q) → AreMarks found (length found) states marks → AreMarksOf P states marks
AreMarksOf-from_found P found states marks each all is = record {
  long = is.long;
  each = λ q t. All-contains P found q each (is.each q t);
  all = λ q has. let (k, below, at) = all q has in rw (get_or_default found k 0 q below ∙ at) at (is.all k below);
}
