-- Laws on how far the descent is: at the start, at what is to be looked at, and at the end.
use Rattle.std.proofs.Common.{◌≡◌, ◌≢◌, ℕ, ◌<◌, ◌≤◌, List, [], ◌∷◌, ◌++◌, length, get_or, replicate, Option, Some, None, Bool, false, ◌⊎◌, inl, inr, All, Contains, refl, sym, ◌∙◌, arith}
use Rattle.std.proofs.lemmas.List.{length_push, get_or_append_left, get_or_push, get_or-replicate, get_or_past, length-replicate}
use Rattle.std.proofs.lemmas.List.Elements.{All-nil, All-push, All-contains, All-weaker}
use Rattle.std.proofs.lemmas.Bool.{cases_lt, false≢true}
use Rattle.lts_base.specs.declared.action.Act.TheVariants.{Tau}
use Rattle.lts_base.specs.System.{System, HasMove}
use Rattle.lts_base.specs.System.{TauLeads}
use Rattle.lts_base.specs.declared.descent.Block.{Block}
use Rattle.lts_base.specs.System.{AreCycleFlags}
use Rattle.lts_base.specs.Descent.{IsDone, IsFollowed, IsSource, IsDescent, NoneOpen, IsOpenTo}

-- what is read of a list of one item is the item, also past the end
pub get_or-same : {X : Type 0} (n p : ℕ) (x : X) → get_or (replicate n x) p x ≡ x
get_or-same n p x = elim (cases_lt p n) [
  | inl below ↦ get_or-replicate n p x x below
  | inr past ↦ get_or_past (replicate n x) p x (rw length-replicate past)
]

-- an index of a list with one more item is one of the list or the last one
pub push_cases : {X : Type 0} (xs : List X) (x : X) (i : ℕ) → i < length (xs ++ x ∷ []) → (i < length xs) ⊎ (i ≡ length xs)
push_cases xs x i below = elim (cases_lt i (length xs)) [
  | inl low ↦ inl low
  | inr high ↦ inr (omega (arith, high, below, length_push xs x))
]

-- the descent that has come to no state
pub IsDescent-none : (s : System) (n : ℕ) → n ≡ s.states → IsDescent s NoneOpen (replicate n None) [] [] [] (replicate n false)
IsDescent-none s n long = record {
  standing = record {
    places_long = length-replicate n None ∙ long;
    flags_long = length-replicate n false ∙ long;
    path_within = All-nil (λ p. p < s.states);
    placed = λ i below. absurd (omega (arith, below));
    sorted = λ j k d before below. absurd (omega (arith, below));
    first = λ below. absurd (omega (arith, below));
    leads = λ i k below. absurd (omega (arith, below));
    closed = λ p q done. absurd (let e = sym (get_or-same n p None) ∙ done.was.1 in cc);
    sound = λ p t. absurd (false≢true (sym (get_or-same n p false) ∙ t));
    complete = λ p done. absurd (let e = sym (get_or-same n p None) ∙ done.was.1 in cc);
  };
  pending_within = All-nil (λ p. p < s.states);
  within = All-nil (λ (b : Block). (b.start ≤ 0) × (b.base ≤ 0));
  followed = λ i q below. absurd (omega (arith, below));
  sources = λ t below. absurd (omega (arith, below));
}

-- what is followed is so with one more state to be looked at
followed-later : (places : List (Option ℕ)) (path : List ℕ) (blocks : List Block) (pending : List ℕ) (w : ℕ) (flags : List Bool) (i q : ℕ) → IsFollowed places path blocks pending flags i q → IsFollowed places path blocks (pending ++ w ∷ []) flags i q
followed-later places path blocks pending w flags i q (inl done) = inl done
followed-later places path blocks pending w flags i q (inr (inl ahead)) = inr (inl ahead)
followed-later places path blocks pending w flags i q (inr (inr (t, below, at, after))) =
    inr (inr (t, omega (arith, below, length_push pending w), get_or_append_left pending (w ∷ []) 0 t below ∙ at, after))

-- the moves that are open are so, or have been followed
pub IsDescent-open : (s : System) (A B : ℕ → ℕ → Type 0) (places : List (Option ℕ)) (path : List ℕ) (blocks : List Block) (pending : List ℕ) (flags : List Bool) →
    ((i q : ℕ) → i < length path → HasMove s (get_or path i 0) Tau q → A i q → B i q ⊎ IsFollowed places path blocks pending flags i q) →
    IsDescent s A places path blocks pending flags → IsDescent s B places path blocks pending flags
IsDescent-open s A B places path blocks pending flags f is = record {
  standing = is.standing;
  pending_within = is.pending_within;
  within = is.within;
  followed = λ i q below has. elim (is.followed i q below has) [ inl a ↦ f i q below has a | inr b ↦ inr b ];
  sources = is.sources;
}

-- one more state is to be looked at
pub IsDescent-push : (s : System) (A B : ℕ → ℕ → Type 0) (places : List (Option ℕ)) (path : List ℕ) (blocks : List Block) (pending : List ℕ) (flags : List Bool) (w j : ℕ) →
    w < s.states → j < length path → HasMove s (get_or path j 0) Tau w → ((b : Block) → Contains blocks b → b.start ≤ j) → ((i q : ℕ) → A i q → B i q ⊎ (q ≡ w)) →
    IsDescent s A places path blocks pending flags → IsDescent s B places path blocks (pending ++ w ∷ []) flags
IsDescent-push s A B places path blocks pending flags w j low source has_w last f is = record {
  standing = is.standing;
  pending_within = All-push (λ p. p < s.states) pending w is.pending_within low;
  within = All-weaker (λ (b : Block). (b.start ≤ length path) × (b.base ≤ length pending)) (λ (b : Block). (b.start ≤ length path) × (b.base ≤ length (pending ++ w ∷ []))) (λ b w'. (w'.0, omega (arith, w'.1, length_push pending w))) blocks is.within;
  followed = λ i q below has. elim (is.followed i q below has) [
    | inl a ↦ elim (f i q a) [
      | inl b ↦ inl b
      | inr same ↦ inr (inr (inr (length pending, omega (arith, length_push pending w), get_or_push pending w 0 (length pending) refl ∙ sym same, λ b inside after. (base b inside))))
    ]
    | inr b ↦ inr (followed-later places path blocks pending w flags i q b)
  ];
  sources = λ t below. elim (push_cases pending w t below) [
    | inl before ↦ let old = is.sources t before in (old.0, rw (get_or_append_left pending (w ∷ []) 0 t before) old.1)
    | inr here ↦ (j, rw (here, get_or_push pending w 0 (length pending) refl) (source, has_w, λ b inside under. last b inside, λ b inside before. base b inside))
  ];
}
  where
    base : (b : Block) → Contains blocks b → b.base ≤ length pending
    base b inside = (All-contains (λ (b : Block). (b.start ≤ length path) × (b.base ≤ length pending)) blocks b is.within inside).1

-- the last state that is to be looked at is looked at
pub IsDescent-pop : (s : System) (places : List (Option ℕ)) (path : List ℕ) (blocks : List Block) (pending : List ℕ) (flags : List Bool) (w : ℕ) →
    All (λ (b : Block). b.base ≤ length pending) blocks →
    IsDescent s NoneOpen places path blocks (pending ++ w ∷ []) flags → IsDescent s (IsOpenTo w) places path blocks pending flags
IsDescent-pop s places path blocks pending flags w low is = record {
  standing = is.standing;
  pending_within = λ t d below. rw (get_or_append_left pending (w ∷ []) d t below) at (is.pending_within t d (omega (arith, below, length_push pending w)));
  within = λ k d below. ((is.within k d below).0, low k d below);
  followed = λ i q below has. elim (is.followed i q below has) [
    | inl none ↦ absurd none
    | inr (inl done) ↦ inr (inl done)
    | inr (inr (inl ahead)) ↦ inr (inr (inl ahead))
    | inr (inr (inr (t, under, at, after))) ↦ elim (push_cases pending w t under) [
      | inl before ↦ inr (inr (inr (t, before, sym (get_or_append_left pending (w ∷ []) 0 t before) ∙ at, after)))
      | inr here ↦ inl (sym at ∙ get_or_push pending w 0 t (sym here))
    ]
  ];
  sources = λ t below.
      let old = is.sources t (omega (arith, below, length_push pending w)) in
      (old.0, rw (get_or_append_left pending (w ∷ []) 0 t below) at old.1);
}

-- the state that is looked at is one, and a move with Tau from the last block leads to it
pub IsDescent-popped : (s : System) (places : List (Option ℕ)) (path : List ℕ) (blocks : List Block) (pending : List ℕ) (flags : List Bool) (w : ℕ) →
    IsDescent s NoneOpen places path blocks (pending ++ w ∷ []) flags → (w < s.states) × ((i : ℕ) × IsSource s path blocks (length pending) w i)
IsDescent-popped s places path blocks pending flags w is =
    let under : length pending < length (pending ++ w ∷ []) = omega (arith, length_push pending w) in
    let at : (d : ℕ) → get_or (pending ++ w ∷ []) (length pending) d ≡ w = λ d. get_or_push pending w d (length pending) refl in
    let old = is.sources (length pending) under in
    (rw (at 0) at (is.pending_within (length pending) 0 under), (old.0, rw (at 0) at old.1))

-- all of the last block's places are behind the source's, and moves with Tau lead from each place of the path to the state
pub IsDescent-reaches : (s : System) (A : ℕ → ℕ → Type 0) (places : List (Option ℕ)) (path : List ℕ) (blocks : List Block) (pending : List ℕ) (flags : List Bool) (w j : ℕ) →
    All (λ (b : Block). b.base ≤ length pending) blocks → IsSource s path blocks (length pending) w j → IsDescent s A places path blocks pending flags →
    (i : ℕ) → i < length path → TauLeads s (get_or path i 0) (get_or path j 0)
IsDescent-reaches s A places path blocks pending flags w j low source is i below =
    is.standing.leads i j below source.0 (λ b inside before. source.2 b inside (All-contains (λ (b : Block). b.base ≤ length pending) blocks b low inside))

-- where no block is left, the path is empty
pub IsDescent-over : (s : System) (A : ℕ → ℕ → Type 0) (places : List (Option ℕ)) (path pending : List ℕ) (flags : List Bool) → IsDescent s A places path [] pending flags → length path ≡ 0
IsDescent-over s A places path pending flags is = elim (cases_lt 0 (length path)) [
  | inl some ↦ let (b, inside, start) = is.standing.first some in absurd (let below : inside.0 < 0 = inside.1 in omega (arith, below))
  | inr none ↦ omega (arith, none)
]

-- where the descent has come to each state and no block is left, the flags are right
pub AreCycleFlags-all : (s : System) (A : ℕ → ℕ → Type 0) (places : List (Option ℕ)) (path blocks pending : _) (flags : List Bool) → blocks ≡ [] → ((p : ℕ) → p < s.states → get_or places p None ≢ None) → IsDescent s A places path blocks pending flags → AreCycleFlags s flags
AreCycleFlags-all s A places path blocks pending flags none all is = record {
  long = is.standing.flags_long;
  each = λ p below. (is.standing.sound p, is.standing.complete p (done p (all p below)));
}
  where
    over : length path ≡ 0
    over = IsDescent-over s A places path pending flags (rw none at is)

    some : (o : Option ℕ) → o ≢ None → (i : ℕ) × (o ≡ Some i)
    some None apart = absurd (apart refl)
    some (Some i) apart = (i, refl)

    done : (p : ℕ) → get_or places p None ≢ None → IsDone places path p
    done p apart = record {
      was = some (get_or places p None) apart;
      gone = λ i below. absurd (omega (arith, below, over));
    }
