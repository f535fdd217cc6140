-- Laws on the places of states: what has one keeps it, and one state fewer has none. Laws in the form in which the code
-- meets them.
use Rattle.std.proofs.Common.{◌≡◌, ◌≢◌, ℕ, ◌+◌, ◌-◌, ◌<◌, ◌≤◌, List, [], ◌∷◌, ◌++◌, length, get_or, set, take, drop, Bool, Option, Some, None, ◌⊎◌, inl, inr, All, Contains, refl, sym, ap, ◌∙◌, arith}
use Rattle.std.specs.List.{sum_by}
use Rattle.std.proofs.lemmas.List.{get_or-set_same, get_or-set_other, get_or_default, get_or_push, length_push, take-append-le, take_all, length-drop}
use Rattle.std.proofs.lemmas.List.Sums.{sum_by-set}
use Rattle.std.proofs.lemmas.List.Elements.{All-contains, Contains-push_cases}
use Rattle.std.proofs.lemmas.Bool.{cases_eq, cases_lt}
use Rattle.lts_base.specs.declared.action.Act.{Act}
use Rattle.lts_base.specs.declared.action.Act.TheVariants.{Tau, Label}
use Rattle.lts_base.specs.declared.action.Move.{Move}
use Rattle.lts_base.specs.System.{System, IsSystem, IsMoveOf, label_count, HasMove, AreMovesOf}
use Rattle.lts_base.specs.System.{TauLeads}
use Rattle.lts_base.proofs.Leads.{HasMove-from_parts}
use Rattle.lts_base.proofs.TauLaws.{TauLeads-join, TauLeads-move}
use Rattle.lts_base.specs.declared.descent.Block.{Block}
use Rattle.lts_base.specs.Descent.{IsKept, IsDescent, IsSource, IsFollowed, IsDone, NoneOpen, IsOpenTo, IsOpenFrom, AreKept, AreMarked}
use Rattle.lts_base.proofs.DescentLaws.{push_cases, IsDescent-open, IsDescent-push, IsDescent-pop, IsDescent-popped, IsDescent-reaches}
use Rattle.lts_base.proofs.DescentSteps.{IsDescent-enter, IsDescent-close}

-- 1 for a state without a place
abbrev pub is_new : Option ℕ → ℕ
is_new None = 1
is_new (Some i) = 0

-- a state gets a place, so one fewer has none
pub new_falls : (places : List (Option ℕ)) (w k : ℕ) → w < length places → get_or places w None ≡ None → sum_by is_new (set places w (Some k)) < sum_by is_new places
new_falls places w k below new =
    let all = sum_by-set is_new places w (Some k) None below in
    let one : is_new (get_or places w None) ≡ 1 = ap {A = Option ℕ} {B = ℕ} is_new new in
    omega (arith, all, one)

-- what has a place keeps it where a state without one gets one
pub IsKept-set : (old places : List (Option ℕ)) (w k : ℕ) → get_or places w None ≡ None → IsKept old places → IsKept old (set places w (Some k))
IsKept-set old places w k new kept p i e = elim (cases_eq p w) [
  | inl here ↦ absurd (
      let f : get_or places w None ≡ Some i = rw here at (kept p i e) in
      let g : None ≡ Some i = sym new ∙ f in
      cc)
  | inr other ↦ get_or-set_other places w p (Some k) None other ∙ kept p i e
]

-- what had a place has one
pub IsKept-seen : (old new : List (Option ℕ)) (p : ℕ) → IsKept old new → get_or old p None ≢ None → get_or new p None ≢ None
IsKept-seen old new p kept seen none = go (get_or old p None) refl
  where
    go : (o : Option ℕ) → get_or old p None ≡ o → ⊥
    go None e = seen e
    go (Some i) e = let f : Some i ≡ None = sym (kept p i e) ∙ none in cc

-- a state that gets a place has one
pub set_seen : (places : List (Option ℕ)) (w k : ℕ) → w < length places → get_or (set places w (Some k)) w None ≢ None
set_seen places w k below e = let f : Some k ≡ None = sym (get_or-set_same places w (Some k) None below) ∙ e in cc

-- the blocks up to the last one that doesn't start after the place
pub AreKept-found : (blocks : List Block) (p n : ℕ) (d0 : Block) → ((j k : ℕ) (d : Block) → j < k → k < length blocks → (get_or blocks j d).start ≤ (get_or blocks k d).start) → 0 < n → n ≤ length blocks →
    (get_or blocks (n - 1) d0).start ≤ p → ((j : ℕ) (d : Block) → n ≤ j → j < length blocks → p < (get_or blocks j d).start) → AreKept blocks p n
AreKept-found blocks p n d0 sorted some within last above = record {
  within = within;
  below = λ j d under.
      let at : (get_or blocks (n - 1) d).start ≤ p = rw (get_or_default blocks (n - 1) d0 d (omega (arith, some, within))) at last in
      elim (cases_lt j (n - 1)) [
        | inl before ↦ let less = sorted j (n - 1) d before (omega (arith, some, within)) in omega (arith, less, at)
        | inr here ↦ let same : j ≡ n - 1 = omega (arith, here, under, some) in rw same at
      ];
  above = above;
}

-- the last block is taken from the path
pub IsDescent-closed : (s : System) (places : List (Option ℕ)) (path path' : List ℕ) (blocks blocks' : List Block) (pending : List ℕ) (flags flags' : List Bool) (start n : ℕ) →
    (front : List Block) × (b : Block) × (blocks ≡ front ++ b ∷ []) × (b.start ≡ start) × (length pending ≤ b.base) →
    path' ≡ take start path → blocks' ≡ take (n - 1) blocks → n ≡ length blocks →
    (AreMarked (take (length path - start) (drop start path)) flags flags' × (start + 1 < length path)) ⊎ ((flags' ≡ flags) × (length path ≤ start + 1)) →
    IsDescent s NoneOpen places path blocks pending flags → IsDescent s NoneOpen places path' blocks' pending flags'
IsDescent-closed s places path path' blocks blocks' pending flags flags' start n (front, b, whole, at, over) is_path is_blocks long marks is =
    let m : n - 1 ≡ length front = omega (arith, long, ap (length {A = Block}) whole, length_push front b) in
    let e : take (n - 1) blocks ≡ front = rw (m, whole) (take-append-le (length front) front (b ∷ []) (omega arith) ∙ take_all (length front) front (omega arith)) in
    let f : take (length path - start) (drop start path) ≡ drop start path = take_all (length path - start) (drop start path) (omega (arith, length-drop start path)) in
    let marks' = rw (f, ← at) at marks in
    rw (is_path, is_blocks, e, ← at) (IsDescent-close s places path front pending flags flags' b over marks' (rw whole at is))

-- the state that was looked at is done
pub IsDescent-missed : (s : System) (places : List (Option ℕ)) (path : List ℕ) (blocks : List Block) (pending : List ℕ) (flags : List Bool) (w p : ℕ) →
    get_or places w None ≡ Some p → (p < length path → get_or path p 0 ≢ w) → IsDescent s (IsOpenTo w) places path blocks pending flags → IsDescent s NoneOpen places path blocks pending flags
IsDescent-missed s places path blocks pending flags w p place away is = IsDescent-open s (IsOpenTo w) NoneOpen places path blocks pending flags (λ i q below has same. inr (inl (rw same done))) is
  where
    done : IsDone places path w
    done = record {
      was = (p, place);
      gone = λ i below e.
          let f : get_or places w None ≡ Some i = rw e at (is.standing.placed i below) in
          let g : Some i ≡ Some p = sym f ∙ place in
          let same : i ≡ p = cc in
          away (rw same at below) (rw same at e);
    }

-- what is known of a state that was taken from those to be looked at
pub record IsLooked (s : System) (places : List (Option ℕ)) (path : List ℕ) (blocks : List Block) (pending : List ℕ) (flags : List Bool) (w : ℕ) : Type 0 where
  pub low : w < s.states
  pub bases : All (λ (b : Block). b.base ≤ length pending) blocks
  pub source : (i : ℕ) × IsSource s path blocks (length pending) w i
  pub leads : (i : ℕ) → i < length path → TauLeads s (get_or path i 0) w
  pub descent : IsDescent s (IsOpenTo w) places path blocks pending flags

pub IsLooked-pop : (s : System) (places : List (Option ℕ)) (path : List ℕ) (blocks front : List Block) (pending rest : List ℕ) (flags : List Bool) (w : ℕ) (b : Block) →
    pending ≡ rest ++ w ∷ [] → blocks ≡ front ++ b ∷ [] → b.base < length pending → IsDescent s NoneOpen places path blocks pending flags → IsLooked s places path blocks rest flags w
IsLooked-pop s places path blocks front pending rest flags w b is_todo is_blocks base is = record {
  low = known.0;
  bases = bases;
  source = known.1;
  leads = λ i below. TauLeads-join s (get_or path i 0) (get_or path known.1.0 0) w (IsDescent-reaches s NoneOpen places path blocks pending flags w known.1.0 bases' source' is i below) (TauLeads-move s (get_or path known.1.0 0) w known.1.1.1);
  descent = IsDescent-pop s places path blocks rest flags w bases whole;
}
  where
    whole : IsDescent s NoneOpen places path blocks (rest ++ w ∷ []) flags
    whole = rw is_todo at is

    long : length pending ≡ length rest + 1
    long = ap (length {A = ℕ}) is_todo ∙ length_push rest w

    known : (w < s.states) × ((i : ℕ) × IsSource s path blocks (length rest) w i)
    known = IsDescent-popped s places path blocks rest flags w whole

    bases : All (λ (b : Block). b.base ≤ length rest) blocks
    bases k d below = elim (push_cases front b k (rw is_blocks at below)) [
      | inl before ↦
          let pair = (rw is_blocks at is.standing.sorted) k (length front) d before (omega (arith, length_push front b)) in
          let last : (get_or (front ++ b ∷ []) (length front) d).base ≡ b.base = ap (λ (x : Block). x.base) (get_or_push front b d (length front) refl) in
          rw is_blocks (omega (arith, pair.1, last, base, long))
      | inr here ↦
          let last : (get_or (front ++ b ∷ []) (length front) d).base ≡ b.base = ap (λ (x : Block). x.base) (get_or_push front b d (length front) refl) in
          rw (is_blocks, here) (omega (arith, last, base, long))
    ]

    bases' : All (λ (b : Block). b.base ≤ length pending) blocks
    bases' k d below = omega (arith, bases k d below, long)

    source' : IsSource s path blocks (length pending) w known.1.0
    source' = (known.1.1.0, known.1.1.1, λ b inside under. last b inside, λ b inside under. (let (k, below, at) = inside in rw at at (bases' k b below)))
      where
        last : (b : Block) → Contains blocks b → b.start ≤ known.1.0
        last b inside = known.1.1.2 b inside (let (k, below, at) = inside in rw at at (bases k b below))

-- the descent has gone to a state, none of whose moves has been looked at
pub IsDescent-entered : (s : System) (places : List (Option ℕ)) (path : List ℕ) (blocks : List Block) (pending : List ℕ) (flags : List Bool) (ms : List Move) (w : ℕ) (b0 : Block) →
    b0.start ≡ length path → b0.base ≡ length pending → w < s.states → get_or places w None ≡ None → ((i : ℕ) → i < length path → TauLeads s (get_or path i 0) w) → AreMovesOf s w ms →
    IsDescent s (IsOpenTo w) places path blocks pending flags → IsDescent s (IsOpenFrom (length path) ms 0) (set places w (Some (length path))) (path ++ w ∷ []) (blocks ++ b0 ∷ []) pending flags
IsDescent-entered s places path blocks pending flags ms w b0 start base low new leads these is =
    IsDescent-open s (λ i q. i ≡ length path) (IsOpenFrom (length path) ms 0) (set places w (Some (length path))) (path ++ w ∷ []) (blocks ++ b0 ∷ []) pending flags open_now
    (IsDescent-enter s places path blocks pending flags w b0 start base low new leads is)
  where
    open_now : (i q : ℕ) → i < length (path ++ w ∷ []) → HasMove s (get_or (path ++ w ∷ []) i 0) Tau q → i ≡ length path → IsOpenFrom (length path) ms 0 i q ⊎ IsFollowed (set places w (Some (length path))) (path ++ w ∷ []) (blocks ++ b0 ∷ []) pending flags i q
    open_now i q below has here =
        let e : get_or (path ++ w ∷ []) i 0 ≡ w = get_or_push path w 0 i (sym here) in
        let m : Move = record { from = get_or (path ++ w ∷ []) i 0; act = Tau; to = q } in
        let (j, under, at) = these.all m e has in
        inl (here, (j, m, omega arith, under, ap {A = Move} {B = Act} (λ x. x.act) at, ap {A = Move} {B = ℕ} (λ x. x.to) at))

-- the next move of the last state carries Tau
pub IsDescent-move : (s : System) (A : ℕ → ℕ → Type 0) (places places0 : List (Option ℕ)) (path path0 : List ℕ) (blocks blocks0 : List Block) (pending todo0 : List ℕ) (flags flags0 : List Bool) (ms : List Move) (i t w : ℕ) (d : Move) (b0 : Block) →
    IsSystem s → AreMovesOf s w ms → i < length ms → (get_or ms i d).act ≡ Tau → (get_or ms i d).to ≡ t → path ≡ path0 ++ w ∷ [] → blocks ≡ blocks0 ++ b0 ∷ [] → b0.start ≡ length path0 → IsDescent s A places0 path0 blocks0 todo0 flags0 →
    IsDescent s (IsOpenFrom (length path0) ms i) places path blocks pending flags → IsDescent s (IsOpenFrom (length path0) ms (i + 1)) places path blocks (pending ++ t ∷ []) flags
IsDescent-move s A places places0 path path0 blocks blocks0 pending todo0 flags flags0 ms i t w d b0 system these below tau to is_path is_blocks start before is =
    IsDescent-push s (IsOpenFrom (length path0) ms i) (IsOpenFrom (length path0) ms (i + 1)) places path blocks pending flags t (length path0) (rw to at fits.to) (omega (arith, ap (length {A = ℕ}) is_path, length_push path0 w)) has last next is
  where
    inside : Contains s.moves (get_or ms i d)
    inside = (these.each i d below).1

    fits : IsMoveOf s.states (label_count s) (get_or ms i d)
    fits = let (j, under, at) = inside in rw at at (system.moves j (get_or ms i d) under)

    here : get_or path (length path0) 0 ≡ w
    here = rw is_path (get_or_push path0 w 0 (length path0) refl)

    has : HasMove s (get_or path (length path0) 0) Tau t
    has = rw to at (HasMove-from_parts s (get_or ms i d) (get_or path (length path0) 0) Tau ((these.each i d below).0 ∙ sym here) tau inside)

    last : (b : Block) → Contains blocks b → b.start ≤ length path0
    last b within = elim (Contains-push_cases blocks0 b0 b (rw is_blocks at within)) [
      | inl old ↦ (All-contains (λ (b : Block). (b.start ≤ length path0) × (b.base ≤ length todo0)) blocks0 b before.within old).0
      | inr same ↦ rw same at (let e : b0.start ≤ length path0 = omega (arith, start) in e)
    ]

    next : (j q : ℕ) → IsOpenFrom (length path0) ms i j q → IsOpenFrom (length path0) ms (i + 1) j q ⊎ (q ≡ t)
    next j q (at, (l, e, after, under, act, leads)) = elim (cases_eq l i) [
      | inl same ↦
          let leads' : (get_or ms i e).to ≡ q = rw same at leads in
          inr (sym leads' ∙ ap {A = Move} {B = ℕ} (λ x. x.to) (get_or_default ms i e d below) ∙ to)
      | inr other ↦ inl (at, (l, e, omega (arith, after, other), under, act, leads))
    ]

-- the next move of the last state carries a label
pub IsDescent-label : (s : System) (places : List (Option ℕ)) (path : List ℕ) (blocks : List Block) (pending : List ℕ) (flags : List Bool) (ms : List Move) (k i a : ℕ) (d : Move) →
    i < length ms → (get_or ms i d).act ≡ Label a → IsDescent s (IsOpenFrom k ms i) places path blocks pending flags → IsDescent s (IsOpenFrom k ms (i + 1)) places path blocks pending flags
IsDescent-label s places path blocks pending flags ms k i a d below label is = IsDescent-open s (IsOpenFrom k ms i) (IsOpenFrom k ms (i + 1)) places path blocks pending flags next is
  where
    next : (j q : ℕ) → j < length path → HasMove s (get_or path j 0) Tau q → IsOpenFrom k ms i j q → IsOpenFrom k ms (i + 1) j q ⊎ IsFollowed places path blocks pending flags j q
    next j q _ _ (at, (l, e, after, under, act, leads)) = elim (cases_eq l i) [
      | inl same ↦ absurd (
          let f : (get_or ms i e).act ≡ Tau = rw same at act in
          let g : (get_or ms i e).act ≡ Label a = ap {A = Move} {B = Act} (λ x. x.act) (get_or_default ms i e d below) ∙ label in
          let h : Tau ≡ Label a = sym f ∙ g in
          cc)
      | inr other ↦ inl (at, (l, e, omega (arith, after, other), under, act, leads))
    ]

-- all moves of the last state have been looked at
pub IsDescent-moved : (s : System) (places : List (Option ℕ)) (path : List ℕ) (blocks : List Block) (pending : List ℕ) (flags : List Bool) (ms : List Move) (k i : ℕ) → length ms ≤ i →
    IsDescent s (IsOpenFrom k ms i) places path blocks pending flags → IsDescent s NoneOpen places path blocks pending flags
IsDescent-moved s places path blocks pending flags ms k i over is = IsDescent-open s (IsOpenFrom k ms i) NoneOpen places path blocks pending flags (λ j q below has open_now. absurd (omega (arith, open_now.1.2, open_now.1.3, over))) is

-- the descent may begin at a state that it hasn't come to, where no block is left
pub IsDescent-begin : (s : System) (places : List (Option ℕ)) (path : List ℕ) (blocks : List Block) (pending : List ℕ) (flags : List Bool) (w : ℕ) →
    IsDescent s NoneOpen places path blocks pending flags → IsDescent s (IsOpenTo w) places path blocks pending flags
IsDescent-begin s places path blocks pending flags w is = IsDescent-open s NoneOpen (IsOpenTo w) places path blocks pending flags (λ j q below has none. absurd none) is
