-- Laws on taking away the states that no move with Tau leads to.
use Rattle.std.proofs.Common.{◌≡◌, ◌≢◌, ℕ, zero, suc, ◌+◌, ◌-◌, ◌<◌, ◌≤◌, List, [], ◌∷◌, ◌++◌, length, get_or, set, take, drop, replicate, All, Contains, Bool, true, false, not, ◌&&◌, ◌||◌, ◌==◌, cond, inl, inr, refl, sym, ◌∙◌, ap, arith, add-one, length-set}
use Rattle.std.specs.List.{count_by, filter}
use Rattle.std.proofs.lemmas.List.{append_assoc, take_more, take_all, take-append-drop, take-append-le, length-take-le, get_or-take, length_push, length-append, get_or_append_left, get_or-set_same, get_or-set_other, get_or-replicate, length-replicate, get_or_default}
use Rattle.std.proofs.lemmas.List.Sums.{sum_by-cons, count_by_more_yes, count_by_more_no, count_by-le-length}
use Rattle.std.proofs.lemmas.List.Folds.{list_any-append, Any-from_list_any, list_any-from_Any}
use Rattle.std.proofs.lemmas.List.Elements.{All-nil, All-push, All-contains, Contains-push, Contains-append_left}
use Rattle.std.proofs.lemmas.List.Quantifiers.{all_pairs_push}
use Rattle.std.proofs.lemmas.Bool.{cases_eq, cases_lt, cases_Bool, false≢true}
use Rattle.std.proofs.lemmas.Bool.Decides.{Decides-eqb}
use Rattle.std.proofs.Math.Seq.{drop-cons, get_or-append_seam, take-append_seam}
use Rattle.std.proofs.Math.ListN.{drop_of_length-le}
use Rattle.lts_base.specs.declared.action.Act.{Act}
use Rattle.lts_base.specs.declared.action.Act.TheVariants.{Tau, Label}
use Rattle.lts_base.specs.declared.action.Move.{Move}
use Rattle.lts_base.specs.System.{System, IsSystem, IsMoveOf, label_count, HasMove, leaves, AreMovesOf}
use Rattle.lts_base.specs.Path.{Step, Along, Rest, IsPath, item_of, trace_of}
use Rattle.lts_base.specs.Shape.{IsConvergent}
use Rattle.lts_base.proofs.Leads.{act_cases, HasMove-from_parts}
use Rattle.lts_base.proofs.ListLaws.{Contains-first_cases, Contains-first, Contains-rest, Contains-none}
use Rattle.lts_base.specs.Finds.{IsAdded}
use Rattle.lts_shape.specs.Peel.{is_into, is_among, is_left_into, AreCounts, AreZeros, IsPeeling, IsPeeled, IsFoundAtZero}

count-cons : (f : Move → Bool) (m : Move) (ms : List Move) → count_by f (m ∷ ms) ≡ cond (f m) 1 0 + count_by f ms
count-cons f m ms = sum_by-cons (λ (x : Move). cond (f x) 1 0) m ms

count-yes : (f : Move → Bool) (m : Move) (ms : List Move) → f m ≡ true → count_by f (m ∷ ms) ≡ 1 + count_by f ms
count-yes f m ms t = count-cons f m ms ∙ ap {A = Bool} {B = ℕ} (λ b. cond b 1 0 + count_by f ms) t

count-no : (f : Move → Bool) (m : Move) (ms : List Move) → f m ≡ false → count_by f (m ∷ ms) ≡ count_by f ms
count-no f m ms t =
    let e : cond (f m) 1 0 ≡ 0 = ap {A = Bool} {B = ℕ} (λ b. cond b 1 0) t in
    omega (arith, e, count-cons f m ms)

-- a count above 0 has a move
counted : (f : Move → Bool) (ms : List Move) → 0 < count_by f ms → (m : Move) × Contains ms m × (f m ≡ true)
counted f [] some = absurd (omega (arith, some))
counted f (m ∷ ms) some = elim (cases_Bool (f m)) [
  | inl t ↦ (m, Contains-first m ms, t)
  | inr f_no ↦
      let found = counted f ms (omega (arith, some, count-no f m ms f_no)) in
      (found.0, Contains-rest m ms found.0 found.1, found.2)
]

-- where the count is 0 there is no such move
uncounted : (f : Move → Bool) (ms : List Move) (m : Move) → count_by f ms ≡ 0 → Contains ms m → f m ≡ true → ⊥
uncounted f [] m none inside t = Contains-none m inside
uncounted f (n ∷ ms) m none inside t = elim (cases_Bool (f n)) [
  | inl yes_n ↦ omega (arith, none, count-yes f n ms yes_n)
  | inr f_no ↦ elim (Contains-first_cases n ms m inside) [
    | inl same ↦ let e : f m ≡ false = rw same at f_no in false≢true (sym e ∙ t)
    | inr later ↦ uncounted f ms m (omega (arith, none, count-no f n ms f_no)) later t
  ]
]

-- a move into a state, by its parts
pub is_into-true : (q : ℕ) (m : Move) → m.act ≡ Tau → m.to ≡ q → is_into q m ≡ true
is_into-true q m tau to = rw tau ((Decides-eqb m.to q).1 to)

is_into-label : (q : ℕ) (m : Move) (a : ℕ) → m.act ≡ Label a → is_into q m ≡ false
is_into-label q m a label = rw label refl

is_into-other : (q : ℕ) (m : Move) → m.act ≡ Tau → (m.to ≡ q → ⊥) → is_into q m ≡ false
is_into-other q m tau other = rw tau (elim (cases_Bool (m.to == q)) [ inl t ↦ absurd (other ((Decides-eqb m.to q).0 t)) | inr f ↦ f ])

from_is_into : (q : ℕ) (m : Move) → is_into q m ≡ true → (m.act ≡ Tau) × (m.to ≡ q)
from_is_into q m t = go m.act refl
  where
    go : (a : Act) → m.act ≡ a → (m.act ≡ Tau) × (m.to ≡ q)
    go Tau e = (e, (Decides-eqb m.to q).0 (rw e at t))
    go (Label a) e = absurd (false≢true (sym (is_into-label q m a e) ∙ t))

-- the test says whether the state is one of the list
is_among-true : (ps : List ℕ) (p : ℕ) → is_among ps p ≡ true → Contains ps p
is_among-true ps p t =
    let (k, y, below, at, same) = Any-from_list_any (λ q. p == q) ps t in
    let is : p ≡ y = (Decides-eqb p y).0 same in
    let found : Contains ps y = (k, below, at) in
    rw is found

is_among-from_contains : (ps : List ℕ) (p : ℕ) → Contains ps p → is_among ps p ≡ true
is_among-from_contains ps p (k, below, at) = list_any-from_Any (λ q. p == q) ps (k, p, below, at, (Decides-eqb p p).1 refl)

is_among-push : (ps : List ℕ) (p q : ℕ) → is_among (ps ++ q ∷ []) p ≡ (is_among ps p || (p == q))
is_among-push ps p q = list_any-append (λ r. p == r) ps (q ∷ []) ∙ ap (λ b. is_among ps p || b) (or_false (p == q))
  where
    or_false : (b : Bool) → (b || false) ≡ b
    or_false true = refl
    or_false false = refl

is_left-kept : (ps : List ℕ) (p q : ℕ) (m : Move) → (m.from ≡ p → ⊥) → is_left_into (ps ++ p ∷ []) q m ≡ is_left_into ps q m
is_left-kept ps p q m other =
    let apart : (m.from == p) ≡ false = elim (cases_Bool (m.from == p)) [ inl t ↦ absurd (other ((Decides-eqb m.from p).0 t)) | inr f ↦ f ] in
    let more : is_among (ps ++ p ∷ []) m.from ≡ is_among ps m.from = is_among-push ps m.from p ∙ ap (λ b. is_among ps m.from || b) apart ∙ or_false (is_among ps m.from) in
    ap (λ b. is_into q m && not b) more
  where
    or_false : (b : Bool) → (b || false) ≡ b
    or_false true = refl
    or_false false = refl

-- one more state is gone: its moves no longer count as left
count_split : (ps : List ℕ) (p q : ℕ) (ms : List Move) → (Contains ps p → ⊥) →
    count_by (is_left_into ps q) ms ≡ count_by (is_left_into (ps ++ p ∷ []) q) ms + count_by (is_into q) (filter (leaves p) ms)
count_split ps p q [] absent = refl
count_split ps p q (m ∷ ms) absent =
    let rest = count_split ps p q ms absent in
    let one = count-cons (is_left_into ps q) m ms in
    let two = count-cons (is_left_into (ps ++ p ∷ []) q) m ms in
    elim (cases_Bool (leaves p m)) [
      | inl here ↦
          let is : m.from ≡ p = (Decides-eqb m.from p).0 here in
          let fresh : is_among ps m.from ≡ false = elim (cases_Bool (is_among ps m.from)) [ inl t ↦ absurd (absent (rw is at (is_among-true ps m.from t))) | inr f ↦ f ] in
          let gone : is_among (ps ++ p ∷ []) m.from ≡ true = is_among-push ps m.from p ∙ ap (λ b. is_among ps m.from || b) here ∙ or_true (is_among ps m.from) in
          let e : is_left_into ps q m ≡ is_into q m = ap (λ b. is_into q m && not b) fresh ∙ and_true (is_into q m) in
          let f : is_left_into (ps ++ p ∷ []) q m ≡ false = ap (λ b. is_into q m && not b) gone ∙ and_false (is_into q m) in
          let e' : cond (is_left_into ps q m) 1 0 ≡ cond (is_into q m) 1 0 = ap {A = Bool} {B = ℕ} (λ b. cond b 1 0) e in
          let f' : cond (is_left_into (ps ++ p ∷ []) q m) 1 0 ≡ 0 = ap {A = Bool} {B = ℕ} (λ b. cond b 1 0) f in
          let three = count-cons (is_into q) m (filter (leaves p) ms) in
          rw here (omega (arith, one, two, three, e', f', rest))
      | inr away ↦
          let other : m.from ≡ p → ⊥ = λ is. false≢true (sym away ∙ (Decides-eqb m.from p).1 is) in
          let e : cond (is_left_into (ps ++ p ∷ []) q m) 1 0 ≡ cond (is_left_into ps q m) 1 0 = ap {A = Bool} {B = ℕ} (λ b. cond b 1 0) (is_left-kept ps p q m other) in
          rw away (omega (arith, one, two, e, rest))
    ]
  where
    or_true : (b : Bool) → (b || true) ≡ true
    or_true true = refl
    or_true false = refl

    and_true : (b : Bool) → (b && true) ≡ b
    and_true true = refl
    and_true false = refl

    and_false : (b : Bool) → (b && false) ≡ false
    and_false true = refl
    and_false false = refl

count-alike : (f g : Move → Bool) (ms : List Move) → ((m : Move) → f m ≡ g m) → count_by f ms ≡ count_by g ms
count-alike f g [] alike = refl
count-alike f g (m ∷ ms) alike =
    let e : cond (f m) 1 0 ≡ cond (g m) 1 0 = ap {A = Bool} {B = ℕ} (λ b. cond b 1 0) (alike m) in
    omega (arith, e, count-cons f m ms, count-cons g m ms, count-alike f g ms alike)

-- no move counted, no count
pub AreCounts-none : (n : ℕ) → AreCounts n [] (replicate n 0)
AreCounts-none n = record { long = length-replicate n 0; each = λ q below. get_or-replicate n q 0 0 below }

-- the next move carries Tau, and its target's count is one more
pub AreCounts-tau : (n : ℕ) (ms : List Move) (counts : List ℕ) (i : ℕ) (d : Move) (t v : ℕ) → i < length ms → (get_or ms i d).act ≡ Tau → (get_or ms i d).to ≡ t → t < n →
    v ≡ get_or counts t 0 + 1 → AreCounts n (take i ms) counts → AreCounts n (take (i + 1) ms) (set counts t v)
AreCounts-tau n ms counts i d t v inside tau to below is_v is = record {
  long = length-set counts t v ∙ is.long;
  each = λ q low. elim (cases_eq q t) [
    | inl same ↦
        let here : get_or (set counts t v) t 0 ≡ v = get_or-set_same counts t v 0 (omega (arith, below, is.long)) in
        let more : count_by (is_into t) (take (i + 1) ms) ≡ count_by (is_into t) (take i ms) + 1 = count_by_more_yes (is_into t) ms i d inside (is_into-true t (get_or ms i d) tau to) in
        rw same (omega (arith, here, more, is_v, is.each t below))
    | inr other ↦
        get_or-set_other counts t q v 0 other ∙ is.each q low
        ∙ sym (count_by_more_no (is_into q) ms i d inside (is_into-other q (get_or ms i d) tau (λ e. other (sym e ∙ to))))
  ];
}

-- the next move carries a label
pub AreCounts-label : (n : ℕ) (ms : List Move) (counts : List ℕ) (i : ℕ) (d : Move) (a : ℕ) → i < length ms → (get_or ms i d).act ≡ Label a → AreCounts n (take i ms) counts → AreCounts n (take (i + 1) ms) counts
AreCounts-label n ms counts i d a inside label is = record {
  long = is.long;
  each = λ q low. is.each q low ∙ sym (count_by_more_no (is_into q) ms i d inside (is_into-label q (get_or ms i d) a label));
}

pub AreCounts-all : (n : ℕ) (ms : List Move) (counts : List ℕ) (i : ℕ) → length ms ≤ i → AreCounts n (take i ms) counts → AreCounts n ms counts
AreCounts-all n ms counts i over is = rw (take_all i ms over) at is

-- a count is at most the number of moves looked at
pub AreCounts-within : (n : ℕ) (ms : List Move) (counts : List ℕ) (i q : ℕ) → i ≤ length ms → q < n → AreCounts n (take i ms) counts → get_or counts q 0 ≤ i
AreCounts-within n ms counts i q within below is = omega (arith, is.each q below, count_by-le-length (is_into q) (take i ms), length-take-le i ms within)

-- none of the first 0 states
pub AreZeros-none : (counts : List ℕ) → AreZeros counts 0 []
AreZeros-none counts = record {
  all = λ q below. absurd (omega (arith, below));
  none = All-nil (λ q. (q < 0) × (get_or counts q 0 ≡ 0));
  once = λ j k d before below. omega (arith, below);
}

-- the next state has no count, and is found
pub AreZeros-add : (counts : List ℕ) (n : ℕ) (old new : List ℕ) → get_or counts n 0 ≡ 0 → IsAdded old n new → AreZeros counts n old → AreZeros counts (n + 1) new
AreZeros-add counts n old new zero_n (inl (same, inside)) is =
    absurd (let old_n = All-contains (λ q. (q < n) × (get_or counts q 0 ≡ 0)) old n is.none inside in omega (arith, old_n.0))
AreZeros-add counts n old new zero_n (inr grown) is = rw grown (record {
  all = λ q below none. elim (cases_lt q n) [
    | inl low ↦ Contains-append_left old (n ∷ []) q (is.all q low none)
    | inr high ↦ let same : q ≡ n = omega (arith, below, high) in rw same (Contains-push old n)
  ];
  none = All-push (λ q. (q < n + 1) × (get_or counts q 0 ≡ 0)) old n (λ k d below. (omega (arith, (is.none k d below).0), (is.none k d below).1)) (omega arith, zero_n);
  once = all_pairs_push (λ p q. p ≢ q) old n is.once (λ k d below same. let low = (is.none k d below).0 in omega (arith, low, same));
})

-- the next state has a count
pub AreZeros-skip : (counts : List ℕ) (n : ℕ) (found : List ℕ) → (get_or counts n 0 ≡ 0 → ⊥) → AreZeros counts n found → AreZeros counts (n + 1) found
AreZeros-skip counts n found some is = record {
  all = λ q below none. elim (cases_lt q n) [
    | inl low ↦ is.all q low none
    | inr high ↦ let same : q ≡ n = omega (arith, below, high) in absurd (some (rw same at none))
  ];
  none = λ k d below. (omega (arith, (is.none k d below).0), (is.none k d below).1);
  once = is.once;
}

-- nothing is gone yet
pub IsPeeling-none : (s : System) (counts found : List ℕ) → AreCounts s.states s.moves counts → AreZeros counts s.states found → IsPeeling s [] [] counts found
IsPeeling-none s counts found are zeros = record {
  long = are.long;
  each = λ q below.
      let e : count_by (is_left_into [] q) s.moves ≡ count_by (is_into q) s.moves = count-alike (is_left_into [] q) (is_into q) s.moves (λ m. and_true (is_into q m)) in
      omega (arith, e, are.each q below);
  all = zeros.all;
  none = zeros.none;
  once = zeros.once;
  kept = (found, refl);
  falls = λ k below p has.
      let found_k = zeros.none k 0 below in
      absurd (uncounted (is_into (get_or found k 0)) s.moves (record { from = p; act = Tau; to = get_or found k 0 }) (sym (are.each (get_or found k 0) found_k.0) ∙ found_k.1) has
      (is_into-true (get_or found k 0) (record { from = p; act = Tau; to = get_or found k 0 }) refl refl));
}
  where
    and_true : (b : Bool) → (b && true) ≡ b
    and_true true = refl
    and_true false = refl

-- one more find is gone, but its moves still count
IsPeeling-begin : (s : System) (gone : List ℕ) (p : ℕ) (more counts found : List ℕ) → found ≡ gone ++ p ∷ more → IsPeeling s gone [] counts found → IsPeeling s (gone ++ p ∷ []) (filter (leaves p) s.moves) counts found
IsPeeling-begin s gone p more counts found is_found is = record {
  long = is.long;
  each = λ q below.
      let e : get_or counts q 0 ≡ count_by (is_left_into gone q) s.moves + 0 = is.each q below in
      let f = count_split gone p q s.moves absent in
      omega (arith, e, f);
  all = is.all;
  none = is.none;
  once = is.once;
  kept = (more, is_found ∙ sym (append_assoc gone (p ∷ []) more));
  falls = is.falls;
}
  where
    here : get_or found (length gone) p ≡ p
    here = rw is_found (get_or-append_seam gone p more p)

    low : (k d : ℕ) → k < length gone → get_or found k d ≡ get_or gone k d
    low k d below = rw is_found (get_or_append_left gone (p ∷ more) d k below)

    absent : Contains gone p → ⊥
    absent (k, below, at) =
        let long : length found ≡ length gone + suc (length more) = ap (length {A = ℕ}) is_found ∙ length-append gone (p ∷ more) in
        is.once k (length gone) p below (omega (arith, long)) (low k p below ∙ at ∙ sym here)

-- the same, where the finds gone are the first ones
pub IsPeeling-take : (s : System) (at p : ℕ) (counts found : List ℕ) → at < length found → p ≡ get_or found at 0 → IsPeeling s (take at found) [] counts found → IsPeeling s (take (at + 1) found) (filter (leaves p) s.moves) counts found
IsPeeling-take s at p counts found below is_p is =
    let e : found ≡ take at found ++ get_or found at 0 ∷ drop (suc at) found = sym (take-append-drop at found) ∙ ap {A = List ℕ} {B = List ℕ} (λ z. take at found ++ z) (drop-cons found at 0 below) in
    let e' : found ≡ take at found ++ p ∷ drop (suc at) found = rw is_p e in
    let f : take (at + 1) found ≡ take at found ++ p ∷ [] = rw is_p (take_more found at 0 below) in
    rw f (IsPeeling-begin s (take at found) p (drop (suc at) found) counts found e' is)

-- the count of the moves from number i on is that of the move and of those from the next on
count_next : (f : Move → Bool) (ms : List Move) (i : ℕ) (d : Move) → i < length ms → count_by f (drop i ms) ≡ cond (f (get_or ms i d)) 1 0 + count_by f (drop (i + 1) ms)
count_next f ms i d inside =
    let e : drop i ms ≡ get_or ms i d ∷ drop (i + 1) ms = drop-cons ms i d inside ∙ ap (λ n. get_or ms i d ∷ drop n ms) (sym (add-one i)) in
    ap {A = List Move} {B = ℕ} (count_by f) e ∙ count-cons f (get_or ms i d) (drop (i + 1) ms)

count_next-yes : (f : Move → Bool) (ms : List Move) (i : ℕ) (d : Move) → i < length ms → f (get_or ms i d) ≡ true → count_by f (drop i ms) ≡ 1 + count_by f (drop (i + 1) ms)
count_next-yes f ms i d inside t =
    let e : cond (f (get_or ms i d)) 1 0 ≡ 1 = ap {A = Bool} {B = ℕ} (λ b. cond b 1 0) t in
    omega (arith, e, count_next f ms i d inside)

count_next-no : (f : Move → Bool) (ms : List Move) (i : ℕ) (d : Move) → i < length ms → f (get_or ms i d) ≡ false → count_by f (drop i ms) ≡ count_by f (drop (i + 1) ms)
count_next-no f ms i d inside t =
    let e : cond (f (get_or ms i d)) 1 0 ≡ 0 = ap {A = Bool} {B = ℕ} (λ b. cond b 1 0) t in
    omega (arith, e, count_next f ms i d inside)

-- the next of the last find's moves carries a label
pub IsPeeling-skip : (s : System) (gone : List ℕ) (ms : List Move) (i : ℕ) (d : Move) (a : ℕ) (counts found : List ℕ) → i < length ms → (get_or ms i d).act ≡ Label a →
    IsPeeling s gone (drop i ms) counts found → IsPeeling s gone (drop (i + 1) ms) counts found
IsPeeling-skip s gone ms i d a counts found inside label is = record {
  long = is.long;
  each = λ q below.
      let e : count_by (is_into q) (drop i ms) ≡ count_by (is_into q) (drop (i + 1) ms) = count_next-no (is_into q) ms i d inside (is_into-label q (get_or ms i d) a label) in
      omega (arith, e, is.each q below);
  all = is.all;
  none = is.none;
  once = is.once;
  kept = is.kept;
  falls = is.falls;
}

-- the next of the last find's moves carries Tau, so its target has a count
pub IsPeeling-counted : (s : System) (gone : List ℕ) (ms : List Move) (i : ℕ) (d : Move) (t : ℕ) (counts found : List ℕ) → i < length ms → (get_or ms i d).act ≡ Tau → (get_or ms i d).to ≡ t → t < s.states →
    IsPeeling s gone (drop i ms) counts found → 0 < get_or counts t 0
IsPeeling-counted s gone ms i d t counts found inside tau to below is =
    let e : count_by (is_into t) (drop i ms) ≡ 1 + count_by (is_into t) (drop (i + 1) ms) = count_next-yes (is_into t) ms i d inside (is_into-true t (get_or ms i d) tau to) in
    omega (arith, e, is.each t below)

-- the count of t is 1 less: what is known of counts then
record IsLowered (s : System) (gone : List ℕ) (rest : List Move) (counts found : List ℕ) (t : ℕ) (new : List ℕ) : Type 0 where
  pub long : length new ≡ s.states
  pub each : (q : ℕ) → q < s.states → get_or new q 0 ≡ count_by (is_left_into gone q) s.moves + count_by (is_into q) rest
  pub here : get_or new t 0 ≡ get_or counts t 0 - 1
  pub other : (q : ℕ) → (q ≡ t → ⊥) → get_or new q 0 ≡ get_or counts q 0
  pub fresh : Contains found t → ⊥
  pub below : t < s.states

IsLowered-from_set : (s : System) (gone : List ℕ) (ms : List Move) (i : ℕ) (d : Move) (t : ℕ) (counts found : List ℕ) → i < length ms → (get_or ms i d).act ≡ Tau → (get_or ms i d).to ≡ t → t < s.states →
    IsPeeling s gone (drop i ms) counts found → IsLowered s gone (drop (i + 1) ms) counts found t (set counts t (get_or counts t 0 - 1))
IsLowered-from_set s gone ms i d t counts found inside tau to below is = record {
  long = length-set counts t v ∙ is.long;
  each = λ q low. elim (cases_eq q t) [
    | inl same ↦
        let e : count_by (is_into t) (drop i ms) ≡ 1 + count_by (is_into t) (drop (i + 1) ms) = count_next-yes (is_into t) ms i d inside (is_into-true t (get_or ms i d) tau to) in
        rw same (omega (arith, here, e, is.each t below))
    | inr other ↦
        let e : count_by (is_into q) (drop i ms) ≡ count_by (is_into q) (drop (i + 1) ms) = count_next-no (is_into q) ms i d inside (is_into-other q (get_or ms i d) tau (λ e. other (sym e ∙ to))) in
        let f : get_or (set counts t v) q 0 ≡ get_or counts q 0 = get_or-set_other counts t q v 0 other in
        omega (arith, e, f, is.each q low)
  ];
  here = here;
  other = λ q other. get_or-set_other counts t q v 0 other;
  fresh = λ has.
      let none = All-contains (λ q. (q < s.states) × (get_or counts q 0 ≡ 0)) found t is.none has in
      let some = IsPeeling-counted s gone ms i d t counts found inside tau to below is in
      omega (arith, none.1, some);
  below = below;
}
  where
    v : ℕ
    v = get_or counts t 0 - 1

    here : get_or (set counts t v) t 0 ≡ v
    here = get_or-set_same counts t v 0 (omega (arith, below, is.long))

-- a find with a count keeps it, where the state that is lowered isn't found
none_kept : (s : System) (gone : List ℕ) (rest : List Move) (counts found : List ℕ) (t : ℕ) (new : List ℕ) → IsLowered s gone rest counts found t new →
    All (λ q. (q < s.states) × (get_or counts q 0 ≡ 0)) found → All (λ q. (q < s.states) × (get_or new q 0 ≡ 0)) found
none_kept s gone rest counts found t new low none k d below =
    let old = none k d below in
    let other : get_or found k d ≡ t → ⊥ = λ same. low.fresh (k, below, get_or_default found k t d below ∙ same) in
    (old.0, low.other (get_or found k d) other ∙ old.1)

lowered_some : (s : System) (gone : List ℕ) (rest rest' : List Move) (counts found : List ℕ) (t : ℕ) (new : List ℕ) (n : ℕ) → get_or counts t 0 - 1 ≡ suc n → IsLowered s gone rest' counts found t new → IsPeeling s gone rest counts found → IsPeeling s gone rest' new found
lowered_some s gone rest rest' counts found t new n some low is = record {
  long = low.long;
  each = low.each;
  all = λ q below zero_q. elim (cases_eq q t) [
    | inl same ↦ let e : get_or new t 0 ≡ 0 = rw same at zero_q in absurd (omega (arith, e, low.here, some))
    | inr other ↦ is.all q below (sym (low.other q other) ∙ zero_q)
  ];
  none = none_kept s gone rest' counts found t new low is.none;
  once = is.once;
  kept = is.kept;
  falls = is.falls;
}

lowered_none : (s : System) (gone : List ℕ) (rest rest' : List Move) (counts found : List ℕ) (t : ℕ) (new : List ℕ) → get_or counts t 0 - 1 ≡ 0 → IsLowered s gone rest' counts found t new → IsPeeling s gone rest counts found → IsPeeling s gone rest' new (found ++ t ∷ [])
lowered_none s gone rest rest' counts found t new none low is = record {
  long = low.long;
  each = low.each;
  all = λ q below zero_q. elim (cases_eq q t) [
    | inl same ↦ rw same (Contains-push found t)
    | inr other ↦ Contains-append_left found (t ∷ []) q (is.all q below (sym (low.other q other) ∙ zero_q))
  ];
  none = All-push (λ q. (q < s.states) × (get_or new q 0 ≡ 0)) found t (none_kept s gone rest' counts found t new low is.none) (low.below, low.here ∙ none);
  once = all_pairs_push (λ p q. p ≢ q) found t is.once (λ k d below same. low.fresh (k, below, get_or_default found k t d below ∙ same));
  kept = (
    is.kept.0 ++ t ∷ [],
    ap {A = List ℕ} {B = List ℕ} (λ z. z ++ t ∷ []) is.kept.1 ∙ append_assoc gone is.kept.0 (t ∷ []),
  );
  falls = λ k below p has. elim (cases_lt k (length found)) [
    | inl early ↦
        let has' : HasMove s p Tau (get_or found k 0) = rw (get_or_append_left found (t ∷ []) 0 k early) at has in
        rw (take-append-le k found (t ∷ []) (omega (arith, early))) (is.falls k early p has')
    | inr late ↦
        let last : k ≡ length found = omega (arith, late, below, length_push found t) in
        let has' : HasMove s p Tau t = rw (last, get_or-append_seam found t [] 0) at has in
        let e : get_or new t 0 ≡ 0 = low.here ∙ none in
        let f : count_by (is_left_into gone t) s.moves ≡ 0 = omega (arith, e, low.each t low.below) in
        rw (last, take-append_seam found (t ∷ [])) (from_found p (gone_from p f has'))
  ];
}
  where
    gone_from : (p : ℕ) → count_by (is_left_into gone t) s.moves ≡ 0 → HasMove s p Tau t → Contains gone p
    gone_from p f has = elim (cases_Bool (is_among gone p)) [
      | inl among ↦ is_among-true gone p among
      | inr apart ↦
          let m : Move = record { from = p; act = Tau; to = t } in
          let e : is_left_into gone t m ≡ true = ap (λ b. is_into t m && not b) apart ∙ and_true (is_into t m) ∙ is_into-true t m refl refl in
          absurd (uncounted (is_left_into gone t) s.moves m f has e)
    ]
      where
        and_true : (b : Bool) → (b && true) ≡ b
        and_true true = refl
        and_true false = refl

    from_found : (p : ℕ) → Contains gone p → Contains found p
    from_found p has = rw is.kept.1 (Contains-append_left gone is.kept.0 p has)

-- the next of the last find's moves carries Tau, and the count of its target is lowered
pub IsPeeling-lower : (s : System) (gone : List ℕ) (ms : List Move) (i : ℕ) (d : Move) (t : ℕ) (counts found new found' : List ℕ) → i < length ms → (get_or ms i d).act ≡ Tau → (get_or ms i d).to ≡ t → t < s.states →
    new ≡ set counts t (get_or counts t 0 - 1) → IsFoundAtZero (get_or counts t 0 - 1) found t found' → IsPeeling s gone (drop i ms) counts found → IsPeeling s gone (drop (i + 1) ms) new found'
IsPeeling-lower s gone ms i d t counts found new found' inside tau to below is_new adds is =
    let low = IsLowered-from_set s gone ms i d t counts found inside tau to below is in
    rw is_new (go (get_or counts t 0 - 1) refl low adds)
  where
    go : (n : ℕ) → get_or counts t 0 - 1 ≡ n → IsLowered s gone (drop (i + 1) ms) counts found t (set counts t (get_or counts t 0 - 1)) → IsFoundAtZero n found t found' →
        IsPeeling s gone (drop (i + 1) ms) (set counts t (get_or counts t 0 - 1)) found'
    go zero e low (inl (same, inside)) = absurd (low.fresh inside)
    go zero e low (inr grown) = rw grown (lowered_none s gone (drop i ms) (drop (i + 1) ms) counts found t _ e low is)
    go (suc n) e low same = rw same (lowered_some s gone (drop i ms) (drop (i + 1) ms) counts found t _ n e low is)

-- all moves of the last find have been looked at
pub IsPeeling-more : (s : System) (at : ℕ) (old : List ℕ) (ms : List Move) (n : ℕ) (counts found : List ℕ) → at < length old → length ms ≤ n → IsPeeling s (take (at + 1) old) (drop n ms) counts found →
    IsPeeling s (take (at + 1) found) [] counts found × (at < length found)
IsPeeling-more s at old ms n counts found below over is =
    let count : length (take (at + 1) old) ≡ at + 1 = length-take-le (at + 1) old (omega (arith, below)) in
    let long : length found ≡ length (take (at + 1) old) + length is.kept.0 = ap (length {A = ℕ}) is.kept.1 ∙ length-append (take (at + 1) old) is.kept.0 in
    let e : take (at + 1) found ≡ take (at + 1) old =
    ap {A = ℕ} {B = List ℕ} (λ k. take k found) (sym count) ∙ ap {A = List ℕ} {B = List ℕ} (take (length (take (at + 1) old))) is.kept.1 ∙ take-append_seam (take (at + 1) old) is.kept.0 in
    (rw (e, ← drop_of_length-le ms over) is, omega (arith, count, long))

-- the finds are all gone
pub IsPeeled-from_all : (s : System) (at : ℕ) (counts found : List ℕ) → IsSystem s → length found ≤ at → IsPeeling s (take at found) [] counts found → IsPeeled s counts
IsPeeled-from_all s at counts found system over is0 =
    let is : IsPeeling s found [] counts found = rw (take_all at found over) at is0 in
    record {
      long = is.long;
      left = λ q below some.
          let e : get_or counts q 0 ≡ count_by (is_left_into found q) s.moves + 0 = is.each q below in
          let (m, inside, t) = counted (is_left_into found q) s.moves (omega (arith, some, e)) in
          left_from q m inside t is;
      none = λ none q m steps on silent. go is none q m steps on silent;
    }
  where
    left_from : (q : ℕ) (m : Move) → Contains s.moves m → is_left_into found q m ≡ true → IsPeeling s found [] counts found → (p : ℕ) × HasMove s p Tau q × (p < s.states) × (0 < get_or counts p 0)
    left_from q m inside t is =
        let (into, apart) = both (is_into q m) (is_among found m.from) t in
        let (tau, to) = from_is_into q m into in
        let ends = All-contains (IsMoveOf s.states (label_count s)) s.moves m system.moves inside in (
          m.from,
          rw to at (HasMove-from_parts s m m.from Tau refl tau inside),
          ends.from,
          elim (cases_eq (get_or counts m.from 0) 0) [
            | inl none ↦ absurd (false≢true (sym apart ∙ is_among-from_contains found m.from (is.all m.from ends.from none)))
            | inr some ↦ omega (arith, some)
          ],
        )
      where
        both : (a b : Bool) → (a && not b) ≡ true → (a ≡ true) × (b ≡ false)
        both true false e = (refl, refl)
        both true true e = cc
        both false b e = cc

    before : IsPeeling s found [] counts found → (j p : ℕ) → j < length found → HasMove s p Tau (get_or found j 0) → (i : ℕ) × (i < j) × (get_or found i 0 ≡ p)
    before is j p below has =
        let (i, low, at) = is.falls j below p has in
        let long : length (take j found) ≡ j = length-take-le j found (omega (arith, below)) in
        let lt : i < j = omega (arith, low, long) in
        (i, lt, get_or_default found i 0 p (omega (arith, lt, below)) ∙ sym (get_or-take j found i p lt) ∙ at)

    -- a path of moves with Tau comes from a find that is not later
    back : IsPeeling s found [] counts found → (steps : List Step) (p r k : ℕ) → IsPath s p steps r → trace_of s steps ≡ [] → k < length found → get_or found k 0 ≡ r → (j : ℕ) × (j ≤ k) × (get_or found j 0 ≡ p)
    back is [] p r k on silent below at = (k, omega arith, at ∙ sym on)
    back is (Rest ∷ steps) p r k on silent below at = cc
    back is (Along m ∷ steps) p r k on silent below at = elim (act_cases m.act) [
      | inl tau ↦
          let silent' : trace_of s steps ≡ [] = rw tau at silent in
          let (j, le, here) = back is steps m.to r k on.2 silent' below at in
          let (i, lt, there) = before is j p (omega (arith, le, below)) (rw (← here) at (HasMove-from_parts s m p Tau on.0 tau on.1)) in
          (i, omega (arith, lt, le), there)
      | inr (l, label) ↦
          let e' : item_of s l ∷ trace_of s steps ≡ [] = rw label at silent in
          cc
    ]

    no_cycle : IsPeeling s found [] counts found → (m : Move) (steps : List Step) → m.act ≡ Tau → (q : ℕ) → IsPath s q (Along m ∷ steps) q → trace_of s steps ≡ [] → (n k : ℕ) → k < n → k < length found → get_or found k 0 ≡ q → ⊥
    no_cycle is m steps tau q on silent zero k lt below at = omega (arith, lt)
    no_cycle is m steps tau q on silent (suc n) k lt below at =
        let (j, le, here) = back is steps m.to q k on.2 silent below at in
        let (i, less, there) = before is j q (omega (arith, le, below)) (rw (← here) at (HasMove-from_parts s m q Tau on.0 tau on.1)) in
        no_cycle is m steps tau q on silent n i (omega (arith, less, le, lt)) (omega (arith, less, le, below)) there

    go : IsPeeling s found [] counts found → All (λ n. n ≡ 0) counts → IsConvergent s
    go is none q m steps on silent = elim (act_cases m.act) [
      | inl tau ↦
          let silent' : trace_of s steps ≡ [] = rw tau at silent in
          let ends = All-contains (IsMoveOf s.states (label_count s)) s.moves m system.moves on.1 in
          let below : q < s.states = rw on.0 at ends.from in
          let (k, low, at) = is.all q below (none q 0 (omega (arith, below, is.long))) in
          no_cycle is m steps tau q on silent' (k + 1) k (omega arith) low (get_or_default found k 0 q low ∙ at)
      | inr (l, label) ↦
          let e' : item_of s l ∷ trace_of s steps ≡ [] = rw label at silent in
          cc
    ]

-- a move that was read is one of the system's
pub read_move : (s : System) (ms : List Move) (i : ℕ) (d : Move) → IsSystem s → ms ≡ s.moves → i < length ms → IsMoveOf s.states (label_count s) (get_or ms i d)
read_move s ms i d system same below = rw (← same) at system.moves i d below

-- a move that was read among those of a state is one of the system's
pub read_move_of : (s : System) (p : ℕ) (ms : List Move) (i : ℕ) (d : Move) → IsSystem s → AreMovesOf s p ms → i < length ms → IsMoveOf s.states (label_count s) (get_or ms i d)
read_move_of s p ms i d system these below = All-contains (IsMoveOf s.states (label_count s)) s.moves (get_or ms i d) system.moves (these.each i d below).1

pub in_range : (n q : ℕ) (counts : List ℕ) → q < n → length counts ≡ n → q < length counts
in_range n q counts below long = omega (arith, below, long)
