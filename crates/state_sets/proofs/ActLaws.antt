-- Laws on the moves of a state, which stand in the order of what they carry.
use Rattle.std.proofs.Common.{◌≡◌, ℕ, ◌+◌, ◌-◌, ◌<◌, ◌≤◌, List, length, get_or, drop, Contains, Bool, true, false, nat_lt, refl, sym, ◌∙◌, ap, inl, inr, ◌⊎◌, arith, IsTrue, ◌↔◌}
use Rattle.std.specs.List.{filter, AllPairs}
use Rattle.std.specs.List.Sorted.{IsNonDecreasingBy, IsPartitionPoint}
use Rattle.std.proofs.lemmas.List.Kept.{AllPairs-filter}
use Rattle.std.proofs.lemmas.List.{get_or_default, get_or-drop, length-drop}
use Rattle.std.proofs.lemmas.List.Elements.{filter_passes, Contains-get_or}
use Rattle.std.proofs.lemmas.Bool.Decides.{nat_tests, Decides-eqb}
use Rattle.std.proofs.lemmas.Bool.{ltb-true, cases_lt, cases_Bool, iff_false}
use Rattle.lts_base.specs.declared.action.Act.{Act}
use Rattle.lts_base.specs.declared.action.Act.TheVariants.{Tau, Label}
use Rattle.lts_base.specs.declared.action.Move.{Move}
use Rattle.lts_base.specs.System.{System, act_place, IsMoveAtMost, AreSorted, leaves, AreMovesOf, Takes, HasMove}
use Rattle.lts_base.proofs.ListLaws.{none_contained}
use Rattle.state_sets.specs.Finds.{IsLeastFrom}
use Rattle.state_sets.proofs.Reaching.{HasMove-at}
use Rattle.state_sets.proofs.OfferLaws.{none_has}

-- the moves of one state ascend by what they carry
pub by_act : (s : System) (p : ℕ) (ms : List Move) → ms ≡ filter (leaves p) s.moves → AreSorted s.moves → IsNonDecreasingBy (λ (m : Move). act_place m.act) ms
by_act s p ms is sorted = rw is (λ i j d le below. here i j d le below)
  where
    pairs : AllPairs IsMoveAtMost (filter (leaves p) s.moves)
    pairs = AllPairs-filter IsMoveAtMost (leaves p) s.moves (λ j k d less below. sorted j k d less below)

    from : (k : ℕ) (d : Move) → k < length (filter (leaves p) s.moves) → (get_or (filter (leaves p) s.moves) k d).from ≡ p
    from k d below = (Decides-eqb _ p).0 (filter_passes (leaves p) s.moves k d below)

    here : (i j : ℕ) (d : Move) → i ≤ j → j < length (filter (leaves p) s.moves) → act_place (get_or (filter (leaves p) s.moves) i d).act ≤ act_place (get_or (filter (leaves p) s.moves) j d).act
    here i j d le below = elim (cases_lt i j) [
      | inl less ↦ elim (pairs i j d less below) [
        | inl earlier ↦ absurd (omega (arith, earlier, from i d (omega (arith, less, below)), from j d below))
        | inr same ↦ elim same.1 [ inl lt ↦ omega (arith, lt) | inr eq ↦ omega (arith, eq.0) ]
      ]
      | inr over ↦ let e : i ≡ j = omega (arith, over, le) in rw e (omega arith)
    ]

-- what the tests say of a place, said of the numbers
pub point_from_tests : (ms : List Move) (n i : ℕ) → IsPartitionPoint (λ (m : Move). nat_lt (act_place m.act) n ≡ true) (λ (m : Move). nat_lt (act_place m.act) n ≡ false) ms i →
    IsPartitionPoint (λ (m : Move). act_place m.act < n) (λ (m : Move). n ≤ act_place m.act) ms i
point_from_tests ms n i h =
    (λ k d low high. ltb-true (act_place (get_or ms k d).act) n (h.0 k d low high), λ k d low high. let no = h.1 k d low high in grind (arith, nat_tests))

-- actions at the same place are the same
pub act_injective : (x y : Act) → act_place x ≡ act_place y → x ≡ y
act_injective Tau Tau e = refl
act_injective Tau (Label b) e = absurd (omega (arith, e))
act_injective (Label a) Tau e = absurd (omega (arith, e))
act_injective (Label a) (Label b) e = let same : a ≡ b = omega (arith, e) in ap Label same

-- the moves before the point carry other actions
pub none_before : (ms : List Move) (act : Act) (i : ℕ) → IsPartitionPoint (λ (m : Move). act_place m.act < act_place act) (λ (m : Move). act_place act ≤ act_place m.act) ms i →
    (k : ℕ) (d : Move) → k < i → k < length ms → (get_or ms k d).act ≡ act → ⊥
none_before ms act i point k d low below is =
    let less = point.0 k d (omega arith) low in
    let same : act_place (get_or ms k d).act ≡ act_place act = ap act_place is in
    omega (arith, less, same)

-- from a move at or after the point on that carries another action, all moves do
pub none_after : (ms : List Move) (act : Act) (i j : ℕ) (e : Move) → IsNonDecreasingBy (λ (m : Move). act_place m.act) ms →
    IsPartitionPoint (λ (m : Move). act_place m.act < act_place act) (λ (m : Move). act_place act ≤ act_place m.act) ms i → i ≤ j → j < length ms → ((get_or ms j e).act ≡ act → ⊥) →
    (k : ℕ) (d : Move) → j ≤ k → k < length ms → (get_or ms k d).act ≡ act → ⊥
none_after ms act i j e sorted point le inside other k d over below is =
    let high : act_place act ≤ act_place (get_or ms j e).act = point.1 j e le inside in
    let rises : act_place (get_or ms j e).act ≤ act_place (get_or ms k e).act = sorted j k e over below in
    let same : act_place (get_or ms k d).act ≡ act_place act = ap act_place is in
    let here : get_or ms k e ≡ get_or ms k d = get_or_default ms k e d below in
    let top : act_place (get_or ms k e).act ≡ act_place act = rw here same in
    other (act_injective (get_or ms j e).act act (omega (arith, high, rises, top)))

-- a move with the label a leaves the state, so some of its moves carries it
pub place_of_label : (s : System) (p a : ℕ) (ms : List Move) → AreMovesOf s p ms → Takes s p a → (k : ℕ) × (k < length ms) × ((d : Move) → act_place (get_or ms k d).act ≡ a + 1)
place_of_label s p a ms these (q, has) =
    let there = these.all (record { from = p; act = Label a; to = q }) refl has in
    (there.0, there.1, λ d. let e = get_or_default ms there.0 d (record { from = p; act = Label a; to = q }) there.1 in rw (e, there.2) refl)

pub label_at : (s : System) (p a : ℕ) (ms : List Move) (i : ℕ) (e : Move) → AreMovesOf s p ms → i < length ms → (get_or ms i e).act ≡ Label a → Takes s p a
label_at s p a ms i e these inside carries = ((get_or ms i e).to, HasMove-at s p (Label a) ms i e these inside carries)

nowhere : Move
nowhere = record { from = 0; act = Tau; to = 0 }

-- no move from the point on: no label from `from` on is taken
pub least_none : (s : System) (p from most : ℕ) (ms : List Move) (i : ℕ) → AreMovesOf s p ms →
    IsPartitionPoint (λ (m : Move). act_place m.act < from + 1) (λ (m : Move). from + 1 ≤ act_place m.act) ms i → length ms ≤ i → from ≤ most → IsLeastFrom (Takes s p) from most most
least_none s p from most ms i these point over low = record {
  low = low;
  high = omega arith;
  none = λ a le less takes.
      let (k, below, is) = place_of_label s p a ms these takes in
      let under = point.0 k nowhere (omega arith) (omega (arith, below, over)) in
      omega (arith, under, is nowhere, le);
  some = inl refl;
}

-- the move at the point carries the label n: it is the least one from `from` on
pub least_some : (s : System) (p from most n m : ℕ) (ms : List Move) (i : ℕ) (e : Move) → AreMovesOf s p ms → IsNonDecreasingBy (λ (m : Move). act_place m.act) ms →
    IsPartitionPoint (λ (m : Move). act_place m.act < from + 1) (λ (m : Move). from + 1 ≤ act_place m.act) ms i → i < length ms → from ≤ most → (get_or ms i e).act ≡ Label n →
    ((m ≡ n) × (n ≤ most)) ⊎ ((m ≡ most) × (most ≤ n)) → IsLeastFrom (Takes s p) from most m
least_some s p from most n m ms i e these sorted point inside low carries which = record {
  low = omega (arith, cases, here, low);
  high = omega (arith, cases);
  none = λ a le less takes.
      let (k, below, is) = place_of_label s p a ms these takes in
      elim (cases_lt k i) [
        | inl before ↦ let under = point.0 k e (omega arith) before in omega (arith, under, is e, le)
        | inr after ↦ let rises = sorted i k e after below in omega (arith, rises, is e, place, cases, less)
      ];
  some = elim which [
    | inl w ↦ inr (rw w.0 (label_at s p n ms i e these inside carries))
    | inr w ↦ inl w.0
  ];
}
  where
    place : act_place (get_or ms i e).act ≡ n + 1
    place = ap act_place carries

    here : from ≤ n
    here = let high = point.1 i e (omega arith) inside in omega (arith, high, place)

    cases : (m ≤ n) × (m ≤ most) × ((n ≤ m) ⊎ (most ≤ m))
    cases = elim which [ inl w ↦ (omega (arith, w.0), omega (arith, w.0, w.1), inl (omega (arith, w.0))) | inr w ↦ (omega (arith, w.0, w.1), omega (arith, w.0), inr (omega (arith, w.0))) ]

-- the first i members of the list have been looked at
pub record IsLeastAmong (s : System) (ps : List ℕ) (from n i : ℕ) : Type 0 where
  pub low : from ≤ n
  pub high : n ≤ s.inputs + s.outputs
  pub none : (k d a : ℕ) → k < i → from ≤ a → a < n → Takes s (get_or ps k d) a → ⊥
  pub some : (n ≡ s.inputs + s.outputs) ⊎ ((q : ℕ) × Contains ps q × Takes s q n)

pub among_none : (s : System) (ps : List ℕ) (from n : ℕ) → n ≡ s.inputs + s.outputs → from ≤ n → IsLeastAmong s ps from n 0
among_none s ps from n e low = record {
  low = low;
  high = omega (arith, e);
  none = λ k d a below. absurd (omega (arith, below));
  some = inl e;
}

pub among_more : (s : System) (ps : List ℕ) (from n m i e : ℕ) → i < length ps → IsLeastFrom (Takes s (get_or ps i e)) from n m → IsLeastAmong s ps from n i → IsLeastAmong s ps from m (i + 1)
among_more s ps from n m i e inside least is = record {
  low = least.low;
  high = omega (arith, least.high, is.high);
  none = λ k d a below le less takes. elim (cases_lt k i) [
    | inl earlier ↦ is.none k d a earlier le (omega (arith, less, least.high)) takes
    | inr late ↦
        let same : k ≡ i = omega (arith, late, below) in
        least.none a le less (rw (get_or_default ps i e d inside) (rw same at takes))
  ];
  some = elim least.some [
    | inl same ↦ rw same is.some
    | inr takes ↦ inr (get_or ps i e, Contains-get_or ps i e inside, takes)
  ];
}

pub among_all : (s : System) (ps : List ℕ) (from n i : ℕ) → length ps ≤ i → IsLeastAmong s ps from n i → IsLeastFrom (λ a. (q : ℕ) × Contains ps q × Takes s q a) from (s.inputs + s.outputs) n
among_all s ps from n i over is = record {
  low = is.low;
  high = is.high;
  none = λ a le less some. none_contained (λ q. Takes s q a → ⊥) ps i over (λ k d below. is.none k d a below le less) some.0 some.1 some.2;
  some = is.some;
}

-- no label is less than the first one
pub among_first : (s : System) (ps : List ℕ) (from n i : ℕ) → n ≡ from → IsLeastAmong s ps from n i → IsLeastFrom (λ a. (q : ℕ) × Contains ps q × Takes s q a) from (s.inputs + s.outputs) n
among_first s ps from n i e is = record {
  low = is.low;
  high = is.high;
  none = λ a le less some. absurd (omega (arith, le, less, e));
  some = is.some;
}

-- a move at or after the point of a label isn't one with Tau
pub not_tau : (ms : List Move) (n i : ℕ) (e : Move) → IsPartitionPoint (λ (m : Move). act_place m.act < n + 1) (λ (m : Move). n + 1 ≤ act_place m.act) ms i → i < length ms → (get_or ms i e).act ≡ Tau → ⊥
not_tau ms n i e point inside is =
    let high = point.1 i e (omega arith) inside in
    let low : act_place (get_or ms i e).act ≡ 0 = ap act_place is in
    omega (arith, high, low)

-- the first move that may carry the action tells whether some move does
pub has_at_point : (s : System) (p : ℕ) (act : Act) (ms : List Move) (i : ℕ) (e : Move) (b : Bool) → AreMovesOf s p ms → IsNonDecreasingBy (λ (m : Move). act_place m.act) ms →
    IsPartitionPoint (λ (m : Move). act_place m.act < act_place act) (λ (m : Move). act_place act ≤ act_place m.act) ms i → i < length ms →
    IsTrue b ↔ ((get_or ms i e).act ≡ act) → IsTrue b ↔ ((q : ℕ) × HasMove s p act q)
has_at_point s p act ms i e b these sorted point inside test = (
  λ t. ((get_or ms i e).to, HasMove-at s p act ms i e these inside (test.0 t)),
  λ some. elim (cases_Bool b) [
    | inl t ↦ t
    | inr f ↦
        absurd (none_has s p act ms (length ms) these (omega arith)
        (λ k d below. elim (cases_lt k i) [
          | inl before ↦ none_before ms act i point k d before below
          | inr after ↦ none_after ms act i i e sorted point (omega arith) inside (iff_false test f) k d after below
        ]) some)
  ],
)

-- the moves before this place come before the action, and the move there doesn't
pub point_at : (ms : List Move) (act : Act) (i : ℕ) (e : Move) → IsNonDecreasingBy (λ (m : Move). act_place m.act) ms → i < length ms → (act_place (get_or ms i e).act < act_place act → ⊥) →
    ((k : ℕ) (d : Move) → k < i → act_place (get_or ms k d).act < act_place act) → IsPartitionPoint (λ (m : Move). act_place m.act < act_place act) (λ (m : Move). act_place act ≤ act_place m.act) ms i
point_at ms act i e sorted inside over before = (
  λ k d low high. before k d high,
  λ k d low high.
      let rises : act_place (get_or ms i e).act ≤ act_place (get_or ms k e).act = sorted i k e low high in
      let here : get_or ms k e ≡ get_or ms k d = get_or_default ms k e d high in
      let least : act_place act ≤ act_place (get_or ms i e).act = elim (cases_lt (act_place (get_or ms i e).act) (act_place act)) [ inl lt ↦ absurd (over lt) | inr ge ↦ ge ] in
      let top : act_place act ≤ act_place (get_or ms k e).act = omega (arith, rises, least) in
      rw here at top,
)

-- all moves come before the action
pub point_past : (ms : List Move) (act : Act) (i : ℕ) → length ms ≤ i →
    ((k : ℕ) (d : Move) → k < i → act_place (get_or ms k d).act < act_place act) → IsPartitionPoint (λ (m : Move). act_place m.act < act_place act) (λ (m : Move). act_place act ≤ act_place m.act) ms i
point_past ms act i past before = (λ k d low high. before k d high, λ k d low high. absurd (omega (arith, past, low, high)))

-- one more move comes before the action
pub before_more : (ms : List Move) (act : Act) (i : ℕ) (e : Move) → i < length ms → act_place (get_or ms i e).act < act_place act → ((k : ℕ) (d : Move) → k < i → act_place (get_or ms k d).act < act_place act) →
    (k : ℕ) (d : Move) → k < i + 1 → act_place (get_or ms k d).act < act_place act
before_more ms act i e inside here before k d below = elim (cases_lt k i) [
  | inl earlier ↦ before k d earlier
  | inr late ↦
      let same : k ≡ i = omega (arith, late, below) in
      rw (same, get_or_default ms i d e inside) here
]

-- the moves before one that comes before the action do so too
pub before_all : (ms : List Move) (act : Act) (i : ℕ) (e : Move) → IsNonDecreasingBy (λ (m : Move). act_place m.act) ms → 0 < i → i ≤ length ms → act_place (get_or ms (i - 1) e).act < act_place act →
    (k : ℕ) (d : Move) → k < i → act_place (get_or ms k d).act < act_place act
before_all ms act i e sorted some inside last k d below =
    let rises : act_place (get_or ms k e).act ≤ act_place (get_or ms (i - 1) e).act = sorted k (i - 1) e (omega (arith, below)) (omega (arith, some, inside)) in
    let here : get_or ms k e ≡ get_or ms k d = get_or_default ms k e d (omega (arith, below, inside)) in
    let low : act_place (get_or ms k e).act < act_place act = omega (arith, rises, last) in
    rw here at low

-- the place in the rest of the moves is one in all of them
pub point_in_rest : (ms rest : List Move) (act : Act) (n i : ℕ) → rest ≡ drop n ms → ((k : ℕ) (d : Move) → k < n → act_place (get_or ms k d).act < act_place act) →
    IsPartitionPoint (λ (m : Move). act_place m.act < act_place act) (λ (m : Move). act_place act ≤ act_place m.act) rest i → IsPartitionPoint (λ (m : Move). act_place m.act < act_place act) (λ (m : Move). act_place act ≤ act_place m.act) ms (n + i)
point_in_rest ms rest act n i is before point = (
  λ k d low high. elim (cases_lt k n) [
    | inl less ↦ before k d less
    | inr over ↦ rw (moved k d over) (point.0 (k - n) d (omega arith) (omega (arith, over, high)))
  ],
  λ k d low high.
      let over : n ≤ k = omega (arith, low) in
      let left : length rest ≡ length ms - n = ap length is ∙ length-drop n ms in
      rw (moved k d over) (point.1 (k - n) d (omega (arith, low)) (omega (arith, left, over, high))),
)
  where
    moved : (k : ℕ) (d : Move) → n ≤ k → get_or ms k d ≡ get_or rest (k - n) d
    moved k d over = let e : k ≡ n + (k - n) = omega (arith, over) in ap (λ j. get_or ms j d) e ∙ sym (get_or-drop n ms (k - n) d) ∙ ap (λ (r : List Move). get_or r (k - n) d) (sym is)
