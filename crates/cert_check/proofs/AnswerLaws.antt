-- No two answers to one certificate are right.
use Rattle.std.proofs.Common.{◌≡◌, ℕ, ◌+◌, ◌<◌, List, inl, inr, refl, sym, ap, ◌∙◌, arith}
use Rattle.std.proofs.lemmas.Bool.{cases_lt}
use Rattle.lts_base.specs.declared.item.Item.{Item}
use Rattle.lts_base.specs.declared.item.Mode.{Mode}
use Rattle.lts_base.specs.declared.relation.Relation.{Relation}
use Rattle.lts_base.specs.System.{System, label_count}
use Rattle.lts_base.specs.Order.{place}
use Rattle.lts_base.specs.Reached.{Row, row_at}
use Rattle.lts_base.specs.Related.{rows_of}
use Rattle.cert_check.specs.declared.checked.Checked.{Checked}
use Rattle.cert_check.specs.declared.checked.Checked.TheVariants.{Accepted, Start, Outputs, NotClosed, NotAllowed, NotShown, Allowed}
use Rattle.cert_check.specs.Checks.{HasOpening, LacksOpening, IsFirstShowingMore, IsFirstNotClosed, IsFirstOpen, IsFirstNotAllowed, IsCheckedRelation, IsCheckedTrace}
use Rattle.cert_check.proofs.ItemLaws.{same_place}
use Rattle.cert_check.proofs.RelationLaws.{only_accepted, closed_not_open}
use Rattle.cert_check.proofs.TraceLaws.{allowed_to, only_accepted as only_violation}

-- where neither of two numbers is below the other one, they are the same
same_number : (j k : ℕ) → (j < k → ⊥) → (k < j → ⊥) → j ≡ k
same_number j k not_less not_more = elim (cases_lt j k) [
  | inl less ↦ absurd (not_less less)
  | inr most ↦ elim (cases_lt k j) [
    | inl more ↦ absurd (not_more more)
    | inr least ↦ omega (arith, most, least)
  ]
]

-- some pair holds the opening sets, or none does
opening_once : (i s : System) (rows : List Row) → LacksOpening i s rows → HasOpening i s rows → ⊥
opening_once i s rows lacks has = lacks.absent (has lacks.left lacks.right lacks.left_set lacks.right_set)

-- a pair whose left list shows more isn't among the first pairs that are fine
more_not_before : (mode : Mode) (i s : System) (rows : List Row) (j k : ℕ) → IsFirstShowingMore mode i s rows j → IsFirstShowingMore mode i s rows k → j < k → ⊥
more_not_before mode i s rows j k one other less = let (x, shown, lacks) = one.more in lacks (other.before.fine j less x shown)

-- a pair whose left list shows more isn't before one that isn't closed, nor the same
more_not_closed : (mode : Mode) (i s : System) (rows : List Row) (j k : ℕ) (y : Item) → IsFirstShowingMore mode i s rows j → IsFirstNotClosed mode i s rows k y → ⊥
more_not_closed mode i s rows j k y one other =
    let (x, shown, lacks) = one.more in
    elim (cases_lt j k) [
      | inl less ↦ lacks (other.before.fine j less x shown)
      | inr most ↦ elim (cases_lt k j) [
        | inl more ↦ closed_not_open mode i s rows (row_at rows k) y (one.before.closed k more y) other.open_at.here
        | inr least ↦ let same : k ≡ j = omega (arith, most, least) in lacks ((rw same at other.fine) x shown)
      ]
    ]

-- a pair that isn't closed isn't among the first pairs that are closed
open_not_before : (mode : Mode) (i s : System) (rows : List Row) (j k : ℕ) (x y : Item) → IsFirstNotClosed mode i s rows j x → IsFirstNotClosed mode i s rows k y → j < k → ⊥
open_not_before mode i s rows j k x y one other less = closed_not_open mode i s rows (row_at rows j) x (other.before.closed j less x) one.open_at.here

-- a pair is first open at one item
first_open_once : (mode : Mode) (i s : System) (rows : List Row) (row : Row) (x y : Item) → IsFirstOpen mode i s rows row x → IsFirstOpen mode i s rows row y → x ≡ y
first_open_once mode i s rows row x y one other =
    same_place s x y one.here.item other.here.item
    (same_number (place (label_count s) x) (place (label_count s) y) (λ less. other.before x less one.here) (λ less. one.before y less other.here))

-- the answers for two pairs whose left lists show more are the same
same_outputs : (mode : Mode) (i s : System) (rows : List Row) (m n j k : ℕ) → m ≡ j + 1 → n ≡ k + 1 → IsFirstShowingMore mode i s rows j → IsFirstShowingMore mode i s rows k → Outputs m ≡ Outputs n
same_outputs mode i s rows m n j k e f one other =
    let same : j ≡ k = same_number j k (more_not_before mode i s rows j k one other) (more_not_before mode i s rows k j other one) in
    let told : m ≡ n = omega (arith, e, f, same) in
    ap Outputs told

-- the answers for two pairs that aren't closed are the same
same_not_closed : (mode : Mode) (i s : System) (rows : List Row) (m n j k : ℕ) (x y : Item) → m ≡ j + 1 → n ≡ k + 1 → IsFirstNotClosed mode i s rows j x → IsFirstNotClosed mode i s rows k y → NotClosed m x ≡ NotClosed n y
same_not_closed mode i s rows m n j k x y e f one other =
    let same : j ≡ k = same_number j k (open_not_before mode i s rows j k x y one other) (open_not_before mode i s rows k j y x other one) in
    let told : m ≡ n = omega (arith, e, f, same) in
    let first : IsFirstOpen mode i s rows (row_at rows k) x = rw same at one.open_at in
    let item : x ≡ y = first_open_once mode i s rows (row_at rows k) x y first other.open_at in
    ap (λ (p : ℕ). NotClosed p x) told ∙ ap (λ (z : Item). NotClosed n z) item

-- no two answers to a relation are right
pub one_for_relation : (mode : Mode) (i s : System) (relation : Relation) (c d : Checked) → IsCheckedRelation mode i s relation c → IsCheckedRelation mode i s relation d → d ≡ c
one_for_relation mode i s relation Accepted d one other = only_accepted mode i s relation d other one
one_for_relation mode i s relation (NotAllowed k) d one other = absurd one
one_for_relation mode i s relation NotShown d one other = absurd one
one_for_relation mode i s relation Allowed d one other = absurd one
one_for_relation mode i s relation c Accepted one other = sym (only_accepted mode i s relation c one other)
one_for_relation mode i s relation c (NotAllowed k) one other = absurd other
one_for_relation mode i s relation c NotShown one other = absurd other
one_for_relation mode i s relation c Allowed one other = absurd other
one_for_relation mode i s relation Start Start one other = refl
one_for_relation mode i s relation Start (Outputs n) one (k, f, first) = absurd (opening_once i s (rows_of relation) one first.before.opening)
one_for_relation mode i s relation Start (NotClosed n y) one (k, f, first) = absurd (opening_once i s (rows_of relation) one first.before.opening)
one_for_relation mode i s relation (Outputs m) Start (j, e, first) other = absurd (opening_once i s (rows_of relation) other first.before.opening)
one_for_relation mode i s relation (Outputs m) (Outputs n) (j, e, first) (k, f, second) = same_outputs mode i s (rows_of relation) n m k j f e second first
one_for_relation mode i s relation (Outputs m) (NotClosed n y) (j, e, first) (k, f, second) = absurd (more_not_closed mode i s (rows_of relation) j k y first second)
one_for_relation mode i s relation (NotClosed m x) Start (j, e, first) other = absurd (opening_once i s (rows_of relation) other first.before.opening)
one_for_relation mode i s relation (NotClosed m x) (Outputs n) (j, e, first) (k, f, second) = absurd (more_not_closed mode i s (rows_of relation) k j x second first)
one_for_relation mode i s relation (NotClosed m x) (NotClosed n y) (j, e, first) (k, f, second) = same_not_closed mode i s (rows_of relation) n m k j y x f e second first

-- a prefix that isn't allowed isn't among those that are
fault_not_before : (mode : Mode) (s : System) (trace : List Item) (j k : ℕ) → IsFirstNotAllowed mode s trace j → IsFirstNotAllowed mode s trace k → j < k → ⊥
fault_not_before mode s trace j k one other less = one.fault (other.before j less)

-- no two answers to a trace and an item are right
pub one_for_trace : (mode : Mode) (i s : System) (trace : List Item) (x : Item) (c d : Checked) → IsCheckedTrace mode i s trace x c → IsCheckedTrace mode i s trace x d → d ≡ c
one_for_trace mode i s trace x Accepted d one other = only_violation mode i s trace x d other one
one_for_trace mode i s trace x Start d one other = absurd one
one_for_trace mode i s trace x (Outputs k) d one other = absurd one
one_for_trace mode i s trace x (NotClosed k y) d one other = absurd one
one_for_trace mode i s trace x c Accepted one other = sym (only_violation mode i s trace x c one other)
one_for_trace mode i s trace x c Start one other = absurd other
one_for_trace mode i s trace x c (Outputs k) one other = absurd other
one_for_trace mode i s trace x c (NotClosed k y) one other = absurd other
one_for_trace mode i s trace x (NotAllowed j) (NotAllowed k) one other = ap NotAllowed (same_number k j (fault_not_before mode s trace k j other one) (fault_not_before mode s trace j k one other))
one_for_trace mode i s trace x (NotAllowed j) NotShown one other = absurd (one.fault (allowed_to mode s trace j other.0))
one_for_trace mode i s trace x (NotAllowed j) Allowed one other = absurd (one.fault (allowed_to mode s trace j other.0))
one_for_trace mode i s trace x NotShown (NotAllowed k) one other = absurd (other.fault (allowed_to mode s trace k one.0))
one_for_trace mode i s trace x NotShown NotShown one other = refl
one_for_trace mode i s trace x NotShown Allowed one other = absurd (one.1 other.1)
one_for_trace mode i s trace x Allowed (NotAllowed k) one other = absurd (other.fault (allowed_to mode s trace k one.0))
one_for_trace mode i s trace x Allowed NotShown one other = absurd (other.1 one.1)
one_for_trace mode i s trace x Allowed Allowed one other = refl
