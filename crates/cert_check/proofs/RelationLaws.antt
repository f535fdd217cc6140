-- Laws on the check of a relation.
use Rattle.std.proofs.Common.{◌≡◌, ℕ, ◌+◌, ◌<◌, ◌≤◌, List, [], ◌∷◌, length, get_or, eqb, inl, inr, All, Contains, Bool, true, false, IsTrue, ◌↔◌, refl, sym, ap, subst, ◌∙◌, arith}
use Rattle.std.proofs.lemmas.List.{get_or_default}
use Rattle.cert_check.specs.Present.{ArePresent}
use Rattle.cert_check.proofs.PresentLaws.{unshown_absent, closed_absent}
use Rattle.std.proofs.lemmas.Bool.{cases_lt, false≢true, eqb-true}
use Rattle.lts_base.specs.declared.item.Item.{Item}
use Rattle.lts_base.specs.declared.item.Mode.{Mode}
use Rattle.lts_base.specs.declared.relation.Relation.{Relation}
use Rattle.lts_base.specs.System.{System, IsSystem, IsItemOf, label_count}
use Rattle.lts_base.specs.After.{IsSetAfter, Shows, Allows}
use Rattle.lts_base.specs.Next.{IsNext}
use Rattle.lts_base.specs.Order.{place}
use Rattle.lts_base.specs.Reached.{Row, row_at, no_row, IsFine}
use Rattle.lts_base.specs.Related.{rows_of, IsClosedAt, IsValid}
use Rattle.lts_base.proofs.SetLaws.{Shows-item, IsNext-unique, IsSetAfter-unique}
use Rattle.cert_check.specs.declared.checked.Checked.{Checked}
use Rattle.cert_check.specs.declared.checked.Checked.TheVariants.{Accepted, Start, Outputs, NotClosed, NotAllowed, NotShown, Allowed}
use Rattle.cert_check.specs.Checks.{IsListOf, LacksOpening, HasOpening, IsValidTo, ShowsMore, IsOpen, IsFirstOpen, IsFirstShowingMore, IsFirstNotClosed, IsCheckedRelation}
use Rattle.cert_check.specs.Index.{Names, pair_at, IsRepeat}
use Rattle.cert_check.specs.Progress.{IsClosedFor, TellsClosed}
use Rattle.cert_check.proofs.ItemLaws.{same_place, place_within}
use Rattle.cert_check.proofs.PairLaws.{row_named, rows_length, row_same}

-- a list that is told to be empty
pub empty_list : (xs ys : List ℕ) (b : Bool) → b ≡ eqb (length xs) 0 → b ≡ true → xs ≡ ys → ys ≡ []
empty_list [] ys b e t same = sym same
empty_list (x ∷ xs) ys b e t same = absurd (omega (arith, eqb-true (length (x ∷ xs)) 0 (sym e ∙ t)))

-- a list that isn't told to be empty
pub some_list : (xs ys : List ℕ) (b : Bool) → b ≡ eqb (length xs) 0 → b ≡ false → xs ≡ ys → ys ≡ [] → ⊥
some_list xs ys b e f same none = false≢true (sym f ∙ e ∙ rw (same, none) refl)

-- a list of the relation has states of its system alone
pub listed : (s : System) (lists : List (List ℕ)) (n : ℕ) (list : List ℕ) → All (IsListOf s) lists → n < length lists → list ≡ get_or lists n [] → All (λ q. q < s.states) list
listed s lists n list each below e = rw e (each n [] below).within

-- ---- what the left list shows

-- of the items with places below this, the right list shows each that the left one shows
pub record IsFineBelow (i s : System) (left right : List ℕ) (number : ℕ) : Type 0 where
  pub fine : (y : Item) → place (label_count i) y < number → Shows i left y → Shows s right y

-- the next item isn't shown by the left list, or is shown by the right one
pub fine_next : (i s : System) (left right : List ℕ) (ins outs number : ℕ) (x : Item) → IsSystem i → ins ≡ i.inputs → outs ≡ i.outputs → IsItemOf i x → place (ins + outs) x ≡ number →
    (Shows i left x → Shows s right x) → IsFineBelow i s left right number → IsFineBelow i s left right (number + 1)
fine_next i s left right ins outs number x system e f item here now is = record {
  fine = λ y less shows. elim (cases_lt (place (label_count i) y) number) [
    | inl before ↦ is.fine y before shows
    | inr after ↦
        let there : place (label_count i) x ≡ number = rw (e, f) at here in
        let same : x ≡ y = same_place i x y item (Shows-item i left y system shows) (omega (arith, there, after, less)) in
        rw same at now shows
  ];
}

-- ---- what the right list allows

-- what leads to nothing on the left needs no pair
pub closed_empty : (mode : Mode) (i s : System) (rows : List Row) (left right : List ℕ) (x : Item) (next : List ℕ) → IsNext i x left next → next ≡ [] → IsClosedFor mode i s rows (record { left = left; right = right }) x
closed_empty mode i s rows left right x next step none item allowed first second one other = inl (IsNext-unique i x left first next one step ∙ none)

-- whether the two next lists are a pair decides
pub tells_closed : (mode : Mode) (i s : System) (rows : List Row) (left right : List ℕ) (x : Item) (next_left next_right : List ℕ) (b : Bool) → IsItemOf s x → Allows mode s right x →
    IsNext i x left next_left → IsNext s x right next_right → (next_left ≡ [] → ⊥) → IsTrue b ↔ Contains rows (record { left = next_left; right = next_right }) →
    TellsClosed mode i s rows (record { left = left; right = right }) x b
tells_closed mode i s rows left right x next_left next_right true item allowed one other some found = λ item' allowed' first second step next.
    inr (rw (row_same first second next_left next_right (IsNext-unique i x left first next_left step one) (IsNext-unique s x right second next_right next other)) (found.0 refl))
tells_closed mode i s rows left right x next_left next_right false item allowed one other some found = record {
  item = item;
  allowed = allowed;
  left = next_left;
  right = next_right;
  left_next = one;
  right_next = other;
  some = some;
  absent = λ there. false≢true (found.1 there);
}

-- the pair isn't both closed and open at an item
pub closed_not_open : (mode : Mode) (i s : System) (rows : List Row) (row : Row) (x : Item) → IsClosedFor mode i s rows row x → IsOpen mode i s rows row x → ⊥
closed_not_open mode i s rows row x closed is = elim (closed is.item is.allowed is.left is.right is.left_next is.right_next) [
  | inl none ↦ is.some none
  | inr there ↦ is.absent there
]

-- the pair is closed at the items with places below this
pub record IsClosedBelow (mode : Mode) (i s : System) (rows : List Row) (left right : List ℕ) (number : ℕ) : Type 0 where
  pub closed : (y : Item) → place (label_count s) y < number → IsClosedFor mode i s rows (record { left = left; right = right }) y

-- the pair is closed at the next item
pub closed_next : (mode : Mode) (i s : System) (rows : List Row) (left right : List ℕ) (ins outs number : ℕ) (x : Item) → ins ≡ s.inputs → outs ≡ s.outputs → IsItemOf s x → place (ins + outs) x ≡ number →
    IsClosedFor mode i s rows (record { left = left; right = right }) x → IsClosedBelow mode i s rows left right number → IsClosedBelow mode i s rows left right (number + 1)
closed_next mode i s rows left right ins outs number x e f item here now is = record {
  closed = λ y less other. elim (cases_lt (place (label_count s) y) number) [
    | inl before ↦ is.closed y before other
    | inr after ↦
        let there : place (label_count s) x ≡ number = rw (e, f) at here in
        let same : x ≡ y = same_place s x y item other (omega (arith, there, after, less)) in
        rw same at now other
  ];
}

-- the pair is closed at all items
pub closed_all : (mode : Mode) (i s : System) (rows : List Row) (left right : List ℕ) (number : ℕ) → label_count s < number → IsClosedBelow mode i s rows left right number →
    IsClosedAt mode i s rows (record { left = left; right = right })
closed_all mode i s rows left right number over is y item = is.closed y (omega (arith, over, place_within s y item)) item

-- the pair is open at the next item
pub first_open_at : (mode : Mode) (i s : System) (rows : List Row) (left right : List ℕ) (ins outs number : ℕ) (x : Item) → ins ≡ s.inputs → outs ≡ s.outputs → place (ins + outs) x ≡ number →
    IsOpen mode i s rows (record { left = left; right = right }) x → IsClosedBelow mode i s rows left right number → IsFirstOpen mode i s rows (record { left = left; right = right }) x
first_open_at mode i s rows left right ins outs number x e f here now is =
    let there : place (label_count s) x ≡ number = rw (e, f) at here in
    record {
      here = now;
      before = λ y less open_too. closed_not_open mode i s rows (record { left = left; right = right }) y (is.closed y (rw there at less)) open_too;
    }

-- ---- pair by pair

-- no pair has been looked at
pub valid_none : (mode : Mode) (i s : System) (pairs : List Row) → HasOpening i s pairs → IsValidTo mode i s pairs 0
valid_none mode i s pairs opening = record {
  opening = opening;
  fine = λ j less. absurd (omega (arith, less));
  closed = λ j less. absurd (omega (arith, less));
}

-- the two opening sets that were computed are a pair
pub opening_there : (i s : System) (rows : List Row) (left right : List ℕ) → IsSetAfter i [] left → IsSetAfter s [] right → Contains rows (record { left = left; right = right }) → HasOpening i s rows
opening_there i s rows left right one other there first second set set' =
    rw (row_same first second left right (IsSetAfter-unique i [] first left set one) (IsSetAfter-unique s [] second right set' other)) there

-- the two opening sets that were computed are in no pair
pub opening_lacks : (i s : System) (rows : List Row) (left right : List ℕ) → IsSetAfter i [] left → IsSetAfter s [] right → (Contains rows (record { left = left; right = right }) → ⊥) → LacksOpening i s rows
opening_lacks i s rows left right one other none = record {
  left = left;
  right = right;
  left_set = one;
  right_set = other;
  absent = none;
}

-- the next pair is fine and closed
pub valid_next : (mode : Mode) (i s : System) (relation : Relation) (k : ℕ) (d : ℕ × ℕ) (left right : List ℕ) → k < length relation.pairs → Names relation (get_or relation.pairs k d) left right →
    IsFine i s (record { left = left; right = right }) → IsClosedAt mode i s (rows_of relation) (record { left = left; right = right }) →
    IsValidTo mode i s (rows_of relation) k → IsValidTo mode i s (rows_of relation) (k + 1)
valid_next mode i s relation k d left right below names fine closed is =
    let here : row_at (rows_of relation) k ≡ record { left = left; right = right } = row_named relation k d no_row left right below names in
    record {
      opening = is.opening;
      fine = λ j less. elim (cases_lt j k) [
        | inl before ↦ is.fine j before
        | inr after ↦ let same : j ≡ k = omega (arith, less, after) in rw (same, here) fine
      ];
      closed = λ j less. elim (cases_lt j k) [
        | inl before ↦ is.closed j before
        | inr after ↦ let same : j ≡ k = omega (arith, less, after) in rw (same, here) closed
      ];
    }

-- a pair that an earlier one repeats
pub valid_repeat : (mode : Mode) (i s : System) (relation : Relation) (k : ℕ) → k < length relation.pairs → IsRepeat relation k → IsValidTo mode i s (rows_of relation) k → IsValidTo mode i s (rows_of relation) (k + 1)
valid_repeat mode i s relation k below (j, less, same) is = record {
  opening = is.opening;
  fine = λ m low. elim (cases_lt m k) [
    | inl before ↦ is.fine m before
    | inr after ↦ subst (IsFine i s) (same_row ∙ ap (row_at (rows_of relation)) (at m low after)) (is.fine j less)
  ];
  closed = λ m low. elim (cases_lt m k) [
    | inl before ↦ is.closed m before
    | inr after ↦ subst (IsClosedAt mode i s (rows_of relation)) (same_row ∙ ap (row_at (rows_of relation)) (at m low after)) (is.closed j less)
  ];
}
  where
    left : List ℕ
    left = get_or relation.left (pair_at relation k).0 []

    right : List ℕ
    right = get_or relation.right (pair_at relation k).1 []

    names : Names relation (pair_at relation k) left right
    names = record { first = refl; second = refl }

    row_k : row_at (rows_of relation) k ≡ record { left = left; right = right }
    row_k = row_named relation k (0, 0) no_row left right below names

    row_j : row_at (rows_of relation) j ≡ record { left = left; right = right }
    row_j = row_named relation j (0, 0) no_row left right (omega (arith, less, below)) (same left right names)

    same_row : row_at (rows_of relation) j ≡ row_at (rows_of relation) k
    same_row = row_j ∙ sym row_k

    at : (m : ℕ) → m < k + 1 → k ≤ m → k ≡ m
    at m low after = omega (arith, low, after)

-- the next pair's left list shows more than its right list
pub more_at : (mode : Mode) (i s : System) (relation : Relation) (k : ℕ) (d : ℕ × ℕ) (left right : List ℕ) → k < length relation.pairs → Names relation (get_or relation.pairs k d) left right →
    ShowsMore i s (record { left = left; right = right }) → IsValidTo mode i s (rows_of relation) k → IsFirstShowingMore mode i s (rows_of relation) k
more_at mode i s relation k d left right below names more is =
    let here : row_at (rows_of relation) k ≡ record { left = left; right = right } = row_named relation k d no_row left right below names in
    record {
      before = is;
      within = rw (rows_length relation) below;
      more = rw here more;
    }

-- the next pair is fine and isn't closed
pub not_closed_at : (mode : Mode) (i s : System) (relation : Relation) (k : ℕ) (d : ℕ × ℕ) (left right : List ℕ) (x : Item) → k < length relation.pairs → Names relation (get_or relation.pairs k d) left right →
    IsFine i s (record { left = left; right = right }) → IsFirstOpen mode i s (rows_of relation) (record { left = left; right = right }) x →
    IsValidTo mode i s (rows_of relation) k → IsFirstNotClosed mode i s (rows_of relation) k x
not_closed_at mode i s relation k d left right x below names fine first is =
    let here : row_at (rows_of relation) k ≡ record { left = left; right = right } = row_named relation k d no_row left right below names in
    record {
      before = is;
      within = rw (rows_length relation) below;
      fine = rw here fine;
      open_at = rw here first;
    }

-- all pairs are fine and closed
pub valid_all : (mode : Mode) (i s : System) (relation : Relation) (n : ℕ) → length relation.pairs ≤ n → IsValidTo mode i s (rows_of relation) n → IsValid mode i s (rows_of relation)
valid_all mode i s relation n over is = record {
  opening = is.opening;
  fine = λ row there. each (IsFine i s) is.fine row there;
  closed = λ row there. each (IsClosedAt mode i s (rows_of relation)) is.closed row there;
}
  where
    each : (P : Row → Type 0) → ((j : ℕ) → j < n → P (row_at (rows_of relation) j)) → (row : Row) → Contains (rows_of relation) row → P row
    each P all row (k, below, at) =
        let within : k < length relation.pairs = rw (rows_length relation) at below in
        let same : row_at (rows_of relation) k ≡ row = get_or_default (rows_of relation) k no_row row below ∙ at in
        rw same at (all k (omega (arith, within, over)))

-- where the relation is valid, no other answer is right
pub only_accepted : (mode : Mode) (i s : System) (relation : Relation) (c : Checked) → IsCheckedRelation mode i s relation c → IsValid mode i s (rows_of relation) → c ≡ Accepted
only_accepted mode i s relation Accepted is valid = refl
only_accepted mode i s relation Start is valid = absurd (is.absent (valid.opening is.left is.right is.left_set is.right_set))
only_accepted mode i s relation (Outputs number) is valid =
    let (k, told, fault) = is in
    let (x, shown, lacks) = fault.more in
    absurd (lacks (valid.fine (row_at (rows_of relation) k) (k, fault.within, get_or_default (rows_of relation) k (row_at (rows_of relation) k) no_row fault.within) x shown))
only_accepted mode i s relation (NotClosed number x) is valid =
    let (k, told, fault) = is in
    absurd (closed_not_open mode i s (rows_of relation) (row_at (rows_of relation) k) x
    (valid.closed (row_at (rows_of relation) k) (k, fault.within, get_or_default (rows_of relation) k (row_at (rows_of relation) k) no_row fault.within) x) fault.open_at.here)
only_accepted mode i s relation (NotAllowed number) is valid = absurd is
only_accepted mode i s relation NotShown is valid = absurd is
only_accepted mode i s relation Allowed is valid = absurd is

-- ---- items that the left list can't step with

-- the item with this place, if there is one, is passed over
pub fine_pass : (i s : System) (left right : List ℕ) (present : List Bool) (number : ℕ) → IsSystem i → ArePresent i left (length left) present → get_or present number false ≡ false → IsFineBelow i s left right number → IsFineBelow i s left right (number + 1)
fine_pass i s left right present number system are none is = record {
  fine = λ y less shows. elim (cases_lt (place (label_count i) y) number) [
    | inl before ↦ is.fine y before shows
    | inr after ↦
        let same : place (label_count i) y ≡ number = omega (arith, less, after) in
        absurd (unshown_absent i left present y (Shows-item i left y system shows) are (ap {A = ℕ} {B = Bool} (λ k. get_or present k false) same ∙ none) shows)
  ];
}

pub closed_pass : (mode : Mode) (i s : System) (rows : List Row) (left right : List ℕ) (present : List Bool) (number : ℕ) → s.inputs ≡ i.inputs → s.outputs ≡ i.outputs → ArePresent i left (length left) present → get_or present number false ≡ false →
    IsClosedBelow mode i s rows left right number → IsClosedBelow mode i s rows left right (number + 1)
closed_pass mode i s rows left right present number inputs outputs are none is = record {
  closed = λ y less other. elim (cases_lt (place (label_count s) y) number) [
    | inl before ↦ is.closed y before other
    | inr after ↦
        let same : place (label_count s) y ≡ number = omega (arith, less, after) in
        let counts : label_count i ≡ label_count s = omega (arith, inputs, outputs) in
        let here : place (label_count i) y ≡ number = ap {A = ℕ} {B = ℕ} (λ n. place n y) counts ∙ same in
        closed_absent mode i s rows left right present y are (ap {A = ℕ} {B = Bool} (λ k. get_or present k false) here ∙ none) other
  ];
}
