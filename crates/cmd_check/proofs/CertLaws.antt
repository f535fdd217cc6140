-- What a right answer states can be put into a certificate.
use Rattle.std.proofs.Common.{◌≡◌, ◌∙◌, ℕ, ◌<◌, ◌≤◌, List, [], ◌∷◌, ◌++◌, length, map, get_or, All, Contains, inl, inr, ◌⊎◌, sym, ap, subst, arith}
use Rattle.std.proofs.lemmas.Bool.{cases_lt}
use Rattle.std.proofs.lemmas.List.{length-map, get_or-map, get_or_default, get_or_past}
use Rattle.std.proofs.lemmas.List.Elements.{All-push, All-contains, All-weaker, Contains-get_or}
use Rattle.lts_base.specs.declared.item.Item.{Item}
use Rattle.lts_base.specs.declared.item.Item.TheVariants.{Input, Output, Delta}
use Rattle.lts_base.specs.declared.item.Mode.{Mode}
use Rattle.lts_base.specs.declared.relation.Relation.{Relation}
use Rattle.lts_base.specs.System.{System, IsSystem, IsItemOf, IsMoveOf, label_count}
use Rattle.lts_base.specs.Path.{Ends, Has}
use Rattle.lts_base.specs.After.{IsSetAfter, ShowsAfter}
use Rattle.lts_base.specs.Alphabet.{Alphabet, IsAlphabet, IsOver}
use Rattle.lts_base.specs.Reached.{Row, no_row, row_at, lefts, rights, Limits, IsReachedBy}
use Rattle.lts_base.specs.Related.{row_of, rows_of}
use Rattle.lts_base.proofs.ListLaws.{snoc_induction}
use Rattle.lts_base.proofs.RestLaws.{Ends-below}
use Rattle.lts_base.proofs.SetLaws.{Has-front, Has-item}
use Rattle.lts_base.proofs.AllowedLaws.{IsAllowed-has}
use Rattle.lts_base.proofs.DistinctLaws.{Contains-from_distinct}
use Rattle.trace_text.specs.Items.{IsItem, IsShown}
use Rattle.cert_text.specs.Certificate.{IsStates, IsPair, IsRelation, AreBelow}
use Rattle.conf_decide.specs.Decided.{IsConformance}

-- ---- items

item_of : (a : Alphabet) (s : System) (x : Item) → IsAlphabet a → IsOver a s → IsItemOf s x → IsItem a x
item_of a s (Input k) alphabet over h = omega (arith, over.inputs, h)
item_of a s (Output k) alphabet over h = (omega (arith, over.inputs, h.0), omega (arith, over.inputs, over.outputs, alphabet.inputs, h.1))
item_of a s Delta alphabet over h = tt

-- a trace that the system has is of items of the alphabet
pub trace_of : (a : Alphabet) (s : System) → IsAlphabet a → IsOver a s → IsSystem s → (σ : List Item) → Has s σ → All (IsItem a) σ
trace_of a s alphabet over sound =
    snoc_induction (λ (σ : List Item). Has s σ → All (IsItem a) σ)
    (λ has. λ k d below. absurd (omega (arith, below)))
    (λ σ x front has. All-push (IsItem a) σ x (front (Has-front s σ x has)) (item_of a s x alphabet over (Has-item s σ x sound has)))

-- what the system shows is an output of the alphabet or `delta`
pub shown_of : (a : Alphabet) (i : System) → IsAlphabet a → IsOver a i → IsSystem i → (σ : List Item) (x : Item) → ShowsAfter i σ x → IsShown a x
shown_of a i alphabet over sound σ (Input k) shown = absurd shown.2
shown_of a i alphabet over sound σ (Output k) shown =
    let one = All-contains (IsMoveOf i.states (label_count i)) i.moves _ sound.moves shown.2.1.1 in
    let low = one.act in
    (omega (arith, over.inputs, shown.2.0), omega (arith, over.inputs, over.outputs, alphabet.inputs, low))
shown_of a i alphabet over sound σ Delta shown = tt

-- ---- relations

-- a set of states after a trace that the system has is a list for a certificate
states_of : (s : System) (σ : List Item) (ps : List ℕ) → IsSetAfter s σ ps → Has s σ → IsStates ps
states_of s σ ps set (q, ends) = let (k, low, at) = set.all q ends in record { some = omega (arith, low); rising = set.rising }

-- and its states are states of the system
below_of : (s : System) (σ : List Item) (ps : List ℕ) → IsSystem s → IsSetAfter s σ ps → All (λ q. q < s.states) ps
below_of s σ ps sound set = All-weaker (Ends s σ) (λ q. q < s.states) (λ q ends. Ends-below s σ q sound ends) ps set.each

-- what holds of each row holds of each list of a side
of_side : (side : Row → List ℕ) (P : List ℕ → Type 0) (rows : List Row) (lists : List (List ℕ)) → ((list : List ℕ) → Contains lists list → Contains (map side rows) list) →
    ((row : Row) → Contains rows row → P (side row)) → All P lists
of_side side P rows lists from each k d below = go (from (get_or lists k d) (Contains-get_or lists k d below))
  where
    go : Contains (map side rows) (get_or lists k d) → P (get_or lists k d)
    go (j, low, at) =
        let within : j < length rows = omega (arith, low, length-map rows side) in
        let is : side (row_at rows j) ≡ get_or lists k d = sym (get_or-map side rows j no_row (get_or lists k d) within) ∙ at in
        subst P is (each (row_at rows j) (Contains-get_or rows j no_row within))

module _ (mode : Mode) (limits : Limits) (i s : System) (relation : Relation) (h : IsConformance mode limits i s relation) where
  abbrev rows : List Row
  rows = rows_of relation

  -- each row is reached by a trace
  row_reached : (row : Row) → Contains rows row → (σ : List Item) × IsReachedBy mode i s σ row
  row_reached row (k, low, at) =
      let is : row_at rows k ≡ row = get_or_default rows k no_row row low ∙ at in
      let least = h.reached.1.first.least k low in
      (_, subst (IsReachedBy mode i s _) is least.reached)

  left_states : (row : Row) → Contains rows row → IsStates row.left
  left_states row has = let (σ, by) = row_reached row has in states_of i σ row.left by.left by.has

  right_states : (row : Row) → Contains rows row → IsStates row.right
  right_states row has = let (σ, by) = row_reached row has in states_of s σ row.right by.right (IsAllowed-has mode s σ by.allowed)

  left_listed : (list : List ℕ) → Contains relation.left list → Contains (lefts rows) list
  left_listed list has = Contains-from_distinct (lefts rows) list (subst (λ (ls : List (List ℕ)). Contains ls list) h.left has)

  right_listed : (list : List ℕ) → Contains relation.right list → Contains (rights rows) list
  right_listed list has = Contains-from_distinct (rights rows) list (subst (λ (ls : List (List ℕ)). Contains ls list) h.right has)

  -- a place without a list would name the empty one
  named : (lists : List (List ℕ)) (n : ℕ) → IsStates (get_or lists n []) → n < length lists
  named lists n some = elim (cases_lt n (length lists)) [
    | inl low ↦ low
    | inr past ↦
        let none : get_or lists n [] ≡ [] = get_or_past lists n [] past in
        let long : 0 < length (get_or lists n []) = some.some in
        absurd (omega (arith, long, ap length none))
  ]

  pair_named : All (IsPair relation.left relation.right) relation.pairs
  pair_named k d low =
      let within : k < length rows = omega (arith, low, length-map relation.pairs (row_of relation.left relation.right)) in
      let is : row_at rows k ≡ row_of relation.left relation.right (get_or relation.pairs k d) = get_or-map (row_of relation.left relation.right) relation.pairs k d no_row low in
      let has : Contains rows (row_at rows k) = Contains-get_or rows k no_row within in (
        named relation.left _ (subst (λ (row : Row). IsStates row.left) is (left_states (row_at rows k) has)),
        named relation.right _ (subst (λ (row : Row). IsStates row.right) is (right_states (row_at rows k) has)),
      )

  -- the relation of a decision is one for a certificate
  pub relation_sound : IsRelation relation
  relation_sound = record {
    lefts = of_side (λ (row : Row). row.left) IsStates rows relation.left left_listed left_states;
    rights = of_side (λ (row : Row). row.right) IsStates rows relation.right right_listed right_states;
    named = pair_named;
  }

  left_below : IsSystem i → (row : Row) → Contains rows row → All (λ q. q < i.states) row.left
  left_below sound row has = let (σ, by) = row_reached row has in below_of i σ row.left sound by.left

  right_below : IsSystem s → (row : Row) → Contains rows row → All (λ q. q < s.states) row.right
  right_below sound row has = let (σ, by) = row_reached row has in below_of s σ row.right sound by.right

  -- and its states are states of the systems
  pub relation_within : IsSystem i → IsSystem s → AreBelow i.states relation.left × AreBelow s.states relation.right
  relation_within imp spec = (
    of_side (λ (row : Row). row.left) (All (λ q. q < i.states)) rows relation.left left_listed (left_below imp),
    of_side (λ (row : Row). row.right) (All (λ q. q < s.states)) rows relation.right right_listed (right_below spec),
  )
