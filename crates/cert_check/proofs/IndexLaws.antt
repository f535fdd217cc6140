-- Laws on the keys of a relation's pairs.
use Rattle.std.proofs.Common.{◌≡◌, ◌↔◌, ℕ, ◌+◌, ◌<◌, ◌≤◌, List, [], ◌∷◌, ◌++◌, length, get_or, map, All, inl, inr, Contains, Bool, true, false, not, refl, sym, ap, ◌∙◌, arith}
use Rattle.std.specs.Prelude.{IsTrue}
use Rattle.std.proofs.lemmas.List.{get_or-map, get_or_push, get_or_append_left, length-map, length_push}
use Rattle.std.proofs.lemmas.Bool.{cases_lt, false≢true}
use Rattle.lts_base.specs.declared.relation.Relation.{Relation}
use Rattle.lts_base.specs.Alphabet.{AreRising, text_at}
use Rattle.lts_base.specs.Related.{rows_of}
use Rattle.lts_base.proofs.LabelLaws.{less_apart}
use Rattle.lts_base.proofs.NextLaws.{contains_number}
use Rattle.cert_check.specs.Numbers.{Enters}
use Rattle.cert_check.specs.Index.{Names, pair_at, IsPlace, key_of, IsKey, AreKeys, LacksKey, AreSorted, IsIndex, IsRepeat, AreRepeats, left_of, right_of, listed}
use Rattle.cert_check.proofs.PairLaws.{contained_named, named_contained}

-- a list has one place
pub place_once : (lists : List (List ℕ)) (list : List ℕ) (j k : ℕ) → AreRising lists → IsPlace lists list j → IsPlace lists list k → j ≡ k
place_once lists list j k rising (below_j, at_j) (below_k, at_k) = elim (cases_lt j k) [
  | inl less ↦ absurd (less_apart (text_at lists j) (text_at lists k) (rising j k less below_k) (at_j ∙ sym at_k))
  | inr least ↦ elim (cases_lt k j) [
    | inl more ↦ absurd (less_apart (text_at lists k) (text_at lists j) (rising k j more below_j) (at_k ∙ sym at_j))
    | inr most ↦ omega (arith, least, most)
  ]
]

same_key : (a b c d : ℕ) → b < 4294967296 → d < 4294967296 → key_of a b ≡ key_of c d → (a ≡ c) × (b ≡ d)
same_key a b c d small below e = (omega (arith, small, below, e), omega (arith, small, below, e))

-- a key tells its lists
pub key_tells : (lefts rights : List (List ℕ)) (l r p q : List ℕ) (key : ℕ) → IsKey lefts rights l r key → IsKey lefts rights p q key → (l ≡ p) × (r ≡ q)
key_tells lefts rights l r p q key one two =
    let (first, second) = same_key one.first one.second two.first two.second one.small two.small (sym one.key_is ∙ two.key_is) in
    (sym (one.left_is.1) ∙ ap (text_at lefts) first ∙ two.left_is.1, sym (one.right_is.1) ∙ ap (text_at rights) second ∙ two.right_is.1)

-- lists have one key
pub key_once : (lefts rights : List (List ℕ)) (l r : List ℕ) (j k : ℕ) → AreSorted lefts → AreSorted rights → IsKey lefts rights l r j → IsKey lefts rights l r k → j ≡ k
key_once lefts rights l r j k sorted other one two =
    let first = place_once lefts l one.first two.first sorted.rising one.left_is two.left_is in
    let second = place_once rights r one.second two.second other.rising one.right_is two.right_is in
    one.key_is ∙ ap {A = ℕ} {B = ℕ} (λ a. key_of a one.second) first ∙ ap {A = ℕ} {B = ℕ} (λ b. key_of two.first b) second ∙ sym two.key_is

pub AreKeys-none : (relation : Relation) (lefts rights : List (List ℕ)) → AreKeys relation lefts rights 0 []
AreKeys-none relation lefts rights = record {
  each = λ key (k, below, at). absurd (omega (arith, below));
  all = λ k left right less. absurd (omega (arith, less));
}

-- the lists that a pair names are told by it
names_once : (relation : Relation) (pair : ℕ × ℕ) (l r p q : List ℕ) → Names relation pair l r → Names relation pair p q → (l ≡ p) × (r ≡ q)
names_once relation pair l r p q one two = (sym one.first ∙ two.first, sym one.second ∙ two.second)

key_for : (lefts rights : List (List ℕ)) (l r p q : List ℕ) (key : ℕ) → l ≡ p → r ≡ q → IsKey lefts rights l r key → IsKey lefts rights p q key
key_for lefts rights l r p q key e f is = rw (← e, ← f) is

-- the key of one more pair enters
pub AreKeys-more : (relation : Relation) (lefts rights : List (List ℕ)) (n key : ℕ) (old new left right : List ℕ) → Names relation (pair_at relation n) left right → IsKey lefts rights left right key → Enters old key new →
    AreKeys relation lefts rights n old → AreKeys relation lefts rights (n + 1) new
AreKeys-more relation lefts rights n key old new left right names is enters keys = record {
  each = λ k has. elim ((enters k).0 has) [
    | inl before ↦ let (j, less, of_j) = keys.each k before in (j, omega (arith, less), of_j)
    | inr same ↦ (n, omega arith, λ p q named. let (e, f) = names_once relation (pair_at relation n) left right p q names named in rw same (key_for lefts rights left right p q key e f is))
  ];
  all = λ k p q less named. elim (cases_lt k n) [
    | inl before ↦ let (other, is_other, has) = keys.all k p q before named in (other, is_other, (enters other).1 (inl has))
    | inr after ↦
        let same : k ≡ n = omega (arith, less, after) in
        let (e, f) = names_once relation (pair_at relation n) left right p q names (rw same at named) in
        (key, key_for lefts rights left right p q key e f is, (enters key).1 (inr refl))
  ];
}

pub AreRepeats-none : (relation : Relation) → AreRepeats relation 0 []
AreRepeats-none relation = record { long = refl; each = λ k below. absurd (omega (arith, below)) }

-- a key that isn't new is that of an earlier pair with the same lists
pub AreRepeats-more : (relation : Relation) (lefts rights : List (List ℕ)) (n key : ℕ) (old left right : List ℕ) (fresh : Bool) (repeated : List Bool) → Names relation (pair_at relation n) left right → IsKey lefts rights left right key →
    IsTrue fresh ↔ (Contains old key → ⊥) → AreKeys relation lefts rights n old → AreRepeats relation n repeated → AreRepeats relation (n + 1) (repeated ++ not fresh ∷ [])
AreRepeats-more relation lefts rights n key old left right fresh repeated names is new keys are = record {
  long = length_push repeated (not fresh) ∙ ap {A = ℕ} {B = ℕ} (λ k. k + 1) are.long;
  each = λ k below t. elim (cases_lt k n) [
    | inl before ↦ are.each k before (sym (get_or_append_left repeated (not fresh ∷ []) false k (omega (arith, before, are.long))) ∙ t)
    | inr after ↦
        let same : k ≡ n = omega (arith, below, after) in
        let end : length repeated ≡ n = are.long in
        let told : not fresh ≡ true = sym (get_or_push repeated (not fresh) false n end) ∙ (rw same at t) in
        rw same (repeat told)
  ];
}
  where
    repeat : not fresh ≡ true → IsRepeat relation n
    repeat told =
        let (j, less, of_j) = keys.each key (there fresh told new) in
        (j, less, λ p q named. again j of_j p q named)
      where
        there : (b : Bool) → not b ≡ true → IsTrue b ↔ (Contains old key → ⊥) → Contains old key
        there true e new = absurd (false≢true e)
        there false e new = elim (contains_number old key) [
          | inl has ↦ has
          | inr none ↦ absurd (false≢true (new.1 none))
        ]

        again : (j : ℕ) → ((l r : List ℕ) → Names relation (pair_at relation j) l r → IsKey lefts rights l r key) → (p q : List ℕ) → Names relation (pair_at relation n) p q → Names relation (pair_at relation j) p q
        again j of_j p q named =
            let here : Names relation (pair_at relation j) (get_or relation.left (pair_at relation j).0 []) (get_or relation.right (pair_at relation j).1 []) = record { first = refl; second = refl } in
            let (e, f) = key_tells lefts rights (get_or relation.left (pair_at relation j).0 []) (get_or relation.right (pair_at relation j).1 []) left right key (of_j (get_or relation.left (pair_at relation j).0 []) (get_or relation.right (pair_at relation j).1 []) here) is in
            let (g, h) = names_once relation (pair_at relation n) left right p q names named in
            record { first = e ∙ g; second = f ∙ h }

-- a row that is found by its key, and one that isn't
pub found_key : (relation : Relation) (lefts rights : List (List ℕ)) (keys left right : List ℕ) (key : ℕ) (b : Bool) → IsIndex relation lefts rights keys → IsKey lefts rights left right key → IsTrue b ↔ Contains keys key →
    IsTrue b ↔ Contains (rows_of relation) (record { left = left; right = right })
found_key relation lefts rights keys left right key b index is told = (
  λ t.
      let (k, below, of_k) = index.pairs.each key (told.0 t) in
      let here : Names relation (pair_at relation k) (get_or relation.left (pair_at relation k).0 []) (get_or relation.right (pair_at relation k).1 []) = record { first = refl; second = refl } in
      let (e, f) = key_tells lefts rights _ _ left right key (of_k _ _ here) is in
      named_contained relation k (0, 0) left right below (record { first = e; second = f }),
  λ has.
      let (k, below, named) = contained_named relation left right has in
      let (other, is_other, inside) = index.pairs.all k left right below (named (0, 0)) in
      told.1 (rw (key_once lefts rights left right key other index.left index.right is is_other) inside),
)

-- the list that a pair names is one of those that all pairs name
pub named_list : (lists : List (List ℕ)) (number : ℕ × ℕ → ℕ) (pairs : List (ℕ × ℕ)) (among : List (List ℕ)) (k : ℕ) → k < length pairs → All (Contains among) (listed lists (map number pairs)) →
    Contains among (text_at lists (number (get_or pairs k (0, 0))))
named_list lists number pairs among k below all =
    let one : k < length (map number pairs) = rw (length-map pairs number) below in
    let two : k < length (listed lists (map number pairs)) = rw (length-map (map number pairs) (text_at lists)) one in
    let is : get_or (listed lists (map number pairs)) k [] ≡ text_at lists (number (get_or pairs k (0, 0))) =
    get_or-map (text_at lists) (map number pairs) k 0 [] one ∙ ap (text_at lists) (get_or-map number pairs k (0, 0) 0 below) in
    rw is at (all k [] two)

pub no_key : (relation : Relation) (lefts rights : List (List ℕ)) (keys left right : List ℕ) → IsIndex relation lefts rights keys → LacksKey lefts rights left right → Contains (rows_of relation) (record { left = left; right = right }) → ⊥
no_key relation lefts rights keys left right index lacks has =
    let (k, below, named) = contained_named relation left right has in
    let names = named (0, 0) in
    lacks (
      rw (← names.first) (named_list relation.left left_of relation.pairs lefts k below index.all_left),
      rw (← names.second) (named_list relation.right right_of relation.pairs rights k below index.all_right),
    )

-- all pairs have been entered
pub AreKeys-all : (relation : Relation) (lefts rights : List (List ℕ)) (n : ℕ) (keys : List ℕ) → length relation.pairs ≤ n → n ≤ length relation.pairs → AreKeys relation lefts rights n keys → AreKeys relation lefts rights (length relation.pairs) keys
AreKeys-all relation lefts rights n keys over within are = let same : n ≡ length relation.pairs = omega (arith, over, within) in rw same at are

pub AreRepeats-all : (relation : Relation) (n : ℕ) (repeated : List Bool) → length relation.pairs ≤ n → n ≤ length relation.pairs → AreRepeats relation n repeated → AreRepeats relation (length relation.pairs) repeated
AreRepeats-all relation n repeated over within are = let same : n ≡ length relation.pairs = omega (arith, over, within) in rw same at are
