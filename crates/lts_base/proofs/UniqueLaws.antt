-- What `split` leaves no choice of: the alphabet, and the moves but for their order.
use Rattle.std.proofs.Common.{◌≡◌, ℕ, zero, suc, ◌+◌, ◌-◌, ◌<◌, ◌≤◌, List, [], ◌∷◌, ◌++◌, length, get_or, take, drop, All, Contains, Bool, true, false, refl, sym, ◌∙◌, ap, ap₂, subst, arith, inl, inr, ◌⊎◌, Option, Some, None, nat_lt}
use Rattle.std.specs.List.Sorted.{IsPermutation}
use Rattle.std.specs.Ordering.{nat_cmp, ordering_reverse}
use Rattle.std.specs.Cmp.{IsEquivalence}
use Rattle.std.specs.Cmp.Lexicographic.{slice_cmp}
use Rattle.std.specs.declared.cmp.Ordering.TheVariants.{Less, Greater}
use Rattle.std.specs.Str.{bytes_eq}
use Rattle.std.proofs.lemmas.List.{take-append-drop, length-take-le, length-drop, get_or-take, get_or-drop, get_or_default, ext_get_or}
use Rattle.std.proofs.lemmas.List.Elements.{All-contains, Contains-append_cases}
use Rattle.std.proofs.lemmas.List.Sorted.{IsPermutation-sym, IsPermutation-trans}
use Rattle.std.proofs.lemmas.Map.Keys.{IsDistinct-from_apart}
use Rattle.std.proofs.lemmas.Map.Made.{length-le_from_is_member, is_member-Decides}
use Rattle.std.proofs.lemmas.Slice.Eq.{bytes_eq-Decides}
use Rattle.std.proofs.lemmas.Cmp.{nat_list_cmp_total}
use Rattle.std.proofs.lemmas.Bool.{cases_lt, false_from_ne_true}
use Rattle.std.proofs.lemmas.Bool.Decides.{same_from_decides, Decides-like, Decides-ltb, nat_tests}
use Rattle.lts_base.specs.declared.action.Act.{Act}
use Rattle.lts_base.specs.declared.action.Act.TheVariants.{Tau, Label}
use Rattle.lts_base.specs.declared.action.Move.{Move}
use Rattle.lts_base.specs.declared.raw.RawMove.{RawMove}
use Rattle.lts_base.specs.declared.sorting.Rule.{Rule}
use Rattle.lts_base.specs.System.{System}
use Rattle.lts_base.specs.Built.{move_at}
use Rattle.lts_base.specs.Alphabet.{Alphabet, IsAlphabet, AreRising, text_at}
use Rattle.lts_base.specs.Raw.{RawSystem, raw_move_at}
use Rattle.lts_base.specs.Sorting.{side_of, all_labels, AreMoreThan, IsAlphabetOf, IsActFor, IsMoveFor, AreMovesFor, IsSystemFor}
use Rattle.lts_base.proofs.ListLaws.{Contains-first_cases, Contains-first, Contains-rest, Contains-none}
use Rattle.lts_base.proofs.LabelLaws.{less_apart}

-- no text comes before and after another one
less_once : (a b : List ℕ) → slice_cmp nat_cmp a b ≡ Less → slice_cmp nat_cmp b a ≡ Less → ⊥
less_once a b one other = let e : slice_cmp nat_cmp b a ≡ Greater = nat_list_cmp_total.antisymm b a ∙ ap ordering_reverse one in cc

-- the texts after the first one rise
AreRising-rest : (x : List ℕ) (xs : List (List ℕ)) → AreRising (x ∷ xs) → AreRising xs
AreRising-rest x xs rising j k lt below = rising (suc j) (suc k) (omega (arith, lt)) (omega (arith, below))

-- the first of rising texts comes before each of the others
first_before : (x : List ℕ) (xs : List (List ℕ)) (q : List ℕ) → AreRising (x ∷ xs) → Contains xs q → slice_cmp nat_cmp x q ≡ Less
first_before x xs q rising (k, below, at) =
    let here : text_at xs k ≡ q = get_or_default xs k [] q below ∙ at in
    subst (λ (z : List ℕ). slice_cmp nat_cmp x z ≡ Less) here (rising zero (suc k) (omega arith) (omega (arith, below)))

-- rising texts with the same members are equal
pub rising_unique : (xs ys : List (List ℕ)) → AreRising xs → AreRising ys → ((q : List ℕ) → Contains xs q → Contains ys q) → ((q : List ℕ) → Contains ys q → Contains xs q) → xs ≡ ys
rising_unique [] [] up_x up_y into back = refl
rising_unique [] (y ∷ ys) up_x up_y into back = absurd (Contains-none y (back y (Contains-first y ys)))
rising_unique (x ∷ xs) [] up_x up_y into back = absurd (Contains-none x (into x (Contains-first x xs)))
rising_unique (x ∷ xs) (y ∷ ys) up_x up_y into back =
    let same : x ≡ y = heads (Contains-first_cases y ys x (into x (Contains-first x xs))) (Contains-first_cases x xs y (back y (Contains-first y ys))) in
    let rest : xs ≡ ys = rising_unique xs ys (AreRising-rest x xs up_x) (AreRising-rest y ys up_y)
    (λ q inside. elim (Contains-first_cases y ys q (into q (Contains-rest x xs q inside))) [
      | inl first ↦ absurd (less_apart x q (first_before x xs q up_x inside) (same ∙ first))
      | inr other ↦ other
    ])
    (λ q inside. elim (Contains-first_cases x xs q (back q (Contains-rest y ys q inside))) [
      | inl first ↦ absurd (less_apart y q (first_before y ys q up_y inside) (sym same ∙ first))
      | inr other ↦ other
    ]) in
    cc
  where
    heads : (y ≡ x) ⊎ Contains ys x → (x ≡ y) ⊎ Contains xs y → x ≡ y
    heads (inl first) other = sym first
    heads (inr inside) (inl first) = first
    heads (inr inside) (inr outside) = absurd (less_once x y (first_before x xs y up_x outside) (first_before y ys x up_y inside))

-- no text stands twice in an alphabet
pub texts_apart : (a : Alphabet) → IsAlphabet a → (j k : ℕ) → j < k → k < length a.texts → text_at a.texts j ≡ text_at a.texts k → ⊥
texts_apart a is j k lt below same =
    elim (cases_lt k a.inputs) [
      | inl k_in ↦
          let front_j : text_at (take a.inputs a.texts) j ≡ text_at a.texts j = get_or-take a.inputs a.texts j [] (omega (arith, lt, k_in)) in
          let front_k : text_at (take a.inputs a.texts) k ≡ text_at a.texts k = get_or-take a.inputs a.texts k [] k_in in
          let low : k < length (take a.inputs a.texts) = omega (arith, k_in, length-take-le a.inputs a.texts is.inputs) in
          less_apart (text_at (take a.inputs a.texts) j) (text_at (take a.inputs a.texts) k) (is.rising_inputs j k lt low) (front_j ∙ same ∙ sym front_k)
      | inr k_out ↦
          elim (cases_lt j a.inputs) [
            | inl j_in ↦ is.apart j k j_in k_out below same
            | inr j_out ↦
                let n : ℕ = a.inputs in
                let back_j : text_at (drop n a.texts) (j - n) ≡ text_at a.texts j = get_or-drop n a.texts (j - n) [] ∙ (let e : n + (j - n) ≡ j = omega (arith, j_out) in ap (text_at a.texts) e) in
                let back_k : text_at (drop n a.texts) (k - n) ≡ text_at a.texts k = get_or-drop n a.texts (k - n) [] ∙ (let e : n + (k - n) ≡ k = omega (arith, k_out) in ap (text_at a.texts) e) in
                let low : k - n < length (drop n a.texts) = omega (arith, below, k_out, length-drop n a.texts) in
                less_apart (text_at (drop n a.texts) (j - n)) (text_at (drop n a.texts) (k - n)) (is.rising_outputs (j - n) (k - n) (omega (arith, lt, j_out)) low) (back_j ∙ same ∙ sym back_k)
          ]
    ]

-- a text has one number in an alphabet
pub number_unique : (a : Alphabet) → IsAlphabet a → (j k : ℕ) → j < length a.texts → k < length a.texts → text_at a.texts j ≡ text_at a.texts k → j ≡ k
number_unique a is j k j_low k_low same =
    elim (cases_lt j k) [
      | inl lt ↦ absurd (texts_apart a is j k lt k_low same)
      | inr ge ↦
          elim (cases_lt k j) [
            | inl lt ↦ absurd (texts_apart a is k j lt j_low (sym same))
            | inr le ↦ omega (arith, ge, le)
          ]
    ]

-- each input is a label that the rule sorts to the inputs
inputs_are : (rule : Rule) (raws : List RawSystem) (a : Alphabet) → IsAlphabetOf rule raws a → (t : List ℕ) → Contains (take a.inputs a.texts) t → Contains (all_labels raws) t × (side_of rule t ≡ Some true)
inputs_are rule raws a is t (k, below, at) =
    let k_in : k < a.inputs = omega (arith, below, length-take-le a.inputs a.texts is.alphabet.inputs) in
    let k_low : k < length a.texts = omega (arith, k_in, is.alphabet.inputs) in
    let here : text_at a.texts k ≡ t = sym (get_or-take a.inputs a.texts k [] k_in) ∙ get_or_default (take a.inputs a.texts) k [] t below ∙ at in
    let is_true : nat_lt k a.inputs ≡ true = (Decides-ltb k a.inputs).1 k_in in
    (subst (Contains (all_labels raws)) here (is.each k [] k_low), sym (ap (side_of rule) here) ∙ is.sides k k_low ∙ ap Some is_true)

-- each output is a label that the rule sorts to the outputs
outputs_are : (rule : Rule) (raws : List RawSystem) (a : Alphabet) → IsAlphabetOf rule raws a → (t : List ℕ) → Contains (drop a.inputs a.texts) t → Contains (all_labels raws) t × (side_of rule t ≡ Some false)
outputs_are rule raws a is t (k, below, at) =
    let n : ℕ = a.inputs in
    let k_low : n + k < length a.texts = omega (arith, below, length-drop n a.texts) in
    let here : text_at a.texts (n + k) ≡ t = sym (get_or-drop n a.texts k []) ∙ get_or_default (drop n a.texts) k [] t below ∙ at in
    let is_false : nat_lt (n + k) n ≡ false = grind (arith, nat_tests) in
    (subst (Contains (all_labels raws)) here (is.each (n + k) [] k_low), sym (ap (side_of rule) here) ∙ is.sides (n + k) k_low ∙ ap Some is_false)

-- a text of the alphabet is an input or an output
side_cases : (a : Alphabet) (t : List ℕ) → Contains a.texts t → Contains (take a.inputs a.texts) t ⊎ Contains (drop a.inputs a.texts) t
side_cases a t has = Contains-append_cases (take a.inputs a.texts) (drop a.inputs a.texts) t (subst (λ (ts : List (List ℕ)). Contains ts t) (sym (take-append-drop a.inputs a.texts)) has)

-- what the rule sorts to one side, it doesn't sort to the other
one_side : (o : Option Bool) → o ≡ Some true → o ≡ Some false → ⊥
one_side o e f = cc

-- each label that the rule sorts to the inputs is an input
inputs_all : (rule : Rule) (raws : List RawSystem) (a : Alphabet) → IsAlphabetOf rule raws a → (t : List ℕ) → Contains (all_labels raws) t → side_of rule t ≡ Some true → Contains (take a.inputs a.texts) t
inputs_all rule raws a is t has side =
    elim (side_cases a t (All-contains (Contains a.texts) (all_labels raws) t is.all has)) [
      | inl front ↦ front
      | inr back ↦ absurd (one_side (side_of rule t) side (outputs_are rule raws a is t back).1)
    ]

-- each label that the rule sorts to the outputs is an output
outputs_all : (rule : Rule) (raws : List RawSystem) (a : Alphabet) → IsAlphabetOf rule raws a → (t : List ℕ) → Contains (all_labels raws) t → side_of rule t ≡ Some false → Contains (drop a.inputs a.texts) t
outputs_all rule raws a is t has side =
    elim (side_cases a t (All-contains (Contains a.texts) (all_labels raws) t is.all has)) [
      | inl front ↦ absurd (one_side (side_of rule t) (inputs_are rule raws a is t front).1 side)
      | inr back ↦ back
    ]

-- alphabets with the same texts on each side are equal
same_alphabet : (a b : Alphabet) → a.inputs ≤ length a.texts → b.inputs ≤ length b.texts → take a.inputs a.texts ≡ take b.inputs b.texts → drop a.inputs a.texts ≡ drop b.inputs b.texts → a ≡ b
same_alphabet a b a_in b_in front back =
    let texts : a.texts ≡ b.texts = sym (take-append-drop a.inputs a.texts) ∙ ap₂ (λ (xs ys : List (List ℕ)). xs ++ ys) front back ∙ take-append-drop b.inputs b.texts in
    let inputs : a.inputs ≡ b.inputs = sym (length-take-le a.inputs a.texts a_in) ∙ ap {A = List (List ℕ)} {B = ℕ} length front ∙ length-take-le b.inputs b.texts b_in in
    let F : List (List ℕ) → ℕ → Alphabet = λ xs n. record { texts = xs; inputs = n } in
    ap₂ F texts inputs

-- systems of files have one alphabet by a rule
pub alphabet_unique : (rule : Rule) (raws : List RawSystem) (a b : Alphabet) → IsAlphabetOf rule raws a → IsAlphabetOf rule raws b → a ≡ b
alphabet_unique rule raws a b is other =
    same_alphabet a b is.alphabet.inputs other.alphabet.inputs
    (rising_unique (take a.inputs a.texts) (take b.inputs b.texts) is.alphabet.rising_inputs other.alphabet.rising_inputs
    (λ q has. let found = inputs_are rule raws a is q has in inputs_all rule raws b other q found.0 found.1)
    (λ q has. let found = inputs_are rule raws b other q has in inputs_all rule raws a is q found.0 found.1))
    (rising_unique (drop a.inputs a.texts) (drop b.inputs b.texts) is.alphabet.rising_outputs other.alphabet.rising_outputs
    (λ q has. let found = outputs_are rule raws a is q has in outputs_all rule raws b other q found.0 found.1)
    (λ q has. let found = outputs_are rule raws b other q has in outputs_all rule raws a is q found.0 found.1))

-- what a raw move carries is one act over the alphabet
act_unique : (a : Alphabet) → IsAlphabet a → (labels : List (List ℕ)) (l : Option ℕ) (x y : Act) → IsActFor a labels l x → IsActFor a labels l y → x ≡ y
act_unique a is labels None x y e f = e ∙ sym f
act_unique a is labels (Some n) x y (j, e, j_low, j_at) (k, f, k_low, k_at) = e ∙ ap Label (number_unique a is j k j_low k_low (j_at ∙ sym k_at)) ∙ sym f

-- a raw move is one move over the alphabet
move_unique : (a : Alphabet) → IsAlphabet a → (labels : List (List ℕ)) (m : RawMove) (x y : Move) → IsMoveFor a labels m x → IsMoveFor a labels m y → x ≡ y
move_unique a is labels m x y one other =
    let F : ℕ → Act → ℕ → Move = λ p act q. record { from = p; act = act; to = q } in
    let from : x.from ≡ y.from = one.from ∙ sym other.from in
    let act : x.act ≡ y.act = act_unique a is labels m.label x.act y.act one.act other.act in
    let to : x.to ≡ y.to = one.to ∙ sym other.to in
    ap (λ p. F p x.act x.to) from ∙ ap (λ act. F y.from act x.to) act ∙ ap (F y.from y.act) to

-- raw moves are one list of moves over the alphabet
pub moves_unique : (a : Alphabet) → IsAlphabet a → (r : RawSystem) (xs ys : List Move) → AreMovesFor a r xs → AreMovesFor a r ys → xs ≡ ys
moves_unique a is r xs ys one other =
    ext_get_or (record { from = 0; act = Tau; to = 0 }) xs ys (one.long ∙ sym other.long)
    (λ k below. let low : k < length r.moves = omega (arith, below, one.long) in move_unique a is r.labels (raw_move_at r.moves k) (move_at xs k) (move_at ys k) (one.each k low) (other.each k low))

-- a raw system is one system over the alphabet, but for the order of its moves
pub system_moves_unique : (a : Alphabet) → IsAlphabet a → (r : RawSystem) (s t : System) → IsSystemFor a r s → IsSystemFor a r t → IsPermutation s.moves t.moves
system_moves_unique a is r s t one other =
    let (xs, xs_are, xs_in) = one.moves in
    let (ys, ys_are, ys_in) = other.moves in
    let back : IsPermutation s.moves ys = subst (IsPermutation s.moves) (moves_unique a is r xs ys xs_are ys_are) (IsPermutation-sym xs s.moves xs_in) in
    IsPermutation-trans s.moves ys t.moves back ys_in

-- the equality of bytes is an equivalence
bytes_equivalence : IsEquivalence bytes_eq
bytes_equivalence = record {
  refl = λ x. (bytes_eq-Decides x x).1 refl;
  symm = λ x y. same_from_decides (bytes_eq x y) (bytes_eq y x) (bytes_eq-Decides x y) (Decides-like (bytes_eq y x) (λ e. sym e) (λ e. sym e) (bytes_eq-Decides y x));
  congr = λ x y z t. ap (λ w. bytes_eq w z) ((bytes_eq-Decides x y).0 t);
}

-- distinct texts that all stand in a list are at most as many as the list has
distinct_fit : (texts all : List (List ℕ)) → ((j k : ℕ) → j < k → k < length texts → text_at texts j ≡ text_at texts k → ⊥) → All (Contains all) texts → length texts ≤ length all
distinct_fit texts all distinct each =
    length-le_from_is_member bytes_equivalence texts all
    (IsDistinct-from_apart bytes_eq texts
    (λ i j d lt below. false_from_ne_true (bytes_eq (get_or texts i d) (get_or texts j d))
    (λ same. distinct i j lt below
    (get_or_default texts i [] d (omega (arith, lt, below)) ∙ (bytes_eq-Decides (get_or texts i d) (get_or texts j d)).0 same ∙ get_or_default texts j d [] below))))
    (λ q member. (is_member-Decides bytes_eq-Decides all q).1 (All-contains (Contains all) texts q each ((is_member-Decides bytes_eq-Decides texts q).0 member)))

-- there are no more than n distinct texts where all of them stand in a list of at most n
pub none_more : (n : ℕ) (texts all few : List (List ℕ)) → All (Contains few) all → length few ≤ n → AreMoreThan n texts all → ⊥
none_more n texts all few within most more =
    let fit : length texts ≤ length few = distinct_fit texts few more.distinct (λ k d below. All-contains (Contains few) all (get_or texts k d) within (more.each k d below)) in
    omega (arith, fit, most, more.many)
