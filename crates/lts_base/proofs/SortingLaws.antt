-- From raw systems to systems over one alphabet: sorting labels, and renumbering moves.
use Rattle.std.proofs.Common.{◌≡◌, ℕ, ◌+◌, ◌-◌, ◌<◌, ◌≤◌, List, [], ◌∷◌, ◌++◌, length, get_or, take, drop, map, All, Contains, Bool, true, false, not, refl, sym, ◌∙◌, ap, subst, arith, inl, inr, ◌⊎◌, Option, Some, None, IsSome, nat_lt, add-zero}
use Rattle.std.specs.List.{filter, dedup}
use Rattle.std.specs.List.Sorted.{IsPermutation, IsSorted}
use Rattle.std.specs.Ordering.{nat_cmp}
use Rattle.std.specs.Cmp.{IsEquivalence}
use Rattle.std.specs.Cmp.Lexicographic.{slice_cmp}
use Rattle.std.specs.Borrow.{Bor}
use Rattle.std.specs.Str.{bytes_eq}
use Rattle.std.proofs.lemmas.Grind.{flat_map-append}
use Rattle.std.proofs.lemmas.List.{take-append-drop, take-append-le, take_more, append_assoc, append-nil, length-append, length-map, get_or-map, get_or_append_left, get_or-append_right, get_or-take, get_or-drop, get_or_read, get_or_push, length_push, length-take-le, length-drop}
use Rattle.std.proofs.Math.ListN.{drop_of_length-le}
use Rattle.std.proofs.Math.Seq.{take-append_seam, drop-append_seam}
use Rattle.std.proofs.lemmas.List.Elements.{All-head, All-tail, filter_passes, All-append, All-contains, Contains-get_or, Contains-append_left, Contains-append_right}
use Rattle.std.proofs.lemmas.List.Sorted.{Contains-permutation, IsPermutation-sym}
use Rattle.std.proofs.lemmas.List.Kept.{Contains-dedup, Contains-from_dedup, IsStrictlySortedBy-dedup}
use Rattle.std.proofs.lemmas.Map.Keys.{Less-from_sorted}
use Rattle.std.proofs.lemmas.Map.Text.{is_eq-slice_cmp}
use Rattle.std.proofs.lemmas.Slice.Eq.{bytes_eq-Decides}
use Rattle.std.proofs.lemmas.Cmp.{nat_list_cmp_total}
use Rattle.std.proofs.lemmas.Bool.{cases_Bool, cases_lt}
use Rattle.std.proofs.lemmas.List.Filters.{length-filter_both}
use Rattle.lts_base.specs.declared.limits.TheConstants.{MOST_LABELS}
use Rattle.std.proofs.lemmas.Bool.Decides.{same_from_decides, Decides-like, Decides-ltb, nat_tests}
use Rattle.lts_base.specs.declared.raw.RawMove.{RawMove}
use Rattle.lts_base.specs.declared.sorting.Rule.{Rule}
use Rattle.lts_base.specs.declared.sorting.SplitError.{SplitError}
use Rattle.lts_base.specs.declared.sorting.SplitError.TheVariants.{Unsorted, Reserved, TooManyLabels, Memory}
use Rattle.lts_base.specs.declared.action.Act.TheVariants.{Tau}
use Rattle.lts_base.specs.declared.divergence.Divergence.TheVariants.{Refuse}
use Rattle.lts_base.specs.System.{System, IsMoveOf, IsActOf}
use Rattle.lts_base.specs.Built.{move_at}
use Rattle.lts_base.specs.Alphabet.{Alphabet, AreRising, text_at, IsLabel, is_reserved}
use Rattle.lts_base.specs.Raw.{RawSystem, as_move, raw_act, raw_move_at}
use Rattle.lts_base.specs.Sorting.{side_of, IsGoodLabel, IsLabelFault, all_labels, RefusesSplit, AreMoreThan, IsAlphabetOf, IsActFor, AreMovesFor, IsSystemFor, AreSystemsFor, raw_at, system_at}
use Rattle.lts_base.proofs.MoveLaws.{Contains-filter, Contains-from_filter}
use Rattle.lts_base.proofs.LabelLaws.{less_apart}
use Rattle.lts_base.proofs.FlagLaws.{rising_filter}
use Rattle.lts_base.specs.Numbered.{shown, is_side, is_input, AreDistinctLabels, AreFlagged, IsFaultAmong, AreNumbersOf, HasLabelBelow, IsBelow, renumbered, renumbered_act}

-- what a sort by bytes and a pass that drops repeats leave

bytes_equivalence : IsEquivalence bytes_eq
bytes_equivalence = record {
  refl = λ x. (bytes_eq-Decides x x).1 refl;
  symm = λ x y. same_from_decides (bytes_eq x y) (bytes_eq y x) (bytes_eq-Decides x y) (Decides-like (bytes_eq y x) (λ e. sym e) (λ e. sym e) (bytes_eq-Decides y x));
  congr = λ x y z t. ap (λ w. bytes_eq w z) ((bytes_eq-Decides x y).0 t);
}

pub sorted_once-rising : (mid news : List (List ℕ)) → IsSorted (slice_cmp nat_cmp) mid → news ≡ dedup bytes_eq mid → AreRising news
sorted_once-rising mid news sorted e =
    let strict = IsStrictlySortedBy-dedup nat_list_cmp_total (λ (x y : List ℕ). sym (is_eq-slice_cmp x y)) mid sorted in
    subst AreRising (sym e) (λ j k lt below. Less-from_sorted (slice_cmp nat_cmp) (dedup bytes_eq mid) j k [] strict lt below)

pub sorted_once-each : (olds mid news : List (List ℕ)) → IsPermutation olds mid → news ≡ dedup bytes_eq mid → All (Contains olds) news
sorted_once-each olds mid news p e = λ k d below.
    let has : Contains (dedup bytes_eq mid) (get_or news k d) = subst (λ (xs : List (List ℕ)). Contains xs (get_or news k d)) e (Contains-get_or news k d below) in
    Contains-permutation mid olds (get_or news k d) (IsPermutation-sym olds mid p) (Contains-from_dedup bytes_eq mid (get_or news k d) has)

pub sorted_once-all : (olds mid news : List (List ℕ)) → IsPermutation olds mid → news ≡ dedup bytes_eq mid → All (Contains news) olds
sorted_once-all olds mid news p e = λ k d below.
    let has : Contains mid (get_or olds k d) = Contains-permutation olds mid (get_or olds k d) p (Contains-get_or olds k d below) in
    subst (λ (xs : List (List ℕ)). Contains xs (get_or olds k d)) (sym e)
    (Contains-dedup bytes_equivalence (λ x y t. (bytes_eq-Decides x y).0 t) mid (get_or olds k d) has)

-- the first text of the rest is at fault, or memory ran out
pub fault_among : (rule : Rule) (front back : List (List ℕ)) (text : List ℕ) (e : SplitError) → All (IsGoodLabel rule) front → 0 < length back → text_at back 0 ≡ text →
    (e ≡ Memory) ⊎ IsLabelFault rule text e → IsFaultAmong rule (front ++ back) e
fault_among rule front back text e good some first (inl out) = inl out
fault_among rule front back text e good some first (inr fault) =
    inr (
      length front,
      record {
        before = subst (All (IsGoodLabel rule)) (sym (take-append_seam front back)) good;
        below = omega (arith, length-append front back);
        fault =
            let here : text_at (front ++ back) (length front) ≡ text = get_or-append_right front back (length front) (length front) [] refl (omega arith) ∙ (let z : length front - length front ≡ 0 = omega arith in ap (λ n. get_or back n []) z ∙ first) in
            subst (λ (t : List ℕ). IsLabelFault rule t e) (sym here) fault;
      },
    )

pub fault_extends : (rule : Rule) (texts more : List (List ℕ)) (e : SplitError) → IsFaultAmong rule texts e → IsFaultAmong rule (texts ++ more) e
fault_extends rule texts more e (inl out) = inl out
fault_extends rule texts more e (inr (k, fault)) = inr (
  k,
  record {
    before =
        let low = fault.below in
        subst (All (IsGoodLabel rule)) (sym (take-append-le k texts more (omega arith))) fault.before;
    below = omega (arith, fault.below, length-append texts more);
    fault = subst (λ (t : List ℕ). IsLabelFault rule t e) (sym (get_or_append_left texts more [] k fault.below)) fault.fault;
  },
)

pub refused_by_fault : (rule : Rule) (raws : List RawSystem) (e : SplitError) → IsFaultAmong rule (all_labels raws) e → RefusesSplit rule raws e
refused_by_fault rule raws (Reserved told) (inl out) = absurd (cc out)
refused_by_fault rule raws (Reserved told) (inr fault) = fault
refused_by_fault rule raws (Unsorted told) (inl out) = absurd (cc out)
refused_by_fault rule raws (Unsorted told) (inr fault) = fault
refused_by_fault rule raws TooManyLabels (inl out) = absurd (cc out)
refused_by_fault rule raws TooManyLabels (inr (k, fault)) = absurd fault.fault
refused_by_fault rule raws Memory h = tt

-- what the two sides are

true_side : (o : Option Bool) → is_side true o ≡ true → o ≡ Some true
true_side None h = cc
true_side (Some b) h = ap Some h

-- what is sorted, but not to the inputs
other_side : (o : Option Bool) → IsSome o → not (is_side true o) ≡ true → o ≡ Some false
other_side None some h = absurd (cc some)
other_side (Some true) some h = cc
other_side (Some false) some h = refl

-- the two sides, sorted and each text once
pub record AreSorted (rule : Rule) (seen inputs outputs : List (List ℕ)) : Type 0 where
  pub rising_in : AreRising inputs
  pub rising_out : AreRising outputs
  pub each_in : All (λ t. Contains seen t × (side_of rule t ≡ Some true)) inputs
  pub each_out : All (λ t. Contains seen t × (side_of rule t ≡ Some false)) outputs
  pub all : (t : List ℕ) → Contains seen t → Contains inputs t ⊎ Contains outputs t

-- the labels with the flag and those without it are the two sides
pub AreSorted-from_flags : (rule : Rule) (raws : List RawSystem) (texts ins outs : List (List ℕ)) → AreDistinctLabels rule raws texts →
    ins ≡ filter (is_input rule) texts → outs ≡ filter (λ t. not (is_input rule t)) texts → AreSorted rule (all_labels raws) ins outs
AreSorted-from_flags rule raws texts ins outs h one two = record {
  rising_in = rw one (rising_filter (is_input rule) texts h.rising);
  rising_out = rw two (rising_filter (λ t. not (is_input rule t)) texts h.rising);
  each_in = rw one (λ k d below.
      let t = get_or (filter (is_input rule) texts) k d in
      (seen t (Contains-from_filter (is_input rule) texts t (Contains-get_or (filter (is_input rule) texts) k d below)), true_side (side_of rule t) (filter_passes (is_input rule) texts k d below)));
  each_out = rw two (λ k d below.
      let t = get_or (filter (λ u. not (is_input rule u)) texts) k d in
      let there = seen t (Contains-from_filter (λ u. not (is_input rule u)) texts t (Contains-get_or (filter (λ u. not (is_input rule u)) texts) k d below)) in
      (there, other_side (side_of rule t) (All-contains (IsGoodLabel rule) (all_labels raws) t h.good there).sorted (filter_passes (λ u. not (is_input rule u)) texts k d below)));
  all = λ t has. sort t (All-contains (Contains texts) (all_labels raws) t h.all has);
}
  where
    seen : (t : List ℕ) → Contains texts t → Contains (all_labels raws) t
    seen t has = All-contains (Contains (all_labels raws)) texts t h.each has

    sort : (t : List ℕ) → Contains texts t → Contains ins t ⊎ Contains outs t
    sort t has = elim (cases_Bool (is_input rule t)) [
      | inl input ↦ inl (subst (λ (xs : List (List ℕ)). Contains xs t) (sym one) (Contains-filter (is_input rule) texts t has input))
      | inr output ↦ inr (subst (λ (xs : List (List ℕ)). Contains xs t) (sym two) (Contains-filter (λ u. not (is_input rule u)) texts t has (ap not output)))
    ]

front_text : (inputs outputs : List (List ℕ)) (k : ℕ) → k < length inputs → text_at (inputs ++ outputs) k ≡ text_at inputs k
front_text inputs outputs k below = get_or_append_left inputs outputs [] k below

back_text : (inputs outputs : List (List ℕ)) (k : ℕ) → length inputs ≤ k → text_at (inputs ++ outputs) k ≡ text_at outputs (k - length inputs)
back_text inputs outputs k above = get_or-append_right inputs outputs (length inputs) k [] refl above

pub sorted_sides : (rule : Rule) (seen inputs outputs : List (List ℕ)) → AreSorted rule seen inputs outputs → (k : ℕ) → k < length (inputs ++ outputs) →
    side_of rule (text_at (inputs ++ outputs) k) ≡ Some (nat_lt k (length inputs))
sorted_sides rule seen inputs outputs h k below =
    elim (cases_lt k (length inputs)) [
      | inl lt ↦
          let is_true : nat_lt k (length inputs) ≡ true = (Decides-ltb k (length inputs)).1 lt in
          rw (front_text inputs outputs k lt, is_true) (h.each_in k [] lt).1
      | inr ge ↦
          let is_false : nat_lt k (length inputs) ≡ false = grind (arith, nat_tests) in
          let low : k - length inputs < length outputs = omega (arith, length-append inputs outputs) in
          rw (back_text inputs outputs k ge, is_false) (h.each_out (k - length inputs) [] low).1
    ]

sides_apart : (rule : Rule) (t u : List ℕ) → side_of rule t ≡ Some true → side_of rule u ≡ Some false → t ≡ u → ⊥
sides_apart rule t u e f same = let g : side_of rule t ≡ side_of rule u = ap (side_of rule) same in cc

pub sorted_apart : (rule : Rule) (seen inputs outputs : List (List ℕ)) → AreSorted rule seen inputs outputs → (j k : ℕ) → j < k → k < length (inputs ++ outputs) →
    text_at (inputs ++ outputs) j ≡ text_at (inputs ++ outputs) k → ⊥
sorted_apart rule seen inputs outputs h j k lt below =
    elim (cases_lt k (length inputs)) [
      | inl k_in ↦
          let j_in : j < length inputs = omega arith in
          rw (front_text inputs outputs j j_in, front_text inputs outputs k k_in) (λ same. less_apart (text_at inputs j) (text_at inputs k) (h.rising_in j k lt k_in) same)
      | inr k_out ↦
          let k_low : k - length inputs < length outputs = omega (arith, length-append inputs outputs) in
          elim (cases_lt j (length inputs)) [
            | inl j_in ↦
                rw (front_text inputs outputs j j_in, back_text inputs outputs k k_out)
                (λ same. sides_apart rule (text_at inputs j) (text_at outputs (k - length inputs)) (h.each_in j [] j_in).1 (h.each_out (k - length inputs) [] k_low).1 same)
            | inr j_out ↦
                rw (back_text inputs outputs j j_out, back_text inputs outputs k k_out)
                (λ same. less_apart (text_at outputs (j - length inputs)) (text_at outputs (k - length inputs)) (h.rising_out (j - length inputs) (k - length inputs) (omega arith) k_low) same)
          ]
    ]

-- more rising labels than n
pub too_many : (texts all : List (List ℕ)) (n : ℕ) → AreRising texts → All (Contains all) texts → n < length texts → AreMoreThan n texts all
too_many texts all n rising each many = record {
  many = many;
  distinct = λ j k lt below same. less_apart (text_at texts j) (text_at texts k) (rising j k lt below) same;
  each = each;
}

-- the alphabet that the two sides make
pub alphabet_of : (rule : Rule) (raws : List RawSystem) (inputs outputs : List (List ℕ)) → All (IsGoodLabel rule) (all_labels raws) → All IsLabel (all_labels raws) →
    AreSorted rule (all_labels raws) inputs outputs → length inputs + length outputs ≤ MOST_LABELS →
    IsAlphabetOf rule raws (record { texts = inputs ++ outputs; inputs = length inputs })
alphabet_of rule raws inputs outputs good texts h few = record {
  alphabet = record {
    inputs = omega (arith, length-append inputs outputs);
    few = omega (arith, length-append inputs outputs);
    labels = All-append IsLabel inputs outputs
        (λ k d below. All-contains IsLabel (all_labels raws) (get_or inputs k d) texts (h.each_in k d below).0)
        (λ k d below. All-contains IsLabel (all_labels raws) (get_or outputs k d) texts (h.each_out k d below).0);
    free = All-append (λ text. is_reserved text ≡ false) inputs outputs
        (λ k d below. (All-contains (IsGoodLabel rule) (all_labels raws) (get_or inputs k d) good (h.each_in k d below).0).free)
        (λ k d below. (All-contains (IsGoodLabel rule) (all_labels raws) (get_or outputs k d) good (h.each_out k d below).0).free);
    rising_inputs = subst AreRising (sym (take-append_seam inputs outputs)) h.rising_in;
    rising_outputs = subst AreRising (sym (drop-append_seam inputs outputs)) h.rising_out;
    apart = λ j k j_in k_out below. sorted_apart rule (all_labels raws) inputs outputs h j k (omega arith) below;
  };
  good = good;
  each = All-append (Contains (all_labels raws)) inputs outputs (λ k d below. (h.each_in k d below).0) (λ k d below. (h.each_out k d below).0);
  all = λ k d below.
      elim (h.all (get_or (all_labels raws) k d) (Contains-get_or (all_labels raws) k d below)) [
        | inl i ↦ Contains-append_left inputs outputs (get_or (all_labels raws) k d) i
        | inr o ↦ Contains-append_right inputs outputs (get_or (all_labels raws) k d) o
      ];
  sides = sorted_sides rule (all_labels raws) inputs outputs h;
}

-- one system more

abbrev pub raw_0 : RawSystem
raw_0 = record { states = 0; start = 0; labels = []; moves = [] }

pub all_labels-more : (raws : List RawSystem) (k : ℕ) (d : RawSystem) → k < length raws → all_labels (take (k + 1) raws) ≡ all_labels (take k raws) ++ (get_or raws k d).labels
all_labels-more raws k d below =
    ap all_labels (take_more raws k d below) ∙ flat_map-append (λ (r : RawSystem). r.labels) (take k raws) (get_or raws k d ∷ []) ∙
    ap (λ zs. all_labels (take k raws) ++ zs) (append-nil (get_or raws k d).labels)

pub all_labels-split : (raws : List RawSystem) (k : ℕ) (d : RawSystem) → k < length raws → all_labels raws ≡ (all_labels (take k raws) ++ (get_or raws k d).labels) ++ all_labels (drop (k + 1) raws)
all_labels-split raws k d below =
    ap all_labels (sym (take-append-drop (k + 1) raws)) ∙ flat_map-append (λ (r : RawSystem). r.labels) (take (k + 1) raws) (drop (k + 1) raws) ∙
    ap (λ zs. zs ++ all_labels (drop (k + 1) raws)) (all_labels-more raws k d below)

pub All-labels_of : (P : List ℕ → Type 0) (raws : List RawSystem) (k : ℕ) (d : RawSystem) → k < length raws → All P (all_labels raws) → All P (get_or raws k d).labels
All-labels_of P raws k d below all = λ j e low.
    All-contains P (all_labels raws) (get_or (get_or raws k d).labels j e) all
    (rw (all_labels-split raws k d below) (Contains-append_left (all_labels (take k raws) ++ (get_or raws k d).labels) (all_labels (drop (k + 1) raws)) _
    (Contains-append_right (all_labels (take k raws)) (get_or raws k d).labels _ (Contains-get_or (get_or raws k d).labels j e low))))

pub All-all_labels : (P : List ℕ → Type 0) (raws : List RawSystem) → All (λ (r : RawSystem). All P r.labels) raws → All P (all_labels raws)
All-all_labels P [] all = λ k d below. absurd (omega (arith, below))
All-all_labels P (r ∷ raws) all =
    All-append P r.labels (all_labels raws) (All-head (λ (q : RawSystem). All P q.labels) r raws all) (All-all_labels P raws (All-tail (λ (q : RawSystem). All P q.labels) r raws all))

-- the first texts are good, and then one is at fault
pub fault_at : (rule : Rule) (seen texts : List (List ℕ)) (i : ℕ) (text : List ℕ) (e : SplitError) → All (IsGoodLabel rule) (seen ++ take i texts) → i < length texts → text_at texts i ≡ text →
    (e ≡ Memory) ⊎ IsLabelFault rule text e → IsFaultAmong rule (seen ++ texts) e
fault_at rule seen texts i text e good below here fault =
    let whole : (seen ++ take i texts) ++ drop i texts ≡ seen ++ texts = append_assoc seen (take i texts) (drop i texts) ∙ ap (λ zs. seen ++ zs) (take-append-drop i texts) in
    let first : text_at (drop i texts) 0 ≡ text = get_or-drop i texts 0 [] ∙ ap (λ n. get_or texts n []) (add-zero i) ∙ here in
    subst (λ (zs : List (List ℕ)). IsFaultAmong rule zs e) whole
    (fault_among rule (seen ++ take i texts) (drop i texts) text e good (omega (arith, length-drop i texts)) first fault)

-- a fault among the texts after good ones
fault_after : (rule : Rule) (seen texts : List (List ℕ)) (e : SplitError) → All (IsGoodLabel rule) seen → IsFaultAmong rule texts e → IsFaultAmong rule (seen ++ texts) e
fault_after rule seen texts e good (inl out) = inl out
fault_after rule seen texts e good (inr (k, fault)) =
    fault_at rule seen texts k (text_at texts k) e (All-append (IsGoodLabel rule) seen (take k texts) good fault.before) fault.below refl (inr fault.fault)

-- a fault among the labels of one more system
pub labels_fault : (rule : Rule) (raws : List RawSystem) (i : ℕ) (r : RawSystem) (texts : List (List ℕ)) (e : SplitError) → All (IsGoodLabel rule) (all_labels (take i raws)) → i < length raws →
    r ≡ get_or raws i r → texts ≡ r.labels → IsFaultAmong rule texts e → RefusesSplit rule raws e
labels_fault rule raws i r texts e good below is these fault =
    let these' : texts ≡ (get_or raws i r).labels = these ∙ ap (λ (q : RawSystem). q.labels) is in
    let here : IsFaultAmong rule (all_labels (take i raws) ++ (get_or raws i r).labels) e =
    fault_after rule (all_labels (take i raws)) (get_or raws i r).labels e good (subst (λ (zs : List (List ℕ)). IsFaultAmong rule zs e) these' fault) in
    refused_by_fault rule raws e (subst (λ (zs : List (List ℕ)). IsFaultAmong rule zs e) (sym (all_labels-split raws i r below)) (fault_extends rule _ (all_labels (drop (i + 1) raws)) e here))

-- the labels of one more system
pub labels_more : (raws : List RawSystem) (i : ℕ) (r : RawSystem) (texts : List (List ℕ)) → i < length raws → r ≡ get_or raws i r → texts ≡ r.labels →
    all_labels (take (i + 1) raws) ≡ all_labels (take i raws) ++ texts
labels_more raws i r texts below is these = all_labels-more raws i r below ∙ ap (λ zs. all_labels (take i raws) ++ zs) (sym (these ∙ ap (λ (q : RawSystem). q.labels) is))

-- the numbers of texts in the alphabet

pub AreNumbersOf-none : (a : Alphabet) → AreNumbersOf a [] []
AreNumbersOf-none a = record { long = refl; each = λ k below. absurd (omega (arith, below)) }

pub AreNumbersOf-step : (a : Alphabet) (texts : List (List ℕ)) (numbers : List ℕ) (i number : ℕ) (text : List ℕ) → AreNumbersOf a (take i texts) numbers → i < length texts →
    text ≡ get_or texts i text → number < length a.texts → text_at a.texts number ≡ text → AreNumbersOf a (take (i + 1) texts) (numbers ++ number ∷ [])
AreNumbersOf-step a texts numbers i number text h below is low here =
    let count : length numbers ≡ i = h.long ∙ length-take-le i texts (omega arith) in
    record {
      long = omega (arith, length_push numbers number, count, length-take-le (i + 1) texts (omega arith));
      each = λ k k_low.
          let k_below : k < i + 1 = omega (arith, k_low, length-take-le (i + 1) texts (omega arith)) in
          elim (cases_lt k i) [
            | inl lt ↦
                let same : text_at (take (i + 1) texts) k ≡ text_at (take i texts) k = get_or-take (i + 1) texts k [] k_below ∙ sym (get_or-take i texts k [] lt) in
                let old : get_or (numbers ++ number ∷ []) k 0 ≡ get_or numbers k 0 = get_or_append_left numbers (number ∷ []) 0 k (omega (arith, count)) in
                rw (old, same) (h.each k (omega (arith, length-take-le i texts (omega arith))))
            | inr ge ↦
                let e : k ≡ i = omega arith in
                let new : get_or (numbers ++ number ∷ []) k 0 ≡ number = get_or_push numbers number 0 k (count ∙ sym e) in
                let same : text_at (take (i + 1) texts) k ≡ text = get_or-take (i + 1) texts k [] k_below ∙ ap (λ n. get_or texts n []) e ∙ sym (get_or_read texts i text below is []) in
                rw (new, same) (low, here)
          ];
    }

pub labels_below : (states n m : ℕ) (moves : List RawMove) → n ≡ m → All (IsMoveOf states n) (map as_move moves) → All (HasLabelBelow m) moves
labels_below states n m moves e all = λ k d below.
    let moved : get_or (map as_move moves) k (as_move d) ≡ as_move (get_or moves k d) = get_or-map as_move moves k d (as_move d) below in
    let one : IsMoveOf states n (as_move (get_or moves k d)) = subst (IsMoveOf states n) moved (all k (as_move d) (omega (arith, length-map moves as_move))) in
    go (get_or moves k d).label one.act
  where
    go : (l : Option ℕ) → IsActOf n (raw_act l) → IsBelow m l
    go None h = tt
    go (Some b) h = omega arith

pub AreMovesFor-renumbered : (a : Alphabet) (r : RawSystem) (numbers : List ℕ) → AreNumbersOf a r.labels numbers → All (HasLabelBelow (length numbers)) r.moves →
    AreMovesFor a r (map (renumbered numbers) r.moves)
AreMovesFor-renumbered a r numbers h all = record {
  long = length-map r.moves (renumbered numbers);
  each = λ k below.
      let moved : move_at (map (renumbered numbers) r.moves) k ≡ renumbered numbers (raw_move_at r.moves k) =
      get_or-map (renumbered numbers) r.moves k (record { from = 0; label = None; to = 0 }) (record { from = 0; act = Tau; to = 0 }) below in
      rw moved (record { from = refl; to = refl; act = act (raw_move_at r.moves k).label (all k (record { from = 0; label = None; to = 0 }) below) });
}
  where
    act : (l : Option ℕ) → IsBelow (length numbers) l → IsActFor a r.labels l (renumbered_act numbers l)
    act None low = refl
    act (Some n) low =
        let one = h.each n (omega (arith, h.long)) in
        (get_or numbers n 0, refl, one.0, one.1)

pub AreSystemsFor-none : (a : Alphabet) → AreSystemsFor a [] []
AreSystemsFor-none a = record { long = refl; each = λ k below. absurd (omega (arith, below)) }

pub AreSystemsFor-step : (a : Alphabet) (raws : List RawSystem) (systems : List System) (i : ℕ) (r : RawSystem) (s : System) → AreSystemsFor a (take i raws) systems → i < length raws →
    r ≡ get_or raws i r → IsSystemFor a r s → AreSystemsFor a (take (i + 1) raws) (systems ++ s ∷ [])
AreSystemsFor-step a raws systems i r s h below is one =
    let none : System = record { states = 0; start = 0; inputs = 0; outputs = 0; divergence = Refuse; moves = [] } in
    let count : length systems ≡ i = h.long ∙ length-take-le i raws (omega arith) in
    record {
      long = omega (arith, length_push systems s, count, length-take-le (i + 1) raws (omega arith));
      each = λ k k_low.
          let k_below : k < i + 1 = omega (arith, k_low, length-take-le (i + 1) raws (omega arith)) in
          elim (cases_lt k i) [
            | inl lt ↦
                let same : raw_at (take (i + 1) raws) k ≡ raw_at (take i raws) k = get_or-take (i + 1) raws k raw_0 k_below ∙ sym (get_or-take i raws k raw_0 lt) in
                let old : system_at (systems ++ s ∷ []) k ≡ system_at systems k = get_or_append_left systems (s ∷ []) none k (omega (arith, count)) in
                rw (old, same) (h.each k (omega (arith, length-take-le i raws (omega arith))))
            | inr ge ↦
                let e : k ≡ i = omega arith in
                let new : system_at (systems ++ s ∷ []) k ≡ s = get_or_push systems s none k (count ∙ sym e) in
                let same : raw_at (take (i + 1) raws) k ≡ r = get_or-take (i + 1) raws k raw_0 k_below ∙ ap (λ n. get_or raws n raw_0) e ∙ sym (get_or_read raws i r below is raw_0) in
                rw (new, same) one
          ];
    }

pub take_all : {X : Type 0} (xs : List X) (n : ℕ) → length xs ≤ n → take n xs ≡ xs
take_all xs n le = sym (append-nil (take n xs)) ∙ ap (λ zs. take n xs ++ zs) (sym (drop_of_length-le xs le)) ∙ take-append-drop n xs

-- the alphabet of distinct labels, by their flags, where each part is handed on behind a reference
pub alphabet_from_flags : (rule : Rule) (raws : List RawSystem) (texts firsts seconds : List (Bor (List ℕ))) (ins outs : List (List ℕ)) (flags handed : List Bool) →
    AreDistinctLabels rule raws (shown texts) → firsts ≡ texts → flags ≡ map (is_input rule) (shown firsts) → seconds ≡ texts → handed ≡ flags → AreFlagged (shown seconds) handed ins outs →
    IsAlphabetOf rule raws (record { texts = ins ++ outs; inputs = length ins })
alphabet_from_flags rule raws texts firsts seconds ins outs flags handed h first is second hand flagged =
    let same : handed ≡ map (is_input rule) (shown seconds) = hand ∙ is ∙ ap (λ (ts : List (Bor (List ℕ))). map (is_input rule) (shown ts)) (first ∙ sym second) in
    let (one, two) = flagged (is_input rule) same in
    let whole : AreDistinctLabels rule raws (shown seconds) = subst (λ (ts : List (Bor (List ℕ))). AreDistinctLabels rule raws (shown ts)) (sym second) h in
    let long : length ins + length outs ≡ length (shown seconds) = rw (one, two) (length-filter_both (is_input rule) (λ t. not (is_input rule t)) (λ t. refl) (shown seconds)) in
    alphabet_of rule raws ins outs whole.good whole.labels (AreSorted-from_flags rule raws (shown seconds) ins outs whole one two) (omega (arith, long, whole.few))

-- what the distinct texts of all systems are, at the end of a loop that gathers labels
pub distinct_at_end : (rule : Rule) (raws : List RawSystem) (n : ℕ) (seen texts : List (List ℕ)) → length raws ≤ n → seen ≡ all_labels (take n raws) → All (IsGoodLabel rule) (all_labels (take n raws)) →
    All (Contains seen) texts → All (Contains texts) seen → All (IsGoodLabel rule) (all_labels raws) × All (Contains (all_labels raws)) texts × All (Contains texts) (all_labels raws)
distinct_at_end rule raws n seen texts le is good each all =
    let whole : all_labels (take n raws) ≡ all_labels raws = ap all_labels (take_all raws n le) in
    (subst (All (IsGoodLabel rule)) whole good, subst (λ (ls : List (List ℕ)). All (Contains ls) texts) (is ∙ whole) each, subst (All (Contains texts)) (is ∙ whole) all)
