-- Which labels are inputs: flags, and the two sides that they tell.
use Rattle.std.proofs.Common.{◌≡◌, ◌∙◌, ℕ, ◌+◌, ◌<◌, List, [], ◌∷◌, ◌++◌, length, get_or, set, replicate, take, map, Contains, Bool, true, false, not, cond, ◌||◌, inl, inr, refl, sym, ap, arith}
use Rattle.std.specs.List.{filter, list_any}
use Rattle.std.specs.Ordering.{nat_cmp}
use Rattle.std.specs.Cmp.Lexicographic.{slice_cmp}
use Rattle.std.specs.Str.{bytes_eq}
use Rattle.std.proofs.lemmas.Bool.{cases_order, false_from_ne_true}
use Rattle.std.proofs.lemmas.Cmp.{nat_list_cmp_total}
use Rattle.std.proofs.lemmas.List.{append-nil, get_or_default, ext_get_or, get_or-map, length-map, get_or-set_other, length-set, get_or-replicate, length-replicate}
use Rattle.std.proofs.lemmas.List.Elements.{filter_more}
use Rattle.std.proofs.lemmas.List.Folds.{list_any-append}
use Rattle.std.proofs.lemmas.List.Kept.{IsStrictlySortedBy-filter}
use Rattle.std.proofs.lemmas.Grind.{get_or-set_at}
use Rattle.std.proofs.lemmas.Map.Keys.{Less-from_sorted, sorted_from_all_adjacent}
use Rattle.std.proofs.lemmas.Slice.Eq.{bytes_eq-Decides}
use Rattle.lts_base.specs.Alphabet.{AreRising, text_at}
use Rattle.lts_base.proofs.LabelLaws.{less_apart}

-- whether the text is among those listed so far
abbrev pub is_among : List (List ℕ) → List ℕ → Bool
is_among seen text = list_any (bytes_eq text) seen

-- texts apart compare as such
apart_bytes : (t u : List ℕ) → (t ≡ u → ⊥) → bytes_eq t u ≡ false
apart_bytes t u apart = false_from_ne_true (bytes_eq t u) (λ same. apart ((bytes_eq-Decides t u).0 same))

is_among-other : (seen : List (List ℕ)) (t u : List ℕ) → (t ≡ u → ⊥) → is_among (seen ++ u ∷ []) t ≡ is_among seen t
is_among-other seen t u apart = list_any-append (bytes_eq t) seen (u ∷ []) ∙ go (is_among seen t) (apart_bytes t u apart)
  where
    go : (b : Bool) → bytes_eq t u ≡ false → (b || list_any (bytes_eq t) (u ∷ [])) ≡ b
    go true other = refl
    go false other = rw other refl

is_among-itself : (seen : List (List ℕ)) (u : List ℕ) → is_among (seen ++ u ∷ []) u ≡ true
is_among-itself seen u = list_any-append (bytes_eq u) seen (u ∷ []) ∙ go (is_among seen u) ((bytes_eq-Decides u u).1 refl)
  where
    go : (b : Bool) → bytes_eq u u ≡ true → (b || list_any (bytes_eq u) (u ∷ [])) ≡ true
    go true itself = refl
    go false itself = rw itself refl

-- rising texts differ
rising_apart : (texts : List (List ℕ)) (j k : ℕ) → AreRising texts → j < length texts → k < length texts → (j ≡ k → ⊥) → text_at texts j ≡ text_at texts k → ⊥
rising_apart texts j k rising below under other same = elim (cases_order j k) [
  | inl e ↦ other e
  | inr (inl lt) ↦ less_apart (text_at texts j) (text_at texts k) (rising j k lt under) same
  | inr (inr gt) ↦ less_apart (text_at texts k) (text_at texts j) (rising k j gt below) (sym same)
]

-- one more listed text, which is one of the texts
pub flags_hit : (texts seen : List (List ℕ)) (flags : List Bool) (place : ℕ) (u : List ℕ) → AreRising texts → place < length texts → text_at texts place ≡ u →
    flags ≡ map (is_among seen) texts → set flags place true ≡ map (is_among (seen ++ u ∷ [])) texts
flags_hit texts seen flags place u rising below here is =
    let old : List Bool = map (is_among seen) texts in
    let new : List Bool = map (is_among (seen ++ u ∷ [])) texts in
    let long : length old ≡ length texts = length-map texts (is_among seen) in
    rw is (ext_get_or false (set old place true) new (length-set old place true ∙ long ∙ sym (length-map texts (is_among (seen ++ u ∷ [])))) (λ k inside.
    let low : k < length texts = omega (arith, inside, length-set old place true, long) in
    get k low ∙ sym (get_or-map (is_among (seen ++ u ∷ [])) texts k [] false low)))
  where
    get : (k : ℕ) → k < length texts → get_or (set (map (is_among seen) texts) place true) k false ≡ is_among (seen ++ u ∷ []) (text_at texts k)
    get k low = elim (cases_order k place) [
      | inl e ↦
          get_or-set_at (map (is_among seen) texts) place k true false e (omega (arith, below, length-map texts (is_among seen))) ∙ sym (is_among-itself seen u) ∙
          ap (is_among (seen ++ u ∷ [])) (sym here ∙ ap (text_at texts) (sym e))
      | inr other ↦
          let apart : k ≡ place → ⊥ = λ e. elim other [ inl lt ↦ omega (arith, e, lt) | inr gt ↦ omega (arith, e, gt) ] in
          get_or-set_other (map (is_among seen) texts) place k true false apart ∙ get_or-map (is_among seen) texts k [] false low ∙
          sym (is_among-other seen (text_at texts k) u (λ same. rising_apart texts k place rising low below apart (same ∙ sym here)))
    ]

-- one more listed text, which is none of the texts
pub flags_miss : (texts seen : List (List ℕ)) (flags : List Bool) (u : List ℕ) → (Contains texts u → ⊥) → flags ≡ map (is_among seen) texts → flags ≡ map (is_among (seen ++ u ∷ [])) texts
flags_miss texts seen flags u none is = is ∙ ext_get_or false (map (is_among seen) texts) (map (is_among (seen ++ u ∷ [])) texts)
    (length-map texts (is_among seen) ∙ sym (length-map texts (is_among (seen ++ u ∷ [])))) (λ k inside.
    let low : k < length texts = omega (arith, inside, length-map texts (is_among seen)) in
    get_or-map (is_among seen) texts k [] false low ∙ sym (is_among-other seen (text_at texts k) u (λ same. none (k, low, at k low same))) ∙
    sym (get_or-map (is_among (seen ++ u ∷ [])) texts k [] false low))
  where
    at : (k : ℕ) → k < length texts → text_at texts k ≡ u → get_or texts k u ≡ u
    at k low same = get_or_default texts k u [] low ∙ same

-- nothing is listed yet
pub flags_none : (texts : List (List ℕ)) (flags : List Bool) (n : ℕ) → n ≡ length texts → flags ≡ replicate n false → flags ≡ map (is_among []) texts
flags_none texts flags n long is = is ∙ ext_get_or false (replicate n false) (map (is_among []) texts) (length-replicate n false ∙ long ∙ sym (length-map texts (is_among []))) (λ k inside.
    let low : k < n = omega (arith, inside, length-replicate n false) in
    get_or-replicate n k false false low ∙ sym (get_or-map (is_among []) texts k [] false (omega (arith, low, long))))

-- a filter keeps rising texts rising
pub rising_filter : (p : List ℕ → Bool) (texts : List (List ℕ)) → AreRising texts → AreRising (filter p texts)
rising_filter p texts rising =
    let strict = sorted_from_all_adjacent nat_list_cmp_total texts [] (λ k inside. rising k (k + 1) (omega arith) inside) in
    λ j k lt below. Less-from_sorted (slice_cmp nat_cmp) (filter p texts) j k [] (IsStrictlySortedBy-filter (slice_cmp nat_cmp) p texts strict) lt below

-- one text more goes to its side
pub flagged_step : (p : List ℕ → Bool) (texts ins outs : List (List ℕ)) (flags : List Bool) (i : ℕ) (b : Bool) (text : List ℕ) → i < length texts → flags ≡ map p texts → b ≡ get_or flags i b → text ≡ text_at texts i →
    (ins ≡ filter p (take i texts)) × (outs ≡ filter (λ t. not (p t)) (take i texts)) →
    (cond b (ins ++ text ∷ []) ins ≡ filter p (take (i + 1) texts)) × (cond b outs (outs ++ text ∷ []) ≡ filter (λ t. not (p t)) (take (i + 1) texts))
flagged_step p texts ins outs flags i b text below is flag here (one, two) =
    let told : p text ≡ b = ap p here ∙ sym (get_or-map p texts i [] b below) ∙ ap (λ (fs : List Bool). get_or fs i b) (sym is) ∙ sym flag in
    let more_in : filter p (take (i + 1) texts) ≡ filter p (take i texts) ++ cond (p text) (text ∷ []) [] = rw here (filter_more p texts i [] below) in
    let more_out : filter (λ t. not (p t)) (take (i + 1) texts) ≡ filter (λ t. not (p t)) (take i texts) ++ cond (not (p text)) (text ∷ []) [] = rw here (filter_more (λ t. not (p t)) texts i [] below) in
    go b told more_in more_out
  where
    go : (b : Bool) → p text ≡ b → filter p (take (i + 1) texts) ≡ filter p (take i texts) ++ cond (p text) (text ∷ []) [] →
        filter (λ t. not (p t)) (take (i + 1) texts) ≡ filter (λ t. not (p t)) (take i texts) ++ cond (not (p text)) (text ∷ []) [] →
        (cond b (ins ++ text ∷ []) ins ≡ filter p (take (i + 1) texts)) × (cond b outs (outs ++ text ∷ []) ≡ filter (λ t. not (p t)) (take (i + 1) texts))
    go true told more_in more_out = (rw one (sym (rw told at more_in)), rw two (sym (rw (told, append-nil) at more_out)))
    go false told more_in more_out = (rw one (sym (rw (told, append-nil) at more_in)), rw two (sym (rw told at more_out)))
