-- Laws on lists of distinct label texts.
use Rattle.std.proofs.Common.{◌≡◌, ◌∙◌, ℕ, ◌+◌, ◌<◌, false, List, [], ◌∷◌, ◌++◌, length, inl, inr, Option, Some, None, IfSome, IfNone, refl, sym, ap, subst, arith}
use Rattle.std.specs.List.{slice_get}
use Rattle.std.specs.Map.{lookup}
use Rattle.std.specs.Str.{bytes_eq}
use Rattle.std.specs.BTreeMap.{insert_entry}
use Rattle.std.specs.Cmp.Lexicographic.{slice_cmp}
use Rattle.std.proofs.Common.{Ordering, Less, Equal, Greater}
use Rattle.std.specs.Ordering.{is_eq, nat_cmp, match_ordering}
use Rattle.std.proofs.lemmas.List.{get_or_append_left, get_or_push, length_push}
use Rattle.std.proofs.lemmas.List.Elements.{All-push}
use Rattle.std.proofs.lemmas.Map.Text.{is_eq-slice_cmp}
use Rattle.std.proofs.lemmas.Option.{slice_get_within, get_or_from_slice_get}
use Rattle.std.proofs.lemmas.Bool.{cases_lt, cases_Bool, false≢true}
use Rattle.std.proofs.lemmas.Slice.Eq.{bytes_eq-Decides}
use Rattle.lts_base.specs.Alphabet.{IsLabel}
use Rattle.aut_text.specs.Parts.{IsAt, Lacks, AreTexts, ArePlaces, texts_of}

-- a text that is had at a place stands there
pub at_place : (labels : List (List ℕ)) (text : List ℕ) (n : ℕ) (label : List ℕ) → slice_get labels n ≡ Some label → label ≡ text → IsAt labels text n
at_place labels text n label found same = (slice_get_within labels n label found, get_or_from_slice_get labels n label [] found ∙ same)

-- distinct labels with a new one at their end
pub AreTexts-push : (labels : List (List ℕ)) (text : List ℕ) → AreTexts labels → IsLabel text → Lacks labels text → AreTexts (labels ++ text ∷ [])
AreTexts-push labels text are label lacks = record {
  texts = All-push IsLabel labels text are.texts label;
  distinct = λ j k below inside at. elim (cases_lt k (length labels)) [
    | inl old ↦ are.distinct j k below old (sym (get_or_append_left labels (text ∷ []) [] j (omega (arith, below, old))) ∙ at ∙ get_or_append_left labels (text ∷ []) [] k old)
    | inr past ↦
        let count : length (labels ++ text ∷ []) ≡ length labels + 1 = length_push labels text in
        let last : length labels ≡ k = omega (arith, past, inside, count) in
        let low : j < length labels = omega (arith, below, last) in
        lacks j low (sym (get_or_append_left labels (text ∷ []) [] j low) ∙ at ∙ get_or_push labels text [] k last)
  ];
}

-- the order of keys by their texts
abbrev pub by_text : {K : Type 0} → (K → List ℕ) → K → K → Ordering
by_text text_in x y = slice_cmp nat_cmp (text_in x) (text_in y)

-- a look-up by the order of texts is one by their bytes
pub look_up_same : {K : Type 0} (text_in : K → List ℕ) (text : List ℕ) (es : List (K × ℕ)) → lookup (λ k. is_eq (slice_cmp nat_cmp text (text_in k))) es ≡ lookup (bytes_eq text) (texts_of text_in es)
look_up_same text_in text [] = refl
look_up_same text_in text (e ∷ es) = rw (is_eq-slice_cmp text (text_in e.0), look_up_same text_in text es) refl

-- a new key is found by its text
pub look_up_new : {K : Type 0} (text_in : K → List ℕ) (k : K) (n : ℕ) (es : List (K × ℕ)) → lookup (bytes_eq (text_in k)) (texts_of text_in (insert_entry (by_text text_in) es k n)) ≡ Some n
look_up_new text_in k n [] = rw ((bytes_eq-Decides (text_in k) (text_in k)).1 refl) refl
look_up_new text_in k n (e ∷ es) = step (slice_cmp nat_cmp (text_in k) (text_in e.0)) refl (look_up_new text_in k n es)
  where
    step : (r : Ordering) → slice_cmp nat_cmp (text_in k) (text_in e.0) ≡ r → lookup (bytes_eq (text_in k)) (texts_of text_in (insert_entry (by_text text_in) es k n)) ≡ Some n
        → lookup (bytes_eq (text_in k)) (texts_of text_in (match_ordering r ((k, n) ∷ e ∷ es) ((e.0, n) ∷ es) (e ∷ insert_entry (by_text text_in) es k n))) ≡ Some n
    step Less is rest = rw ((bytes_eq-Decides (text_in k) (text_in k)).1 refl) refl
    step Equal is rest = rw (sym (is_eq-slice_cmp (text_in k) (text_in e.0)) ∙ ap is_eq is) refl
    step Greater is rest = rw (sym (is_eq-slice_cmp (text_in k) (text_in e.0)) ∙ ap is_eq is) rest

-- another text finds what it found before
pub look_up_other : {K : Type 0} (text_in : K → List ℕ) (text : List ℕ) (k : K) (n : ℕ) (es : List (K × ℕ)) → bytes_eq text (text_in k) ≡ false
    → lookup (bytes_eq text) (texts_of text_in (insert_entry (by_text text_in) es k n)) ≡ lookup (bytes_eq text) (texts_of text_in es)
look_up_other text_in text k n [] not = rw not refl
look_up_other text_in text k n (e ∷ es) not = step (slice_cmp nat_cmp (text_in k) (text_in e.0)) refl (look_up_other text_in text k n es not)
  where
    step : (r : Ordering) → slice_cmp nat_cmp (text_in k) (text_in e.0) ≡ r → lookup (bytes_eq text) (texts_of text_in (insert_entry (by_text text_in) es k n)) ≡ lookup (bytes_eq text) (texts_of text_in es)
        → lookup (bytes_eq text) (texts_of text_in (match_ordering r ((k, n) ∷ e ∷ es) ((e.0, n) ∷ es) (e ∷ insert_entry (by_text text_in) es k n))) ≡ lookup (bytes_eq text) (texts_of text_in (e ∷ es))
    step Less is rest = rw not refl
    step Equal is rest =
        let same : text_in k ≡ text_in e.0 = (bytes_eq-Decides (text_in k) (text_in e.0)).0 (sym (is_eq-slice_cmp (text_in k) (text_in e.0)) ∙ ap is_eq is) in
        rw (ap (bytes_eq text) (sym same) ∙ not) refl
    step Greater is rest = rw rest refl

-- what stands in a list stands in a longer one
pub IsAt-push : (labels : List (List ℕ)) (last text : List ℕ) (n : ℕ) → IsAt labels text n → IsAt (labels ++ last ∷ []) text n
IsAt-push labels last text n (below, at) =
    let count : length (labels ++ last ∷ []) ≡ length labels + 1 = length_push labels last in
    (omega (arith, below, count), get_or_append_left labels (last ∷ []) [] n below ∙ at)

-- the last text stands at the end
pub IsAt-last : (labels : List (List ℕ)) (last : List ℕ) → IsAt (labels ++ last ∷ []) last (length labels)
IsAt-last labels last =
    let count : length (labels ++ last ∷ []) ≡ length labels + 1 = length_push labels last in
    (omega (arith, count), get_or_push labels last [] (length labels) refl)

-- a list with another text at its end lacks what it lacked
pub Lacks-push : (labels : List (List ℕ)) (last text : List ℕ) → Lacks labels text → bytes_eq text last ≡ false → Lacks (labels ++ last ∷ []) text
Lacks-push labels last text lacks not k below at = elim (cases_lt k (length labels)) [
  | inl old ↦ lacks k old (sym (get_or_append_left labels (last ∷ []) [] k old) ∙ at)
  | inr past ↦
      let count : length (labels ++ last ∷ []) ≡ length labels + 1 = length_push labels last in
      let end : length labels ≡ k = omega (arith, past, below, count) in
      let same : text ≡ last = sym at ∙ get_or_push labels last [] k end in
      false≢true (sym not ∙ (bytes_eq-Decides text last).1 same)
]

-- the places after a new key is put in with the place at the end
pub ArePlaces-push : {K : Type 0} (text_in : K → List ℕ) (es new : List (K × ℕ)) (k : K) (labels : List (List ℕ)) → new ≡ insert_entry (by_text text_in) es k (length labels)
    → ArePlaces (texts_of text_in es) labels → ArePlaces (texts_of text_in new) (labels ++ text_in k ∷ [])
ArePlaces-push text_in es new k labels is are = rw is (record {
  found = λ text n at. elim (cases_Bool (bytes_eq text (text_in k))) [
    | inl same ↦ new_found text n ((bytes_eq-Decides text (text_in k)).0 same) at
    | inr not ↦ IsAt-push labels (text_in k) text n (are.found text n (sym (look_up_other text_in text k (length labels) es not) ∙ at))
  ];
  lacks = λ text none. elim (cases_Bool (bytes_eq text (text_in k))) [
    | inl same ↦ absurd (new_lacks text ((bytes_eq-Decides text (text_in k)).0 same) none)
    | inr not ↦ Lacks-push labels (text_in k) text (are.lacks text (sym (look_up_other text_in text k (length labels) es not) ∙ none)) not
  ];
})
  where
    after : List (List ℕ × ℕ)
    after = texts_of text_in (insert_entry (by_text text_in) es k (length labels))

    some_same : (m n : ℕ) → Some m ≡ Some n → m ≡ n
    some_same m n e = cc

    differ : (n : ℕ) → Some n ≡ None → ⊥
    differ n e = cc

    new_found : (text : List ℕ) (n : ℕ) → text ≡ text_in k → lookup (bytes_eq text) after ≡ Some n → IsAt (labels ++ text_in k ∷ []) text n
    new_found text n same at =
        let had : lookup (bytes_eq (text_in k)) after ≡ Some n = subst (λ t. lookup (bytes_eq t) after ≡ Some n) same at in
        let last : length labels ≡ n = some_same (length labels) n (sym (look_up_new text_in k (length labels) es) ∙ had) in
        subst (λ m. IsAt (labels ++ text_in k ∷ []) text m) last (subst (λ t. IsAt (labels ++ text_in k ∷ []) t (length labels)) (sym same) (IsAt-last labels (text_in k)))

    new_lacks : (text : List ℕ) → text ≡ text_in k → lookup (bytes_eq text) after ≡ None → ⊥
    new_lacks text same none =
        let had : lookup (bytes_eq (text_in k)) after ≡ None = subst (λ t. lookup (bytes_eq t) after ≡ None) same none in
        differ (length labels) (sym (look_up_new text_in k (length labels) es) ∙ had)

-- the same of a list that is told by its text
pub ArePlaces-after : {K : Type 0} (text_in : K → List ℕ) (es new : List (K × ℕ)) (k : K) (n : ℕ) (labels longer : List (List ℕ)) (text : List ℕ) → new ≡ insert_entry (by_text text_in) es k n
    → n ≡ length labels → text_in k ≡ text → longer ≡ labels ++ text ∷ [] → ArePlaces (texts_of text_in es) labels → ArePlaces (texts_of text_in new) longer
ArePlaces-after text_in es new k n labels longer text is count same last are =
    rw (last, ← same) (ArePlaces-push text_in es new k labels (subst (λ m. new ≡ insert_entry (by_text text_in) es k m) count is) are)

-- what is found by a text is its place, and where nothing is found the text isn't there
pub place_if_some : (entries : List (List ℕ × ℕ)) (labels : List (List ℕ)) (text : List ℕ) (found : Option ℕ) → ArePlaces entries labels → lookup (bytes_eq text) entries ≡ found → IfSome found (IsAt labels text)
place_if_some entries labels text None are is = tt
place_if_some entries labels text (Some n) are is = are.found text n is

pub lacks_if_none : (entries : List (List ℕ × ℕ)) (labels : List (List ℕ)) (text : List ℕ) (found : Option ℕ) → ArePlaces entries labels → lookup (bytes_eq text) entries ≡ found → IfNone found (Lacks labels text)
lacks_if_none entries labels text None are is = are.lacks text is
lacks_if_none entries labels text (Some n) are is = tt
