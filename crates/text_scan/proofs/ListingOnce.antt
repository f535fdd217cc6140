-- A list file lists one list of labels, or has one first fault.
use Rattle.std.proofs.Common.{◌≡◌, ◌∙◌, ℕ, zero, suc, ◌+◌, List, [], ◌∷◌, ◌++◌, length, map, filter, All, Result, Ok, Err, MatchResult, ◌⊎◌, inl, inr, refl, sym, ap, arith, subst}
use Rattle.std.proofs.lemmas.List.{map-append}
use Rattle.std.proofs.lemmas.List.Elements.{filter-append}
use Rattle.std.proofs.lemmas.Str.{IsUtf8-nil}
use Rattle.lts_base.specs.Alphabet.{IsLabel}
use Rattle.text_scan.specs.declared.error.LinesError.{LinesError}
use Rattle.text_scan.specs.declared.error.LinesError.TheVariants.{Line, LabelLong, NotUtf8, Memory}
use Rattle.text_scan.specs.Lines.{without_cr}
use Rattle.text_scan.proofs.LineLaws.{places}
use Rattle.text_scan.specs.Listing.{has_bytes, texts_of, IsListing, IsTextFault, IsFirstFault, RefusesListing}

-- two errors are the same, or memory ran out
abbrev pub AreSame : LinesError → LinesError → Type 0
AreSame e f = (e ≡ f) ⊎ ((e ≡ Memory) ⊎ (f ≡ Memory))

-- what is fine as a text: it is empty or a label
abbrev IsFine : List ℕ → Type 0
IsFine text = (text ≡ []) ⊎ IsLabel text

fine_excludes : (text : List ℕ) (k : ℕ) (e : LinesError) → IsFine text → IsTextFault text k e → e ≡ Memory
fine_excludes text k (NotUtf8 n) (inl none) (at, bad) = absurd (bad (rw none IsUtf8-nil))
fine_excludes text k (NotUtf8 n) (inr label) (at, bad) = absurd (bad label.utf8)
fine_excludes text k (Line n) (inl none) (at, utf8, bad) = absurd (bad (rw none (λ i d below. absurd (omega (arith, below)))))
fine_excludes text k (Line n) (inr label) (at, utf8, bad) = absurd (bad label.plain)
fine_excludes text k (LabelLong n) (inl none) (at, utf8, plain, long) = absurd (omega (arith, rw none at long))
fine_excludes text k (LabelLong n) (inr label) (at, utf8, plain, long) = absurd (omega (arith, label.short, long))
fine_excludes text k Memory fine fault = refl

-- among lines that list labels each text is fine
line_fine : (before : List (List ℕ)) (line : List ℕ) (after : List (List ℕ)) → All IsLabel (texts_of (before ++ line ∷ after)) → IsFine (without_cr line)
line_fine before line after all = go (without_cr line) refl
  where
    joined : texts_of (before ++ line ∷ after) ≡ texts_of before ++ filter has_bytes (without_cr line ∷ map without_cr after)
    joined = ap (filter has_bytes) (map-append without_cr before (line ∷ after)) ∙ filter-append has_bytes (map without_cr before) (without_cr line ∷ map without_cr after)

    member : (xs : List (List ℕ)) (x : List ℕ) (ys : List (List ℕ)) → All IsLabel (xs ++ x ∷ ys) → IsLabel x
    member [] x ys labels = labels zero [] (omega arith)
    member (z ∷ xs) x ys labels = member xs x ys (λ k d below. labels (suc k) d (omega (arith, below)))

    go : (text : List ℕ) → without_cr line ≡ text → IsFine text
    go [] is = inl refl
    go (b ∷ text) is = inr (member (texts_of before) (b ∷ text) (filter has_bytes (map without_cr after)) (subst (λ (t : List (List ℕ)). All IsLabel t) (joined ∙ ap {A = List ℕ} {B = List (List ℕ)} (λ t. texts_of before ++ filter has_bytes (t ∷ map without_cr after)) is) all))

text_fault_once : (text : List ℕ) (k : ℕ) (e f : LinesError) → IsTextFault text k e → IsTextFault text k f → AreSame e f
text_fault_once text k Memory f a b = inr (inl refl)
text_fault_once text k (NotUtf8 n) (NotUtf8 m) a b = inl (ap NotUtf8 (a.0 ∙ sym (b.0)))
text_fault_once text k (NotUtf8 n) (Line m) a b = absurd (a.1 b.1)
text_fault_once text k (NotUtf8 n) (LabelLong m) a b = absurd (a.1 b.1)
text_fault_once text k (NotUtf8 n) Memory a b = inr (inr refl)
text_fault_once text k (Line n) (NotUtf8 m) a b = absurd (b.1 a.1)
text_fault_once text k (Line n) (Line m) a b = inl (ap Line (a.0 ∙ sym (b.0)))
text_fault_once text k (Line n) (LabelLong m) a b = absurd (a.2 b.2)
text_fault_once text k (Line n) Memory a b = inr (inr refl)
text_fault_once text k (LabelLong n) (NotUtf8 m) a b = absurd (b.1 a.1)
text_fault_once text k (LabelLong n) (Line m) a b = absurd (b.2 a.2)
text_fault_once text k (LabelLong n) (LabelLong m) a b = inl (ap LabelLong (a.0 ∙ sym (b.0)))
text_fault_once text k (LabelLong n) Memory a b = inr (inr refl)

first_once : (content : List ℕ) (e f : LinesError) → IsFirstFault content e → IsFirstFault content f → AreSame e f
first_once content e f a b = elim (places a.before b.before a.line b.line a.after b.after (sym (a.lines) ∙ b.lines)) [
  | inl (before, line) ↦
      let fault : IsTextFault (without_cr b.line) (length b.before + 1) e =
      subst (λ (t : List (List ℕ)). IsTextFault (without_cr b.line) (length t + 1) e) before
      (subst (λ (t : List ℕ). IsTextFault (without_cr t) (length a.before + 1) e) line a.fault) in
      text_fault_once (without_cr b.line) (length b.before + 1) e f fault b.fault
  | inr (inl (t, longer)) ↦ inr (inl (fine_excludes (without_cr a.line) (length a.before + 1) e (line_fine a.before a.line t (subst (λ (u : List (List ℕ)). All IsLabel (texts_of u)) longer b.good)) a.fault))
  | inr (inr (t, longer)) ↦ inr (inr (fine_excludes (without_cr b.line) (length b.before + 1) f (line_fine b.before b.line t (subst (λ (u : List (List ℕ)). All IsLabel (texts_of u)) longer a.good)) b.fault))
]

first_fault : (content : List ℕ) (e : LinesError) → RefusesListing content e → (e ≡ Memory) ⊎ IsFirstFault content e
first_fault content (NotUtf8 n) fault = inr fault
first_fault content (Line n) fault = inr fault
first_fault content (LabelLong n) fault = inr fault
first_fault content Memory fault = inl refl

listing_excludes : (content : List ℕ) (labels : List (List ℕ)) (e : LinesError) → IsListing content labels → RefusesListing content e → e ≡ Memory
listing_excludes content labels e is why = elim (first_fault content e why) [
  | inl memory ↦ memory
  | inr a ↦ fine_excludes (without_cr a.line) (length a.before + 1) e (line_fine a.before a.line a.after (subst (λ (t : List (List ℕ)). All IsLabel (texts_of t)) (a.lines) (rw (is.texts) at (is.each)))) a.fault
]

-- what is read of a list is what it lists
pub listing_only : (content : List ℕ) (labels : List (List ℕ)) (result : Result (List (List ℕ)) LinesError) → MatchResult result (IsListing content) (RefusesListing content) → IsListing content labels → MatchResult result (λ texts. texts ≡ labels) (λ e. e ≡ Memory)
listing_only content labels (Ok texts) is listing = is.texts ∙ sym (listing.texts)
listing_only content labels (Err e) why listing = listing_excludes content labels e listing why

-- what is answered where a fault is met
pub refuses_only : (content : List ℕ) (e : LinesError) (result : Result (List (List ℕ)) LinesError) → MatchResult result (IsListing content) (RefusesListing content) → RefusesListing content e → (e ≡ Memory → ⊥) → MatchResult result (λ _. ⊥) (λ f. (f ≡ e) ⊎ (f ≡ Memory))
refuses_only content e (Ok texts) is fault other = other (listing_excludes content texts e is fault)
refuses_only content e (Err f) why fault other = elim (first_fault content e fault) [
  | inl memory ↦ absurd (other memory)
  | inr a ↦ elim (first_fault content f why) [
    | inl memory ↦ inr memory
    | inr b ↦ elim (first_once content f e b a) [
      | inl same ↦ inl same
      | inr (inl memory) ↦ inr memory
      | inr (inr memory) ↦ absurd (other memory)
    ]
  ]
]
