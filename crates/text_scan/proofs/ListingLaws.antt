-- How far a list of labels has been read.
use Rattle.std.proofs.Common.{◌≡◌, ◌∙◌, ℕ, ◌+◌, ◌≤◌, List, [], ◌∷◌, ◌++◌, length, map, filter, All, Result, Ok, Err, IsErrAnd, MatchResult, inl, inr, refl, sym, ap, arith}
use Rattle.std.proofs.lemmas.List.{append-nil, append_assoc, map-append, length_push, length-append}
use Rattle.std.proofs.lemmas.List.Elements.{filter-append, All-push, All-nil}
use Rattle.lts_base.specs.Alphabet.{IsLabel}
use Rattle.text_scan.specs.declared.error.LinesError.{LinesError}
use Rattle.text_scan.specs.declared.error.LinesError.TheVariants.{Line, LabelLong, NotUtf8, Memory}
use Rattle.text_scan.specs.Lines.{lines_of, without_cr}
use Rattle.text_scan.specs.Listing.{has_bytes, texts_of, IsListing, IsTextFault, AddsText, IsFirstFault, RefusesListing}

-- the texts are those of the content's lines before the rest, of which there are so many
pub record IsListed (content rest : List ℕ) (texts : List (List ℕ)) (number : ℕ) : Type 0 where
  pub before : List (List ℕ)
  pub lines : lines_of content ≡ before ++ lines_of rest
  pub texts_are : texts ≡ texts_of before
  pub each : All IsLabel texts
  pub count : number ≡ length before

pub IsListed-none : (content : List ℕ) → IsListed content content [] 0
IsListed-none content = record { before = []; lines = refl; texts_are = refl; each = All-nil IsLabel; count = refl }

-- one line more adds its text, unless it is empty
pub texts_of-push : (lines : List (List ℕ)) (line : List ℕ) (old new : List (List ℕ)) → old ≡ texts_of lines → AddsText old (without_cr line) new → new ≡ texts_of (lines ++ line ∷ [])
texts_of-push lines line old new is adds =
    let joined : texts_of (lines ++ line ∷ []) ≡ texts_of lines ++ filter has_bytes (without_cr line ∷ []) = ap (filter has_bytes) (map-append without_cr lines (line ∷ [])) ∙ filter-append has_bytes (map without_cr lines) (without_cr line ∷ []) in
    go (without_cr line) adds joined
  where
    go : (text : List ℕ) → AddsText old text new → texts_of (lines ++ line ∷ []) ≡ texts_of lines ++ filter has_bytes (text ∷ []) → new ≡ texts_of (lines ++ line ∷ [])
    go [] (inl (none, same)) joined = same ∙ is ∙ sym (joined ∙ append-nil (texts_of lines))
    go [] (inr (label, longer)) joined = absurd (omega (arith, label.some))
    go (b ∷ text) (inl (none, same)) joined = cc
    go (b ∷ text) (inr (label, longer)) joined = longer ∙ ap {A = List (List ℕ)} {B = List (List ℕ)} (λ t. t ++ (b ∷ text) ∷ []) is ∙ sym joined

pub IsListed-step : (content rest line after : List ℕ) (texts new : List (List ℕ)) (number : ℕ) → IsListed content rest texts number → lines_of rest ≡ line ∷ lines_of after → AddsText texts (without_cr line) new → IsListed content after new (number + 1)
IsListed-step content rest line after texts new number listed split adds = record {
  before = listed.before ++ line ∷ [];
  lines = listed.lines ∙ rw split (sym (append_assoc listed.before (line ∷ []) (lines_of after)));
  texts_are = texts_of-push listed.before line texts new listed.texts_are adds;
  each = go adds;
  count = rw (length_push listed.before line) (ap {A = ℕ} {B = ℕ} (λ n. n + 1) listed.count);
}
  where
    go : AddsText texts (without_cr line) new → All IsLabel new
    go (inl (none, same)) = rw same listed.each
    go (inr (label, longer)) = rw longer (All-push IsLabel texts (without_cr line) listed.each label)

-- a further line counts
pub IsListed-room : (content rest line after : List ℕ) (texts : List (List ℕ)) (number : ℕ) → IsListed content rest texts number → lines_of rest ≡ line ∷ lines_of after → number + 1 ≤ length (lines_of content)
IsListed-room content rest line after texts number listed split =
    let count : length (lines_of content) ≡ length listed.before + length (line ∷ lines_of after) = ap length (rw split at listed.lines) ∙ length-append listed.before (line ∷ lines_of after) in
    omega (arith, count, listed.count)

pub IsListed-all : (content rest : List ℕ) (texts : List (List ℕ)) (number : ℕ) → IsListed content rest texts number → rest ≡ [] → IsListing content texts
IsListed-all content rest texts number listed none =
    let lines : lines_of content ≡ listed.before = listed.lines ∙ rw none (append-nil listed.before) in
    record {
      texts = listed.texts_are ∙ ap texts_of (sym lines);
      each = listed.each;
    }

pub IsListed-fault : (content rest line after : List ℕ) (texts : List (List ℕ)) (number : ℕ) (e : LinesError) → IsListed content rest texts number → lines_of rest ≡ line ∷ lines_of after → IsTextFault (without_cr line) (number + 1) e → RefusesListing content e
IsListed-fault content rest line after texts number e listed split fault = go e fault
  where
    first : (e : LinesError) → IsTextFault (without_cr line) (number + 1) e → IsFirstFault content e
    first e bad = record {
      before = listed.before;
      line = line;
      after = lines_of after;
      lines = listed.lines ∙ ap {A = List (List ℕ)} {B = List (List ℕ)} (λ t. listed.before ++ t) split;
      good = rw (← listed.texts_are) listed.each;
      fault = rw (listed.count) at bad;
    }

    go : (e : LinesError) → IsTextFault (without_cr line) (number + 1) e → RefusesListing content e
    go (NotUtf8 n) bad = first (NotUtf8 n) bad
    go (Line n) bad = first (Line n) bad
    go (LabelLong n) bad = first (LabelLong n) bad
    go Memory bad = tt

-- an error that is passed on
pub refused : {A E : Type 0} (P : A → Type 0) (R : E → Type 0) (r : Result A E) (e : E) → IsErrAnd r (λ x. x ≡ e) → R e → MatchResult r P R
refused P R (Ok a) e is why = absurd is
refused P R (Err x) e is why = rw is why
