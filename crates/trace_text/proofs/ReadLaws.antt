-- How far a trace has been read.
use Rattle.std.proofs.Common.{◌≡◌, ◌∙◌, ℕ, ◌+◌, ◌≤◌, List, [], ◌∷◌, ◌++◌, length, map, filter, All, inl, inr, refl, sym, subst, ap, arith}
use Rattle.std.specs.List.{AllZip}
use Rattle.std.proofs.lemmas.List.{append-nil, append_assoc, map-append, length_push, length-append}
use Rattle.std.proofs.lemmas.List.Elements.{filter-append, All-push, All-nil}
use Rattle.lts_base.specs.declared.item.Item.{Item}
use Rattle.lts_base.specs.Alphabet.{Alphabet}
use Rattle.text_scan.specs.Lines.{lines_of, without_cr}
use Rattle.text_scan.specs.Listing.{has_bytes, texts_of}
use Rattle.text_scan.proofs.LineLaws.{few_lines}
use Rattle.trace_text.specs.Items.{IsItem, IsNamed}
use Rattle.trace_text.specs.Traces.{IsTrace, RefusesTrace}
use Rattle.trace_text.specs.Reading.{AddsItem, IsNoName}

-- the trace is that of the content's lines before the rest, of which there are so many
pub record IsRead (a : Alphabet) (content rest : List ℕ) (σ : List Item) (number : ℕ) : Type 0 where
  pub before : List (List ℕ)
  pub lines : lines_of content ≡ before ++ lines_of rest
  pub named : AllZip (IsNamed a) (texts_of before) σ
  pub items : All (IsItem a) σ
  pub count : number ≡ length before
  pub few : length σ ≤ number

pub IsRead-none : (a : Alphabet) (content : List ℕ) → IsRead a content content [] 0
IsRead-none a content = record { before = []; lines = refl; named = tt; items = All-nil (IsItem a); count = refl; few = omega arith }

-- one more pair of two lists that go together
zip_push : {A B : Type 0} (R : A → B → Type 0) (xs : List A) (ys : List B) (x : A) (y : B) → AllZip R xs ys → R x y → AllZip R (xs ++ x ∷ []) (ys ++ y ∷ [])
zip_push R [] [] x y zip r = (r, tt)
zip_push R [] (b ∷ ys) x y zip r = absurd zip
zip_push R (a ∷ xs) [] x y zip r = absurd zip
zip_push R (a ∷ xs) (b ∷ ys) x y zip r = (zip.0, zip_push R xs ys x y zip.1 r)

-- the texts of lines with one more line
texts_push : (lines : List (List ℕ)) (line : List ℕ) → texts_of (lines ++ line ∷ []) ≡ texts_of lines ++ filter has_bytes (without_cr line ∷ [])
texts_push lines line = ap (filter has_bytes) (map-append without_cr lines (line ∷ [])) ∙ filter-append has_bytes (map without_cr lines) (without_cr line ∷ [])

-- one line more adds its item, unless it is empty
pub IsRead-step : (a : Alphabet) (content rest line after : List ℕ) (σ new : List Item) (number : ℕ) → IsRead a content rest σ number → lines_of rest ≡ line ∷ lines_of after →
    AddsItem a σ (without_cr line) new → IsRead a content after new (number + 1)
IsRead-step a content rest line after σ new number read split adds = record {
  before = read.before ++ line ∷ [];
  lines = read.lines ∙ rw split (sym (append_assoc read.before (line ∷ []) (lines_of after)));
  named = subst (λ (ts : List (List ℕ)). AllZip (IsNamed a) ts new) (sym (texts_push read.before line)) (named (without_cr line) adds);
  items = items adds;
  count = rw (length_push read.before line) (ap {A = ℕ} {B = ℕ} (λ n. n + 1) read.count);
  few = few adds;
}
  where
    named : (text : List ℕ) → AddsItem a σ text new → AllZip (IsNamed a) (texts_of read.before ++ filter has_bytes (text ∷ [])) new
    named [] (inl (none, same)) = rw (same, append-nil (texts_of read.before)) read.named
    named [] (inr (x, some, is, longer)) = cc
    named (b ∷ text) (inl (none, same)) = cc
    named (b ∷ text) (inr (x, some, is, longer)) = rw longer (zip_push (IsNamed a) (texts_of read.before) σ (b ∷ text) x read.named is)

    items : AddsItem a σ (without_cr line) new → All (IsItem a) new
    items (inl (none, same)) = rw same read.items
    items (inr (x, some, is, longer)) = rw longer (All-push (IsItem a) σ x read.items is.0)

    few : AddsItem a σ (without_cr line) new → length new ≤ number + 1
    few (inl (none, same)) = rw same omega (arith, read.few)
    few (inr (x, some, is, longer)) = rw (longer, length_push σ x) omega (arith, read.few)

-- a further line counts
pub IsRead-room : (a : Alphabet) (content rest line after : List ℕ) (σ : List Item) (number : ℕ) → IsRead a content rest σ number → lines_of rest ≡ line ∷ lines_of after → number + 1 ≤ length (lines_of content)
IsRead-room a content rest line after σ number read split =
    let count : length (lines_of content) ≡ length read.before + length (line ∷ lines_of after) = ap length (rw split at read.lines) ∙ length-append read.before (line ∷ lines_of after) in
    omega (arith, count, read.count)

-- where nothing is left the trace is that of the content
pub IsRead-all : (a : Alphabet) (content rest : List ℕ) (σ : List Item) (number : ℕ) → IsRead a content rest σ number → rest ≡ [] → IsTrace a content σ
IsRead-all a content rest σ number read none =
    let lines : lines_of content ≡ read.before = read.lines ∙ rw none (append-nil read.before) in
    subst (λ (ls : List (List ℕ)). AllZip (IsNamed a) (texts_of ls) σ) (sym lines) read.named

-- a trace isn't longer than its content
pub IsRead-short : (a : Alphabet) (content rest : List ℕ) (σ : List Item) (number : ℕ) → IsRead a content rest σ number → length σ ≤ length content
IsRead-short a content rest σ number read =
    let count : length (lines_of content) ≡ length read.before + length (lines_of rest) = ap length read.lines ∙ length-append read.before (lines_of rest) in
    omega (arith, count, read.count, read.few, few_lines content)

-- the first line that names no item
pub IsRead-fault : (a : Alphabet) (content rest line after : List ℕ) (σ : List Item) (number : ℕ) → IsRead a content rest σ number → lines_of rest ≡ line ∷ lines_of after →
    IsNoName a (without_cr line) → RefusesTrace a content (number + 1)
IsRead-fault a content rest line after σ number read split unnamed = record {
  before = read.before;
  line = line;
  others = lines_of after;
  lines = read.lines ∙ ap {A = List (List ℕ)} {B = List (List ℕ)} (λ t. read.before ++ t) split;
  named = (σ, read.named);
  some = unnamed.0;
  unnamed = unnamed.1;
  number = ap {A = ℕ} {B = ℕ} (λ n. n + 1) read.count;
}
