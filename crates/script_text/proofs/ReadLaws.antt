-- How far a script has been read.
use Rattle.std.proofs.Common.{◌≡◌, ◌∙◌, true, ℕ, ◌+◌, ◌≤◌, List, [], ◌∷◌, ◌++◌, length, map, filter, inl, inr, refl, sym, subst, ap, arith}
use Rattle.std.specs.List.{AllZip}
use Rattle.std.proofs.lemmas.List.{append-nil, append_assoc, map-append, length_push, length-append}
use Rattle.std.proofs.lemmas.List.Elements.{filter-append}
use Rattle.lts_base.specs.Alphabet.{Alphabet}
use Rattle.text_scan.specs.Lines.{lines_of, without_cr}
use Rattle.text_scan.specs.Listing.{has_bytes, texts_of}
use Rattle.walk_core.specs.declared.choice.Choice.{Choice}
use Rattle.script_text.specs.declared.error.ScriptError.{ScriptError}
use Rattle.script_text.specs.declared.error.ScriptError.TheVariants.{Line, UnknownLabel, Memory}
use Rattle.script_text.specs.Script.{IsChoice, IsNoChoice, IsScript, HasFault, RefusesScript}
use Rattle.script_text.specs.Reading.{AddsChoice, IsFaultOf}

-- the script is that of the content's lines before the rest, of which there are so many
pub record IsRead (a : Alphabet) (content rest : List ℕ) (script : List Choice) (number : ℕ) : Type 0 where
  pub before : List (List ℕ)
  pub lines : lines_of content ≡ before ++ lines_of rest
  pub asked : AllZip (IsChoice a) (texts_of before) script
  pub count : number ≡ length before

pub IsRead-none : (a : Alphabet) (content : List ℕ) → IsRead a content content [] 0
IsRead-none a content = record { before = []; lines = refl; asked = tt; count = refl }

-- one more pair of two lists that go together
zip_push : {A B : Type 0} (R : A → B → Type 0) (xs : List A) (ys : List B) (x : A) (y : B) → AllZip R xs ys → R x y → AllZip R (xs ++ x ∷ []) (ys ++ y ∷ [])
zip_push R [] [] x y zip r = (r, tt)
zip_push R [] (b ∷ ys) x y zip r = absurd zip
zip_push R (a ∷ xs) [] x y zip r = absurd zip
zip_push R (a ∷ xs) (b ∷ ys) x y zip r = (zip.0, zip_push R xs ys x y zip.1 r)

-- the texts of lines with one more line
texts_push : (lines : List (List ℕ)) (line : List ℕ) → texts_of (lines ++ line ∷ []) ≡ texts_of lines ++ filter has_bytes (without_cr line ∷ [])
texts_push lines line = ap (filter has_bytes) (map-append without_cr lines (line ∷ [])) ∙ filter-append has_bytes (map without_cr lines) (without_cr line ∷ [])

-- one line more adds its choice, unless it is empty
pub IsRead-step : (a : Alphabet) (content rest line after : List ℕ) (script new : List Choice) (number : ℕ) → IsRead a content rest script number → lines_of rest ≡ line ∷ lines_of after →
    AddsChoice a script (without_cr line) new → IsRead a content after new (number + 1)
IsRead-step a content rest line after script new number read split adds = record {
  before = read.before ++ line ∷ [];
  lines = read.lines ∙ rw split (sym (append_assoc read.before (line ∷ []) (lines_of after)));
  asked = subst (λ (ts : List (List ℕ)). AllZip (IsChoice a) ts new) (sym (texts_push read.before line)) (asked (without_cr line) adds);
  count = rw (length_push read.before line) (ap {A = ℕ} {B = ℕ} (λ n. n + 1) read.count);
}
  where
    asked : (text : List ℕ) → AddsChoice a script text new → AllZip (IsChoice a) (texts_of read.before ++ filter has_bytes (text ∷ [])) new
    asked [] (inl (none, same)) = rw (same, append-nil (texts_of read.before)) read.asked
    asked [] (inr (x, some, is, longer)) = cc
    asked (b ∷ text) (inl (none, same)) = cc
    asked (b ∷ text) (inr (x, some, is, longer)) = rw longer (zip_push (IsChoice a) (texts_of read.before) script (b ∷ text) x read.asked is)

-- a further line counts
pub IsRead-room : (a : Alphabet) (content rest line after : List ℕ) (script : List Choice) (number : ℕ) → IsRead a content rest script number → lines_of rest ≡ line ∷ lines_of after → number + 1 ≤ length (lines_of content)
IsRead-room a content rest line after script number read split =
    let count : length (lines_of content) ≡ length read.before + length (line ∷ lines_of after) = ap length (rw split at read.lines) ∙ length-append read.before (line ∷ lines_of after) in
    omega (arith, count, read.count)

-- where nothing is left the script is that of the content
pub IsRead-all : (a : Alphabet) (content rest : List ℕ) (script : List Choice) (number : ℕ) → IsRead a content rest script number → rest ≡ [] → IsScript a content script
IsRead-all a content rest script number read none =
    let lines : lines_of content ≡ read.before = read.lines ∙ rw none (append-nil read.before) in
    subst (λ (ls : List (List ℕ)). AllZip (IsChoice a) (texts_of ls) script) (sym lines) read.asked

-- the first line that asks for no choice
fault_at : (a : Alphabet) (content rest line after : List ℕ) (script : List Choice) (number : ℕ) (error : ScriptError) → IsRead a content rest script number → lines_of rest ≡ line ∷ lines_of after →
    has_bytes (without_cr line) ≡ true → IsNoChoice a (without_cr line) (number + 1) error → HasFault a content error
fault_at a content rest line after script number error read split some fault = record {
  before = read.before;
  line = line;
  others = lines_of after;
  lines = read.lines ∙ ap {A = List (List ℕ)} {B = List (List ℕ)} (λ t. read.before ++ t) split;
  asked = (script, read.asked);
  some = some;
  fault = subst (λ (n : ℕ). IsNoChoice a (without_cr line) (n + 1) error) read.count fault;
}

pub IsRead-fault : (a : Alphabet) (content rest line after : List ℕ) (script : List Choice) (number : ℕ) (error : ScriptError) → IsRead a content rest script number → lines_of rest ≡ line ∷ lines_of after →
    IsFaultOf a (without_cr line) (number + 1) error → RefusesScript a content error
IsRead-fault a content rest line after script number Memory read split fault = tt
IsRead-fault a content rest line after script number (Line n) read split (inl none) = absurd (cc none)
IsRead-fault a content rest line after script number (Line n) read split (inr (some, fault)) = fault_at a content rest line after script number (Line n) read split some fault
IsRead-fault a content rest line after script number (UnknownLabel n) read split (inl none) = absurd (cc none)
IsRead-fault a content rest line after script number (UnknownLabel n) read split (inr (some, fault)) = fault_at a content rest line after script number (UnknownLabel n) read split some fault
