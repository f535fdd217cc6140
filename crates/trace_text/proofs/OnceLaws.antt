-- A content is one trace over an alphabet, or it has one first line at fault.
use Rattle.std.proofs.Common.{false, ◌≡◌, ◌∙◌, ℕ, ◌<◌, ◌≤◌, true, List, [], ◌∷◌, ◌++◌, length, map, filter, codes, Result, Ok, Err, MatchResult, refl, sym, ap, subst, arith}
use Rattle.std.specs.List.{AllZip}
use Rattle.std.proofs.lemmas.Bool.{false≢true}
use Rattle.lts_base.specs.declared.item.Item.{Item}
use Rattle.lts_base.specs.declared.item.Item.TheVariants.{Input, Output, Delta}
use Rattle.lts_base.specs.Alphabet.{Alphabet, IsAlphabet, text_at, is_reserved}
use Rattle.lts_base.proofs.UniqueLaws.{number_unique}
use Rattle.text_scan.specs.Lines.{lines_of, without_cr}
use Rattle.text_scan.specs.Listing.{has_bytes, texts_of}
use Rattle.trace_text.specs.declared.error.TraceError.{TraceError}
use Rattle.trace_text.specs.declared.error.TraceError.TheVariants.{UnknownLabel, Memory}
use Rattle.trace_text.specs.Items.{IsNamed}
use Rattle.trace_text.specs.Traces.{IsTrace, RefusesTrace, IsFaultBy}
use Rattle.trace_text.specs.Reading.{IsNoName}

-- no label is `delta`
pub no_delta : (a : Alphabet) (k : ℕ) → IsAlphabet a → k < length a.texts → text_at a.texts k ≡ codes "delta" → ⊥
no_delta a k alphabet below same =
    let free : is_reserved (text_at a.texts k) ≡ false = alphabet.free k [] below in
    let reserved : is_reserved (codes "delta") ≡ true = refl in
    false≢true (sym free ∙ ap is_reserved same ∙ reserved)

-- no text names both an input and an output
in_or_out : (a : Alphabet) (j k : ℕ) → IsAlphabet a → j < a.inputs → a.inputs ≤ k → k < length a.texts → text_at a.texts j ≡ text_at a.texts k → ⊥
in_or_out a j k is low high below same =
    let inputs = is.inputs in
    let meets : j ≡ k = number_unique a is j k (omega (arith, low, inputs)) below same in
    omega (arith, low, high, meets)

-- a text names one item
pub item_once : (a : Alphabet) (text : List ℕ) (x y : Item) → IsAlphabet a → IsNamed a text x → IsNamed a text y → x ≡ y
item_once a text (Input j) (Input k) alphabet (low, is) (below, other) =
    let inputs = alphabet.inputs in
    ap Input (number_unique a alphabet j k (omega (arith, low, inputs)) (omega (arith, below, inputs)) (sym is ∙ other))
item_once a text (Input j) (Output k) alphabet (low, is) ((high, below), other) = absurd (in_or_out a j k alphabet low high below (sym is ∙ other))
item_once a text (Input j) Delta alphabet (low, is) (none, other) = let inputs = alphabet.inputs in absurd (no_delta a j alphabet (omega (arith, low, inputs)) (sym is ∙ other))
item_once a text (Output j) (Input k) alphabet ((high, below), is) (low, other) = absurd (in_or_out a k j alphabet low high below (sym other ∙ is))
item_once a text (Output j) (Output k) alphabet ((high, low), is) ((most, below), other) = ap Output (number_unique a alphabet j k low below (sym is ∙ other))
item_once a text (Output j) Delta alphabet ((high, below), is) (none, other) = absurd (no_delta a j alphabet below (sym is ∙ other))
item_once a text Delta (Input k) alphabet (none, is) (low, other) = let inputs = alphabet.inputs in absurd (no_delta a k alphabet (omega (arith, low, inputs)) (sym other ∙ is))
item_once a text Delta (Output k) alphabet (none, is) ((high, below), other) = absurd (no_delta a k alphabet below (sym other ∙ is))
item_once a text Delta Delta alphabet one other = refl

-- texts name one trace
pub items_once : (a : Alphabet) (texts : List (List ℕ)) (σ τ : List Item) → IsAlphabet a → AllZip (IsNamed a) texts σ → AllZip (IsNamed a) texts τ → σ ≡ τ
items_once a [] [] [] alphabet one other = refl
items_once a [] [] (y ∷ τ) alphabet one other = absurd other
items_once a [] (x ∷ σ) τ alphabet one other = absurd one
items_once a (text ∷ texts) [] τ alphabet one other = absurd one
items_once a (text ∷ texts) (x ∷ σ) [] alphabet one other = absurd other
items_once a (text ∷ texts) (x ∷ σ) (y ∷ τ) alphabet one other =
    let first : x ≡ y = item_once a text x y alphabet one.0 other.0 in
    let rest : σ ≡ τ = items_once a texts σ τ alphabet one.1 other.1 in
    cc

-- a text that isn't empty is named where it comes first
head_named : (a : Alphabet) (text : List ℕ) (rest : List (List ℕ)) (σ : List Item) → has_bytes text ≡ true → AllZip (IsNamed a) (filter has_bytes (text ∷ rest)) σ → (x : Item) × IsNamed a text x
head_named a [] rest σ some zip = absurd (false≢true some)
head_named a (b ∷ text) rest [] some zip = absurd zip
head_named a (b ∷ text) rest (x ∷ σ) some zip = (x, zip.0)

-- and the others name a trace
tail_named : (a : Alphabet) (text : List ℕ) (rest : List (List ℕ)) (σ : List Item) → AllZip (IsNamed a) (filter has_bytes (text ∷ rest)) σ → (τ : List Item) × AllZip (IsNamed a) (filter has_bytes rest) τ
tail_named a [] rest σ zip = (σ, zip)
tail_named a (b ∷ text) rest [] zip = absurd zip
tail_named a (b ∷ text) rest (x ∷ σ) zip = (σ, zip.1)

-- the lines that aren't empty name a trace
abbrev AreNamed : Alphabet → List (List ℕ) → Type 0
AreNamed a lines = (σ : List Item) × AllZip (IsNamed a) (texts_of lines) σ

-- the first of lines that name a trace isn't unnamed
first_named : (a : Alphabet) (line : List ℕ) (lines : List (List ℕ)) → IsNoName a (without_cr line) → AreNamed a (line ∷ lines) → ⊥
first_named a line lines unnamed (σ, zip) =
    let (x, is) = head_named a (without_cr line) (map without_cr lines) σ unnamed.0 zip in
    unnamed.1 x is

-- the lines after the first one name a trace too
later_named : (a : Alphabet) (line : List ℕ) (lines : List (List ℕ)) → AreNamed a (line ∷ lines) → AreNamed a lines
later_named a line lines (σ, zip) = tail_named a (without_cr line) (map without_cr lines) σ zip

-- no line among lines that name a trace is unnamed
each_named : (a : Alphabet) (before : List (List ℕ)) (line : List ℕ) (others : List (List ℕ)) → IsNoName a (without_cr line) → AreNamed a (before ++ line ∷ others) → ⊥
each_named a [] line others unnamed named = first_named a line others unnamed named
each_named a (x ∷ before) line others unnamed named = each_named a before line others unnamed (later_named a x (before ++ line ∷ others) named)

-- a content that is a trace has no fault
pub trace_fine : (a : Alphabet) (c : List ℕ) (σ : List Item) (n : ℕ) → IsTrace a c σ → RefusesTrace a c n → ⊥
trace_fine a c σ n is h = each_named a h.before h.line h.others (h.some, h.unnamed) (σ, subst (λ (ls : List (List ℕ)). AllZip (IsNamed a) (texts_of ls) σ) h.lines is)

-- lines have one first line that is unnamed
first_once : (a : Alphabet) (before front : List (List ℕ)) (line text : List ℕ) (others more : List (List ℕ)) → before ++ line ∷ others ≡ front ++ text ∷ more → AreNamed a before → AreNamed a front → IsNoName a (without_cr line) → IsNoName a (without_cr text) →
    length before ≡ length front
first_once a [] [] line text others more same one other un none = refl
first_once a [] (y ∷ front) line text others more same one other un none =
    let here : line ≡ y = cc in
    absurd (first_named a y front (subst (λ (l : List ℕ). IsNoName a (without_cr l)) here un) other)
first_once a (x ∷ before) [] line text others more same one other un none =
    let here : text ≡ x = cc in
    absurd (first_named a x before (subst (λ (l : List ℕ). IsNoName a (without_cr l)) here none) one)
first_once a (x ∷ before) (y ∷ front) line text others more same one other un none =
    let rest : before ++ line ∷ others ≡ front ++ text ∷ more = cc in
    let long = first_once a before front line text others more rest (later_named a x before one) (later_named a y front other) un none in
    omega (arith, long)

-- a content has one first line at fault
pub fault_once : (a : Alphabet) (c : List ℕ) (n m : ℕ) → RefusesTrace a c n → RefusesTrace a c m → n ≡ m
fault_once a c n m one other =
    let long = first_once a one.before other.before one.line other.line one.others other.others (sym one.lines ∙ other.lines) one.named other.named (one.some, one.unnamed) (other.some, other.unnamed) in
    omega (arith, one.number, other.number, long)

-- a content is one trace
pub trace_once : (a : Alphabet) (c : List ℕ) (σ τ : List Item) → IsAlphabet a → IsTrace a c σ → IsTrace a c τ → σ ≡ τ
trace_once a c σ τ alphabet one other = items_once a (texts_of (lines_of c)) σ τ alphabet one other

-- what is read of a content is the trace that it is
pub trace_only : (a : Alphabet) (c : List ℕ) (σ : List Item) (result : Result (List Item) TraceError) → IsAlphabet a → MatchResult result (IsTrace a c) (IsFaultBy (RefusesTrace a c)) → IsTrace a c σ →
    MatchResult result (λ τ. τ ≡ σ) (λ e. e ≡ Memory)
trace_only a c σ (Ok τ) alphabet is one = trace_once a c τ σ alphabet is one
trace_only a c σ (Err (UnknownLabel n)) alphabet why one = absurd (trace_fine a c σ n one why)
trace_only a c σ (Err Memory) alphabet why one = refl

-- what is answered where a line is at fault
pub refuses_only : (a : Alphabet) (c : List ℕ) (n : ℕ) (result : Result (List Item) TraceError) → MatchResult result (IsTrace a c) (IsFaultBy (RefusesTrace a c)) → RefusesTrace a c n →
    MatchResult result (λ _. ⊥) (IsFaultBy (λ k. k ≡ n))
refuses_only a c n (Ok τ) is fault = trace_fine a c τ n is fault
refuses_only a c n (Err (UnknownLabel m)) why fault = fault_once a c m n why fault
refuses_only a c n (Err Memory) why fault = tt
