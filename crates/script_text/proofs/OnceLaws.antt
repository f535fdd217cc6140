-- A content is one script over an alphabet, or it has one first line at fault.
use Rattle.std.proofs.Common.{◌≡◌, ◌∙◌, false, true, ℕ, ◌+◌, ◌<◌, List, [], ◌∷◌, ◌++◌, length, get_or, map, filter, codes, Result, Ok, Err, MatchResult, refl, sym, ap, subst, arith}
use Rattle.std.specs.List.{AllZip}
use Rattle.std.proofs.lemmas.Bool.{false≢true}
use Rattle.lts_base.specs.Alphabet.{Alphabet, IsAlphabet, text_at}
use Rattle.lts_base.proofs.UniqueLaws.{number_unique}
use Rattle.text_scan.specs.Lines.{lines_of, without_cr}
use Rattle.text_scan.specs.Listing.{has_bytes, texts_of}
use Rattle.walk_core.specs.declared.choice.Choice.{Choice}
use Rattle.walk_core.specs.declared.choice.Choice.TheVariants.{Input, Observe}
use Rattle.script_text.specs.declared.error.ScriptError.{ScriptError}
use Rattle.script_text.specs.declared.error.ScriptError.TheVariants.{Line, UnknownLabel, Memory}
use Rattle.script_text.specs.Script.{IsChoice, IsNoInput, IsFormless, IsUnknown, IsNoChoice, IsScript, HasFault, RefusesScript}

-- after `send ` the text is what is left of the line
sent : (t u : List ℕ) → codes "send " ++ t ≡ codes "send " ++ u → t ≡ u
sent t u same = cc

-- a line that is `observe` sends nothing
observes : (t : List ℕ) → codes "observe" ≡ codes "send " ++ t → ⊥
observes t same =
    let first : 111 ≡ 115 = ap {A = List ℕ} {B = ℕ} (λ l. get_or l 0 0) same in
    omega (arith, first)

-- a line asks for one choice
pub choice_once : (a : Alphabet) (line : List ℕ) (c d : Choice) → IsAlphabet a → IsChoice a line c → IsChoice a line d → c ≡ d
choice_once a line (Input j) (Input k) alphabet (low, is) (below, also) =
    let inputs = alphabet.inputs in
    let same : text_at a.texts j ≡ text_at a.texts k = sent (text_at a.texts j) (text_at a.texts k) (sym is ∙ also) in
    ap Input (number_unique a alphabet j k (omega (arith, low, inputs)) (omega (arith, below, inputs)) same)
choice_once a line (Input j) Observe alphabet (low, is) also = absurd (observes (text_at a.texts j) (sym also ∙ is))
choice_once a line Observe (Input k) alphabet is (below, also) = absurd (observes (text_at a.texts k) (sym is ∙ also))
choice_once a line Observe Observe alphabet is also = refl

-- a line that asks for a choice is at no fault
choice_fine : (a : Alphabet) (line : List ℕ) (c : Choice) (n : ℕ) (error : ScriptError) → IsChoice a line c → IsNoChoice a line n error → ⊥
choice_fine a line (Input k) n (Line m) (low, is) (same, formless) = formless.sends (text_at a.texts k) is
choice_fine a line Observe n (Line m) is (same, formless) = formless.observes is
choice_fine a line (Input k) n (UnknownLabel m) (low, is) (same, unknown) = unknown.none k low (sent unknown.text (text_at a.texts k) (sym unknown.sends ∙ is))
choice_fine a line Observe n (UnknownLabel m) is (same, unknown) = observes unknown.text (sym is ∙ unknown.sends)
choice_fine a line c n Memory is fault = fault

-- texts ask for one script
choices_once : (a : Alphabet) (texts : List (List ℕ)) (s t : List Choice) → IsAlphabet a → AllZip (IsChoice a) texts s → AllZip (IsChoice a) texts t → s ≡ t
choices_once a [] [] [] alphabet one other = refl
choices_once a [] [] (y ∷ t) alphabet one other = absurd other
choices_once a [] (x ∷ s) t alphabet one other = absurd one
choices_once a (text ∷ texts) [] t alphabet one other = absurd one
choices_once a (text ∷ texts) (x ∷ s) [] alphabet one other = absurd other
choices_once a (text ∷ texts) (x ∷ s) (y ∷ t) alphabet one other =
    let first : x ≡ y = choice_once a text x y alphabet one.0 other.0 in
    let rest : s ≡ t = choices_once a texts s t alphabet one.1 other.1 in
    cc

-- a content is one script
pub script_once : (a : Alphabet) (c : List ℕ) (s t : List Choice) → IsAlphabet a → IsScript a c s → IsScript a c t → s ≡ t
script_once a c s t alphabet one other = choices_once a (texts_of (lines_of c)) s t alphabet one other

-- a text that isn't empty asks for a choice where it comes first
head_asked : (a : Alphabet) (text : List ℕ) (rest : List (List ℕ)) (s : List Choice) → has_bytes text ≡ true → AllZip (IsChoice a) (filter has_bytes (text ∷ rest)) s → (c : Choice) × IsChoice a text c
head_asked a [] rest s some zip = absurd (false≢true some)
head_asked a (b ∷ text) rest [] some zip = absurd zip
head_asked a (b ∷ text) rest (x ∷ s) some zip = (x, zip.0)

-- and the others ask for a script
tail_asked : (a : Alphabet) (text : List ℕ) (rest : List (List ℕ)) (s : List Choice) → AllZip (IsChoice a) (filter has_bytes (text ∷ rest)) s → (t : List Choice) × AllZip (IsChoice a) (filter has_bytes rest) t
tail_asked a [] rest s zip = (s, zip)
tail_asked a (b ∷ text) rest [] zip = absurd zip
tail_asked a (b ∷ text) rest (x ∷ s) zip = (s, zip.1)

-- the lines that aren't empty ask for a script
abbrev AreAsked : Alphabet → List (List ℕ) → Type 0
AreAsked a lines = (s : List Choice) × AllZip (IsChoice a) (texts_of lines) s

-- the line isn't empty, and asks for no choice
abbrev IsAtFault : Alphabet → List ℕ → Type 0
IsAtFault a line = (has_bytes (without_cr line) ≡ true) × (n : ℕ) × (error : ScriptError) × IsNoChoice a (without_cr line) n error

-- the first of lines that ask for a script isn't at fault
first_asked : (a : Alphabet) (line : List ℕ) (lines : List (List ℕ)) → IsAtFault a line → AreAsked a (line ∷ lines) → ⊥
first_asked a line lines (some, n, error, fault) (s, zip) =
    let (c, is) = head_asked a (without_cr line) (map without_cr lines) s some zip in
    choice_fine a (without_cr line) c n error is fault

later_asked : (a : Alphabet) (line : List ℕ) (lines : List (List ℕ)) → AreAsked a (line ∷ lines) → AreAsked a lines
later_asked a line lines (s, zip) = tail_asked a (without_cr line) (map without_cr lines) s zip

-- no line among lines that ask for a script is at fault
each_asked : (a : Alphabet) (before : List (List ℕ)) (line : List ℕ) (others : List (List ℕ)) → IsAtFault a line → AreAsked a (before ++ line ∷ others) → ⊥
each_asked a [] line others fault asked = first_asked a line others fault asked
each_asked a (x ∷ before) line others fault asked = each_asked a before line others fault (later_asked a x (before ++ line ∷ others) asked)

-- the line of a fault is at fault
at_fault : (a : Alphabet) (c : List ℕ) (error : ScriptError) (h : HasFault a c error) → IsAtFault a h.line
at_fault a c error h = (h.some, length h.before + 1, error, h.fault)

-- a content that is a script has no fault
fault_fine : (a : Alphabet) (c : List ℕ) (s : List Choice) (error : ScriptError) → IsScript a c s → HasFault a c error → ⊥
fault_fine a c s error is h = each_asked a h.before h.line h.others (at_fault a c error h) (s, subst (λ (ls : List (List ℕ)). AllZip (IsChoice a) (texts_of ls) s) h.lines is)

pub script_fine : (a : Alphabet) (c : List ℕ) (s : List Choice) (error : ScriptError) → IsScript a c s → RefusesScript a c error → ¬ (error ≡ Memory) → ⊥
script_fine a c s (Line n) is h some = fault_fine a c s (Line n) is h
script_fine a c s (UnknownLabel n) is h some = fault_fine a c s (UnknownLabel n) is h
script_fine a c s Memory is h some = some refl

-- the same first line of two is at fault
pub record AreSame (before front : List (List ℕ)) (line text : List ℕ) : Type 0 where
  pub long : length before ≡ length front
  pub line_is : line ≡ text

first_once : (a : Alphabet) (before front : List (List ℕ)) (line text : List ℕ) (others more : List (List ℕ)) → before ++ line ∷ others ≡ front ++ text ∷ more → AreAsked a before → AreAsked a front → IsAtFault a line → IsAtFault a text →
    AreSame before front line text
first_once a [] [] line text others more same one other un none = record { long = refl; line_is = cc }
first_once a [] (y ∷ front) line text others more same one other un none =
    let here : line ≡ y = cc in
    absurd (first_asked a y front (subst (IsAtFault a) here un) other)
first_once a (x ∷ before) [] line text others more same one other un none =
    let here : text ≡ x = cc in
    absurd (first_asked a x before (subst (IsAtFault a) here none) one)
first_once a (x ∷ before) (y ∷ front) line text others more same one other un none =
    let rest : before ++ line ∷ others ≡ front ++ text ∷ more = cc in
    let both = first_once a before front line text others more rest (later_asked a x before one) (later_asked a y front other) un none in
    let long = both.long in
    record { long = omega (arith, long); line_is = both.line_is }

-- a line is at fault for one reason
reason_once : (a : Alphabet) (line : List ℕ) (n : ℕ) (e f : ScriptError) → IsNoChoice a line n e → IsNoChoice a line n f → e ≡ f
reason_once a line n (Line m) (Line k) one other = ap Line (one.0 ∙ sym other.0)
reason_once a line n (Line m) (UnknownLabel k) one other = absurd (one.1.sends other.1.text other.1.sends)
reason_once a line n (UnknownLabel m) (Line k) one other = absurd (other.1.sends one.1.text one.1.sends)
reason_once a line n (UnknownLabel m) (UnknownLabel k) one other = ap UnknownLabel (one.0 ∙ sym other.0)
reason_once a line n Memory f one other = absurd one
reason_once a line n (Line m) Memory one other = absurd other
reason_once a line n (UnknownLabel m) Memory one other = absurd other

has_fault_once : (a : Alphabet) (c : List ℕ) (e f : ScriptError) → HasFault a c e → HasFault a c f → e ≡ f
has_fault_once a c e f one other =
    let both = first_once a one.before other.before one.line other.line one.others other.others (sym one.lines ∙ other.lines) one.asked other.asked (at_fault a c e one) (at_fault a c f other) in
    let count : length one.before + 1 ≡ length other.before + 1 = ap {A = ℕ} {B = ℕ} (λ n. n + 1) both.long in
    let moved : IsNoChoice a (without_cr other.line) (length one.before + 1) e = subst (λ (l : List ℕ). IsNoChoice a (without_cr l) (length one.before + 1) e) both.line_is one.fault in
    reason_once a (without_cr other.line) (length other.before + 1) e f (subst (λ (n : ℕ). IsNoChoice a (without_cr other.line) n e) count moved) other.fault

-- a content has one first line at fault
pub fault_once : (a : Alphabet) (c : List ℕ) (e f : ScriptError) → RefusesScript a c e → RefusesScript a c f → ¬ (e ≡ Memory) → ¬ (f ≡ Memory) → e ≡ f
fault_once a c Memory f one other some some_too = absurd (some refl)
fault_once a c (Line n) Memory one other some some_too = absurd (some_too refl)
fault_once a c (UnknownLabel n) Memory one other some some_too = absurd (some_too refl)
fault_once a c (Line n) (Line m) one other some some_too = has_fault_once a c (Line n) (Line m) one other
fault_once a c (Line n) (UnknownLabel m) one other some some_too = has_fault_once a c (Line n) (UnknownLabel m) one other
fault_once a c (UnknownLabel n) (Line m) one other some some_too = has_fault_once a c (UnknownLabel n) (Line m) one other
fault_once a c (UnknownLabel n) (UnknownLabel m) one other some some_too = has_fault_once a c (UnknownLabel n) (UnknownLabel m) one other

-- what is read of a content is the script that it is
pub script_only : (a : Alphabet) (c : List ℕ) (s : List Choice) (result : Result (List Choice) ScriptError) → IsAlphabet a → MatchResult result (IsScript a c) (RefusesScript a c) → IsScript a c s →
    MatchResult result (λ t. t ≡ s) (λ e. e ≡ Memory)
script_only a c s (Ok t) alphabet is one = script_once a c t s alphabet is one
script_only a c s (Err Memory) alphabet why one = refl
script_only a c s (Err (Line n)) alphabet why one = absurd (fault_fine a c s (Line n) one why)
script_only a c s (Err (UnknownLabel n)) alphabet why one = absurd (fault_fine a c s (UnknownLabel n) one why)
