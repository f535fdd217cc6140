-- A content says one thing: a text is at most one header and one move, and a file has no fault.
use Rattle.std.proofs.Common.{◌≡◌, ◌∙◌, ℕ, suc, ◌+◌, ◌<◌, ◌≤◌, true, List, [], ◌∷◌, ◌++◌, length, filter, Result, Ok, Err, MatchResult, inl, inr, refl, sym, ap, arith, subst, codes}
use Rattle.std.proofs.lemmas.List.{append_cancel_left, append_cancel_right, length-map}
use Rattle.std.proofs.lemmas.List.Elements.{filter-append}
use Rattle.std.proofs.lemmas.Bool.{cases_Bool}
use Rattle.std.specs.List.{AllZip}
use Rattle.lts_base.specs.Raw.{RawSystem}
use Rattle.text_scan.specs.Decimal.{IsDecimal}
use Rattle.text_scan.specs.Blank.{trimmed}
use Rattle.text_scan.specs.Lines.{without_cr}
use Rattle.text_scan.proofs.CutLaws.{last_cut_same}
use Rattle.aut_text.specs.declared.header.Header.{Header}
use Rattle.aut_text.specs.declared.error.AutError.{AutError}
use Rattle.aut_text.specs.declared.error.AutError.TheVariants.{Header as BadHeader, Line, State, Count, LabelLong, NotUtf8, TooManyStates, TooManyMoves, Memory}
use Rattle.aut_text.specs.Parts.{NamedMove, named}
use Rattle.aut_text.specs.Form.{IsOpening, IsClosing, IsBeginning, IsHeader, Written, IsMove, label_in, visible}
use Rattle.aut_text.specs.Grammar.{is_text, IsHeaderLine, IsMoveLine, AreMoves, IsHeaded, IsBlankContent, IsBegun, IsAut, has_moves, SaysSame}
use Rattle.aut_text.specs.Faults.{IsHeaderFault, IsLineFault, IsHeadFault, IsLaterFault, IsMiscounted, RefusesAut}
use Rattle.aut_text.proofs.FormLaws.{header_front, header_middle, header_back, move_front, move_back, move_others}
use Rattle.lts_base.specs.declared.limits.TheConstants.{MOST_LABEL_BYTES, MOST_MOVES, MOST_STATES}

pub decimal_once : (bytes : List ℕ) (n m : ℕ) → IsDecimal bytes n → IsDecimal bytes m → n ≡ m
decimal_once bytes n m one other = sym (one.is) ∙ other.is

pub opening_once : (bytes : List ℕ) (n m : ℕ) → IsOpening bytes n → IsOpening bytes m → n ≡ m
opening_once bytes n m one other =
    let same : one.digits ≡ other.digits = append_cancel_left (40 ∷ []) one.digits other.digits (sym (one.bracket) ∙ other.bracket) in
    decimal_once (trimmed other.digits) n m (rw same at (one.number)) other.number

pub closing_once : (bytes : List ℕ) (n m : ℕ) → IsClosing bytes n → IsClosing bytes m → n ≡ m
closing_once bytes n m one other =
    let same : one.digits ≡ other.digits = append_cancel_right one.digits other.digits (41 ∷ []) (sym (one.bracket) ∙ other.bracket) in
    decimal_once (trimmed other.digits) n m (rw same at (one.number)) other.number

pub beginning_once : (bytes : List ℕ) (n m : ℕ) → IsBeginning bytes n → IsBeginning bytes m → n ≡ m
beginning_once bytes n m one other =
    let same : one.opening ≡ other.opening = append_cancel_left (codes "des") one.opening other.opening (sym (one.word) ∙ other.word) in
    opening_once other.opening n m (rw same at (one.number)) other.number

-- a text is one header
pub header_once : (text : List ℕ) (h k : Header) → IsHeader text h → IsHeader text k → h ≡ k
header_once text h k one other =
    let start = beginning_once other.front h.start k.start (header_front text other.front other.others h other.first_comma one) other.start in
    let transitions = decimal_once (trimmed other.middle) h.transitions k.transitions (header_middle text other.front other.others other.middle other.back h other.first_comma other.second_comma one) other.transitions in
    let states = closing_once other.back h.states k.states (header_back text other.front other.others other.middle other.back h other.first_comma other.second_comma one) other.states in
    ap {A = ℕ} {B = Header} (λ x. record { start = x; transitions = h.transitions; states = h.states }) start
    ∙ ap {A = ℕ} {B = Header} (λ x. record { start = k.start; transitions = x; states = h.states }) transitions
    ∙ ap {A = ℕ} {B = Header} (λ x. record { start = k.start; transitions = k.transitions; states = x }) states

-- a text is one move
pub move_once : (text : List ℕ) (w v : Written) → IsMove text w → IsMove text v → w ≡ v
move_once text w v one other =
    let from = opening_once other.front w.from v.from (move_front text other.front other.others w other.first_comma one) other.from in
    let same = last_cut_same 44 other.others one.middle one.back other.middle other.back (move_others text other.front other.others w other.first_comma one) other.last_comma in
    let label : w.label ≡ v.label = one.label ∙ ap label_in (same.0) ∙ sym (other.label) in
    let to = closing_once other.back w.to v.to (move_back text other.front other.others other.middle other.back w other.first_comma other.last_comma one) other.to in
    ap {A = ℕ} {B = Written} (λ x. record { from = x; label = w.label; to = w.to }) from
    ∙ ap {A = List ℕ} {B = Written} (λ x. record { from = v.from; label = x; to = w.to }) label
    ∙ ap {A = ℕ} {B = Written} (λ x. record { from = v.from; label = v.label; to = x }) to

-- lines that are blank have no text among them
pub no_text : (line : List ℕ) (lines : List (List ℕ)) → is_text line ≡ true → filter is_text (line ∷ lines) ≡ [] → ⊥
no_text line lines text none = go (filter is_text lines) (rw text at none)
  where
    go : (others : List (List ℕ)) → line ∷ others ≡ [] → ⊥
    go others e = cc

pub rest_blank : (line : List ℕ) (lines : List (List ℕ)) → filter is_text (line ∷ lines) ≡ [] → filter is_text lines ≡ []
rest_blank line lines none = elim (cases_Bool (is_text line)) [
  | inl text ↦ absurd (no_text line lines text none)
  | inr blank ↦ rw blank at none
]

-- lines have one first line with text
pub first_once : (a b : List (List ℕ)) (x y : List ℕ) (xs ys : List (List ℕ)) → filter is_text a ≡ [] → filter is_text b ≡ [] → is_text x ≡ true → is_text y ≡ true → a ++ x ∷ xs ≡ b ++ y ∷ ys → (x ≡ y) × (xs ≡ ys)
first_once [] [] x y xs ys none_a none_b text_x text_y e = (cc, cc)
first_once [] (z ∷ b) x y xs ys none_a none_b text_x text_y e =
    let same : x ≡ z = cc in
    absurd (no_text z b (rw same at text_x) none_b)
first_once (z ∷ a) [] x y xs ys none_a none_b text_x text_y e =
    let same : y ≡ z = cc in
    absurd (no_text z a (rw same at text_y) none_a)
first_once (z ∷ a) (w ∷ b) x y xs ys none_a none_b text_x text_y e =
    let rest : a ++ x ∷ xs ≡ b ++ y ∷ ys = cc in
    first_once a b x y xs ys (rest_blank z a none_a) (rest_blank w b none_b) text_x text_y rest

pub headed_once : (content head other : List ℕ) (n m : ℕ) (xs ys : List (List ℕ)) → IsHeaded content head n xs → IsHeaded content other m ys → (head ≡ other) × (xs ≡ ys)
headed_once content head other n m xs ys one two = first_once one.blanks two.blanks head other xs ys one.blank two.blank one.text two.text (sym (one.lines) ∙ two.lines)

-- the first line with text has one number
pub front_once : (a b : List (List ℕ)) (x y : List ℕ) (xs ys : List (List ℕ)) → filter is_text a ≡ [] → filter is_text b ≡ [] → is_text x ≡ true → is_text y ≡ true → a ++ x ∷ xs ≡ b ++ y ∷ ys → length a ≡ length b
front_once [] [] x y xs ys none_a none_b text_x text_y e = refl
front_once [] (z ∷ b) x y xs ys none_a none_b text_x text_y e =
    let same : x ≡ z = cc in
    absurd (no_text z b (rw same at text_x) none_b)
front_once (z ∷ a) [] x y xs ys none_a none_b text_x text_y e =
    let same : y ≡ z = cc in
    absurd (no_text z a (rw same at text_y) none_a)
front_once (z ∷ a) (w ∷ b) x y xs ys none_a none_b text_x text_y e =
    let rest : a ++ x ∷ xs ≡ b ++ y ∷ ys = cc in
    ap {A = ℕ} {B = ℕ} suc (front_once a b x y xs ys (rest_blank z a none_a) (rest_blank w b none_b) text_x text_y rest)

pub number_once : (content : List ℕ) (h k : Header) (n m : ℕ) (xs ys : List (List ℕ)) → IsBegun content h n xs → IsBegun content k m ys → n ≡ m
number_once content h k n m xs ys one two =
    let a = one.headed in
    let b = two.headed in
    a.number ∙ ap {A = ℕ} {B = ℕ} (λ c. c + 1) (front_once a.blanks b.blanks one.head two.head xs ys a.blank b.blank a.text b.text (sym (a.lines) ∙ b.lines)) ∙ sym (b.number)

-- a content has one header and one list of lines after it
pub begun_once : (content : List ℕ) (h k : Header) (n m : ℕ) (xs ys : List (List ℕ)) → IsBegun content h n xs → IsBegun content k m ys → (h ≡ k) × (xs ≡ ys)
begun_once content h k n m xs ys one two =
    let (head, others) = headed_once content one.head two.head n m xs ys one.headed two.headed in
    (header_once (without_cr two.head) h k (rw head at (one.header.form)) two.header.form, others)

-- a line is that of one move
pub line_once : (states : ℕ) (line : List ℕ) (m n : NamedMove) → IsMoveLine states line m → IsMoveLine states line n → m ≡ n
line_once states line m n one two =
    let same = move_once (without_cr line) one.written two.written one.line_is.form two.line_is.form in
    one.is ∙ ap {A = Written} {B = NamedMove} (λ w. record { from = w.from; label = visible w.label; to = w.to }) same ∙ sym (two.is)

-- lines are those of one list of moves
pub moves_once : (states : ℕ) (lines : List (List ℕ)) (ms ns : List NamedMove) → AllZip (IsMoveLine states) lines ms → AllZip (IsMoveLine states) lines ns → ms ≡ ns
moves_once states [] [] [] one two = refl
moves_once states [] [] (n ∷ ns) one two = absurd two
moves_once states [] (m ∷ ms) ns one two = absurd one
moves_once states (line ∷ lines) [] ns one two = absurd one
moves_once states (line ∷ lines) (m ∷ ms) [] one two = absurd two
moves_once states (line ∷ lines) (m ∷ ms) (n ∷ ns) one two =
    let first : m ≡ n = line_once states line m n one.0 two.0 in
    let rest : ms ≡ ns = moves_once states lines ms ns one.1 two.1 in
    cc

-- the line of a move has no fault
pub line_excludes : (states count : ℕ) (line : List ℕ) (k : ℕ) (m : NamedMove) (e : AutError) → IsMoveLine states line m → count < MOST_MOVES → IsLineFault states count line k e → e ≡ Memory
line_excludes states count line k m (Line n) is room (at, inl long) = absurd (omega (arith, is.line_is.clean.short, long))
line_excludes states count line k m (Line n) is room (at, inr (clean, none)) = absurd (none is.written is.line_is.form)
line_excludes states count line k m (NotUtf8 n) is room (at, short, bad) = absurd (bad is.line_is.clean.utf8)
line_excludes states count line k m TooManyMoves is room (clean, (w, form, over)) = absurd (omega (arith, room, over))
line_excludes states count line k m (State n) is room (at, (w, after, apart)) =
    let same : is.written ≡ w = move_once (without_cr line) is.written w is.line_is.form after.1 in
    absurd (apart (subst (λ (v : Written). (v.from < states) × (v.to < states)) same (is.line_is.from, is.line_is.to)))
line_excludes states count line k m (LabelLong n) is room (at, (w, after, from, to, long)) =
    let same : is.written ≡ w = move_once (without_cr line) is.written w is.line_is.form after.1 in
    let short : length w.label ≤ MOST_LABEL_BYTES = subst (λ (v : Written). length v.label ≤ MOST_LABEL_BYTES) same (is.line_is.label) in
    absurd (omega (arith, short, long))
line_excludes states count line k m Memory is room fault = refl
line_excludes states count line k m BadHeader is room fault = absurd fault
line_excludes states count line k m (Count declared found) is room fault = absurd fault
line_excludes states count line k m TooManyStates is room fault = absurd fault

-- among the lines of moves, one that follows the lines of some of them is the line of a move, and there are more moves
pub good_line : (states : ℕ) (good : List (List ℕ)) (bad : List ℕ) (rest : List (List ℕ)) (front ms : List NamedMove) → AreMoves states (good ++ bad ∷ rest) ms → AreMoves states good front → is_text bad ≡ true → (m : NamedMove) × IsMoveLine states bad m × (length front < length ms)
good_line states good bad rest front ms all some text = go (filter is_text good) front ms some (subst (λ (t : List (List ℕ)). AllZip (IsMoveLine states) t ms) split all)
  where
    split : filter is_text (good ++ bad ∷ rest) ≡ filter is_text good ++ bad ∷ filter is_text rest
    split = filter-append is_text good (bad ∷ rest) ∙ rw text refl

    go : (xs : List (List ℕ)) (front ms : List NamedMove) → AllZip (IsMoveLine states) xs front → AllZip (IsMoveLine states) (xs ++ bad ∷ filter is_text rest) ms → (m : NamedMove) × IsMoveLine states bad m × (length front < length ms)
    go [] [] [] some all = absurd all
    go [] [] (m ∷ ms) some all = (m, all.0, omega arith)
    go [] (n ∷ front) ms some all = absurd some
    go (x ∷ xs) [] ms some all = absurd some
    go (x ∷ xs) (n ∷ front) [] some all = absurd all
    go (x ∷ xs) (n ∷ front) (m ∷ ms) some all = let (found, is, less) = go xs front ms some.1 all.1 in (found, is, omega (arith, less))

-- a header line has no fault
pub header_excludes : (line : List ℕ) (h : Header) (e : AutError) → IsHeaderLine line h → IsHeaderFault line e → ⊥
header_excludes line h BadHeader is (inl long) = omega (arith, is.clean.short, long)
header_excludes line h BadHeader is (inr (inl (short, bad))) = bad is.clean.utf8
header_excludes line h BadHeader is (inr (inr (inl (clean, none)))) = none h is.form
header_excludes line h BadHeader is (inr (inr (inr (clean, (k, form, states, transitions, start))))) =
    let same : k ≡ h = header_once (without_cr line) k h form is.form in
    let over : h.states ≤ h.start = subst (λ (g : Header). g.states ≤ g.start) same start in
    omega (arith, over, is.start)
header_excludes line h TooManyStates is (clean, (k, form, over)) =
    let past : MOST_STATES < h.states = subst (λ (g : Header). MOST_STATES < g.states) (header_once (without_cr line) k h form is.form) over in
    omega (arith, past, is.states)
header_excludes line h TooManyMoves is (clean, (k, form, states, over)) =
    let past : MOST_MOVES < h.transitions = subst (λ (g : Header). MOST_MOVES < g.transitions) (header_once (without_cr line) k h form is.form) over in
    omega (arith, past, is.transitions)
header_excludes line h (Line n) is fault = absurd fault
header_excludes line h (State n) is fault = absurd fault
header_excludes line h (Count declared found) is fault = absurd fault
header_excludes line h (LabelLong n) is fault = absurd fault
header_excludes line h (NotUtf8 n) is fault = absurd fault
header_excludes line h Memory is fault = absurd fault

-- lines with text among them aren't blank
pub has_text : (a : List (List ℕ)) (x : List ℕ) (xs : List (List ℕ)) → is_text x ≡ true → filter is_text (a ++ x ∷ xs) ≡ [] → ⊥
has_text [] x xs text none = no_text x xs text none
has_text (z ∷ a) x xs text none = has_text a x xs text (rest_blank z (a ++ x ∷ xs) none)

pub head_excludes : (content : List ℕ) (h : Header) (n : ℕ) (others : List (List ℕ)) (e : AutError) → IsBegun content h n others → IsHeadFault content e → ⊥
head_excludes content h n others e begun fault =
    let same = headed_once content fault.head begun.head fault.n n fault.others others fault.headed begun.headed in
    header_excludes begun.head h e begun.header (subst (λ (t : List ℕ). IsHeaderFault t e) same.0 fault.fault)

pub blank_excludes : (content : List ℕ) (h : Header) (n : ℕ) (others : List (List ℕ)) → IsBegun content h n others → IsBlankContent content → ⊥
blank_excludes content h n others begun blank = has_text begun.headed.blanks begun.head others begun.headed.text (rw (begun.headed.lines) at blank)

-- a file has at most 1,048,576 moves
pub few_moves : (content : List ℕ) (r : RawSystem) → (a : IsAut content r) → length (has_moves r) ≤ MOST_MOVES
few_moves content r a =
    let count : length (has_moves r) ≡ length r.moves = length-map r.moves (named r.labels) in
    omega (arith, count, a.count, a.begun.header.transitions)

pub later_excludes : (content : List ℕ) (r : RawSystem) (e : AutError) → IsAut content r → IsLaterFault content e → e ≡ Memory
later_excludes content r e a f =
    let same = begun_once content a.h f.h a.n f.n a.others f.others a.begun f.begun in
    let moves : AreMoves f.h.states (f.fault.good ++ f.fault.bad ∷ f.fault.rest) (has_moves r) = subst (λ (t : List (List ℕ)). AreMoves f.h.states t (has_moves r)) (same.1 ∙ f.fault.lines_are) (subst (λ (k : Header). AreMoves k.states a.others (has_moves r)) same.0 a.moves) in
    let (m, is, less) = good_line f.h.states f.fault.good f.fault.bad f.fault.rest f.fault.moves (has_moves r) moves f.fault.moves_are f.fault.text in
    line_excludes f.h.states (length f.fault.moves) f.fault.bad (f.n + length f.fault.good + 1) m e is (omega (arith, less, few_moves content r a)) f.fault.fault

pub count_excludes : (content : List ℕ) (r : RawSystem) (declared found : ℕ) → IsAut content r → IsMiscounted content declared found → ⊥
count_excludes content r declared found a f =
    let same = begun_once content a.h f.h a.n f.n a.others f.others a.begun f.begun in
    let moves : AreMoves f.h.states f.others (has_moves r) = subst (λ (t : List (List ℕ)). AreMoves f.h.states t (has_moves r)) same.1 (subst (λ (k : Header). AreMoves k.states a.others (has_moves r)) same.0 a.moves) in
    let once : has_moves r ≡ f.moves = moves_once f.h.states (filter is_text f.others) (has_moves r) f.moves moves f.moves_are in
    let count : length (has_moves r) ≡ length r.moves = length-map r.moves (named r.labels) in
    let long : length (has_moves r) ≡ length f.moves = ap {A = List NamedMove} {B = ℕ} length once in
    let transitions : a.h.transitions ≡ f.h.transitions = ap {A = Header} {B = ℕ} (λ k. k.transitions) same.0 in
    f.differ (omega (arith, f.declared_is, f.found_is, long, count, a.count, transitions))

-- a file of a system is refused for want of memory alone
pub aut_excludes : (content : List ℕ) (r : RawSystem) (e : AutError) → IsAut content r → RefusesAut content e → e ≡ Memory
aut_excludes content r BadHeader a (inl blank) = absurd (blank_excludes content a.h a.n a.others a.begun blank)
aut_excludes content r BadHeader a (inr fault) = absurd (head_excludes content a.h a.n a.others BadHeader a.begun fault)
aut_excludes content r TooManyStates a fault = absurd (head_excludes content a.h a.n a.others TooManyStates a.begun fault)
aut_excludes content r TooManyMoves a (inl fault) = absurd (head_excludes content a.h a.n a.others TooManyMoves a.begun fault)
aut_excludes content r TooManyMoves a (inr fault) = later_excludes content r TooManyMoves a fault
aut_excludes content r (Line n) a fault = later_excludes content r (Line n) a fault
aut_excludes content r (NotUtf8 n) a fault = later_excludes content r (NotUtf8 n) a fault
aut_excludes content r (State n) a fault = later_excludes content r (State n) a fault
aut_excludes content r (LabelLong n) a fault = later_excludes content r (LabelLong n) a fault
aut_excludes content r (Count declared found) a fault = absurd (count_excludes content r declared found a fault)
aut_excludes content r Memory a fault = refl

-- a content is a file of one system, but for the numbers of its labels
pub aut_once : (content : List ℕ) (r s : RawSystem) → IsAut content r → IsAut content s → SaysSame r s
aut_once content r s a b =
    let same = begun_once content b.h a.h b.n a.n b.others a.others b.begun a.begun in
    let moves : AreMoves a.h.states a.others (has_moves s) = subst (λ (t : List (List ℕ)). AreMoves a.h.states t (has_moves s)) same.1 (subst (λ (k : Header). AreMoves k.states b.others (has_moves s)) same.0 b.moves) in
    record {
      states = b.states ∙ ap {A = Header} {B = ℕ} (λ k. k.states) same.0 ∙ sym (a.states);
      start = b.start ∙ ap {A = Header} {B = ℕ} (λ k. k.start) same.0 ∙ sym (a.start);
      moves = moves_once a.h.states (filter is_text a.others) (has_moves s) (has_moves r) moves a.moves;
    }

-- what is read of a file is what the file says
pub aut_only : (content : List ℕ) (r : RawSystem) (result : Result RawSystem AutError) → MatchResult result (IsAut content) (RefusesAut content) → IsAut content r → MatchResult result (SaysSame r) (λ e. e ≡ Memory)
aut_only content r (Ok s) is a = aut_once content r s a is
aut_only content r (Err e) why a = aut_excludes content r e a why
