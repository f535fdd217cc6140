-- A content has one first fault.
use Rattle.std.proofs.Common.{◌≡◌, ◌∙◌, ℕ, ◌+◌, ◌<◌, ◌≤◌, List, ◌∷◌, ◌++◌, length, filter, Result, Ok, Err, MatchResult, ◌⊎◌, inl, inr, refl, sym, ap, arith, subst}
use Rattle.std.specs.Str.{IsUtf8}
use Rattle.lts_base.specs.Raw.{RawSystem}
use Rattle.text_scan.specs.Lines.{without_cr}
use Rattle.text_scan.proofs.LineLaws.{places}
use Rattle.aut_text.specs.declared.header.Header.{Header}
use Rattle.aut_text.specs.declared.error.AutError.{AutError}
use Rattle.aut_text.specs.declared.error.AutError.TheVariants.{Header as BadHeader, Line, State, Count, LabelLong, NotUtf8, TooManyStates, TooManyMoves, Memory}
use Rattle.aut_text.specs.Parts.{NamedMove}
use Rattle.aut_text.specs.Form.{Written, IsMove}
use Rattle.aut_text.specs.Grammar.{is_text, IsClean, AreMoves, IsBlankContent, IsAut}
use Rattle.aut_text.specs.Faults.{IsNoHeader, IsHeaderFault, IsNoMove, IsMoveAfter, IsLineFault, IsFaultAmong, IsHeadFault, IsLaterFault, IsMiscounted, RefusesAut}
use Rattle.aut_text.proofs.OnceLaws.{header_once, move_once, moves_once, headed_once, begun_once, number_once, good_line, line_excludes, head_excludes, blank_excludes, has_text, aut_excludes}
use Rattle.lts_base.specs.declared.limits.TheConstants.{MOST_LABEL_BYTES, MOST_LINE_BYTES, MOST_MOVES, MOST_STATES}

-- two errors are the same, or memory ran out
abbrev pub AreSame : AutError → AutError → Type 0
AreSame e f = (e ≡ f) ⊎ ((e ≡ Memory) ⊎ (f ≡ Memory))

-- the faults of a header's line, by kinds
abbrev IsHeaderKind : List ℕ → AutError → Type 0
IsHeaderKind line e =
    ((e ≡ BadHeader) × IsNoHeader line) ⊎
    (((e ≡ TooManyStates) × IsHeaderFault line TooManyStates) ⊎
    ((e ≡ TooManyMoves) × IsHeaderFault line TooManyMoves))

header_kind : (line : List ℕ) (e : AutError) → IsHeaderFault line e → IsHeaderKind line e
header_kind line BadHeader fault = inl (refl, fault)
header_kind line TooManyStates fault = inr (inl (refl, fault))
header_kind line TooManyMoves fault = inr (inr (refl, fault))
header_kind line (Line n) fault = absurd fault
header_kind line (State n) fault = absurd fault
header_kind line (Count declared found) fault = absurd fault
header_kind line (LabelLong n) fault = absurd fault
header_kind line (NotUtf8 n) fault = absurd fault
header_kind line Memory fault = absurd fault

no_header_states : (line : List ℕ) → IsNoHeader line → IsHeaderFault line TooManyStates → ⊥
no_header_states line (inl long) (clean, (k, form, over)) = omega (arith, clean.short, long)
no_header_states line (inr (inl (short, bad))) (clean, (k, form, over)) = bad clean.utf8
no_header_states line (inr (inr (inl (other, none)))) (clean, (k, form, over)) = none k form
no_header_states line (inr (inr (inr (other, (h, is, states, transitions, start))))) (clean, (k, form, over)) =
    let past : MOST_STATES < h.states = subst (λ (g : Header). MOST_STATES < g.states) (header_once (without_cr line) k h form is) over in
    omega (arith, past, states)

no_header_moves : (line : List ℕ) → IsNoHeader line → IsHeaderFault line TooManyMoves → ⊥
no_header_moves line (inl long) (clean, (k, form, small, over)) = omega (arith, clean.short, long)
no_header_moves line (inr (inl (short, bad))) (clean, (k, form, small, over)) = bad clean.utf8
no_header_moves line (inr (inr (inl (other, none)))) (clean, (k, form, small, over)) = none k form
no_header_moves line (inr (inr (inr (other, (h, is, states, transitions, start))))) (clean, (k, form, small, over)) =
    let past : MOST_MOVES < h.transitions = subst (λ (g : Header). MOST_MOVES < g.transitions) (header_once (without_cr line) k h form is) over in
    omega (arith, past, transitions)

states_moves : (line : List ℕ) → IsHeaderFault line TooManyStates → IsHeaderFault line TooManyMoves → ⊥
states_moves line (clean, (k, form, over)) (other, (h, is, small, past)) =
    let low : k.states ≤ MOST_STATES = subst (λ (g : Header). g.states ≤ MOST_STATES) (header_once (without_cr line) h k is form) small in
    omega (arith, low, over)

-- a header's line has one fault
pub header_fault_once : (line : List ℕ) (e f : AutError) → IsHeaderFault line e → IsHeaderFault line f → e ≡ f
header_fault_once line e f one two = go (header_kind line e one) (header_kind line f two)
  where
    go : IsHeaderKind line e → IsHeaderKind line f → e ≡ f
    go (inl (a, x)) (inl (b, y)) = a ∙ sym b
    go (inl (a, x)) (inr (inl (b, y))) = absurd (no_header_states line x y)
    go (inl (a, x)) (inr (inr (b, y))) = absurd (no_header_moves line x y)
    go (inr (inl (a, x))) (inl (b, y)) = absurd (no_header_states line y x)
    go (inr (inl (a, x))) (inr (inl (b, y))) = a ∙ sym b
    go (inr (inl (a, x))) (inr (inr (b, y))) = absurd (states_moves line x y)
    go (inr (inr (a, x))) (inl (b, y)) = absurd (no_header_moves line y x)
    go (inr (inr (a, x))) (inr (inl (b, y))) = absurd (states_moves line y x)
    go (inr (inr (a, x))) (inr (inr (b, y))) = a ∙ sym b

-- how far a line is from being one of a move: it is too long; or isn't UTF-8; or writes no move; or writes one too many; or
-- one whose ends aren't states; or one whose label is too long
pub data Stage : Type 0 where
  TooLong : Stage
  Bytes : Stage
  Form : Stage
  Room : Stage
  Ends : Stage
  Label : Stage

abbrev IsAt : ℕ → ℕ → List ℕ → Stage → Type 0
IsAt states count line TooLong = MOST_LINE_BYTES < length line
IsAt states count line Bytes = (length line ≤ MOST_LINE_BYTES) × (IsUtf8 (without_cr line) → ⊥)
IsAt states count line Form = IsClean line × IsNoMove (without_cr line)
IsAt states count line Room = IsClean line × ((w : Written) × IsMove (without_cr line) w × (MOST_MOVES ≤ count))
IsAt states count line Ends = (w : Written) × IsMoveAfter count line w × ((w.from < states) × (w.to < states) → ⊥)
IsAt states count line Label = (w : Written) × IsMoveAfter count line w × (w.from < states) × (w.to < states) × (MOST_LABEL_BYTES < length w.label)

-- the error of a line k at this stage
abbrev error_at : ℕ → Stage → AutError
error_at k TooLong = Line k
error_at k Bytes = NotUtf8 k
error_at k Form = Line k
error_at k Room = TooManyMoves
error_at k Ends = State k
error_at k Label = LabelLong k

stage_of : (states count : ℕ) (line : List ℕ) (k : ℕ) (e : AutError) → IsLineFault states count line k e → ((e ≡ Memory) ⊎ ((s : Stage) × IsAt states count line s × (e ≡ error_at k s)))
stage_of states count line k (Line n) (at, inl long) = inr (TooLong, long, ap Line at)
stage_of states count line k (Line n) (at, inr none) = inr (Form, none, ap Line at)
stage_of states count line k (NotUtf8 n) (at, short, bad) = inr (Bytes, (short, bad), ap NotUtf8 at)
stage_of states count line k TooManyMoves fault = inr (Room, fault, refl)
stage_of states count line k (State n) (at, fault) = inr (Ends, fault, ap State at)
stage_of states count line k (LabelLong n) (at, fault) = inr (Label, fault, ap LabelLong at)
stage_of states count line k Memory fault = inl refl
stage_of states count line k BadHeader fault = absurd fault
stage_of states count line k (Count declared found) fault = absurd fault
stage_of states count line k TooManyStates fault = absurd fault

long_clean : (line : List ℕ) → MOST_LINE_BYTES < length line → IsClean line → ⊥
long_clean line long clean = omega (arith, clean.short, long)

full_room : (count : ℕ) → MOST_MOVES ≤ count → count < MOST_MOVES → ⊥
full_room count full room = omega (arith, full, room)

ends_label : (states count : ℕ) (line : List ℕ) → IsAt states count line Ends → IsAt states count line Label → ⊥
ends_label states count line (w, after, apart) (v, later, from, to, long) =
    let same : v ≡ w = move_once (without_cr line) v w later.1 after.1 in
    apart (subst (λ (u : Written). (u.from < states) × (u.to < states)) same (from, to))

-- a line is at one stage
stage_once : (states count : ℕ) (line : List ℕ) (k : ℕ) (s t : Stage) → IsAt states count line s → IsAt states count line t → error_at k s ≡ error_at k t
stage_once states count line k TooLong TooLong a b = refl
stage_once states count line k TooLong Bytes a b = absurd (omega (arith, a, b.0))
stage_once states count line k TooLong Form a b = refl
stage_once states count line k TooLong Room a b = absurd (long_clean line a b.0)
stage_once states count line k TooLong Ends a (w, after, x) = absurd (long_clean line a after.0)
stage_once states count line k TooLong Label a (w, after, x, y, z) = absurd (long_clean line a after.0)
stage_once states count line k Bytes TooLong a b = absurd (omega (arith, b, a.0))
stage_once states count line k Bytes Bytes a b = refl
stage_once states count line k Bytes Form a b = absurd (a.1 b.0.utf8)
stage_once states count line k Bytes Room a b = absurd (a.1 b.0.utf8)
stage_once states count line k Bytes Ends a (w, after, x) = absurd (a.1 after.0.utf8)
stage_once states count line k Bytes Label a (w, after, x, y, z) = absurd (a.1 after.0.utf8)
stage_once states count line k Form TooLong a b = refl
stage_once states count line k Form Bytes a b = absurd (b.1 a.0.utf8)
stage_once states count line k Form Form a b = refl
stage_once states count line k Form Room a (clean, (w, form, over)) = absurd (a.1 w form)
stage_once states count line k Form Ends a (w, after, x) = absurd (a.1 w after.1)
stage_once states count line k Form Label a (w, after, x, y, z) = absurd (a.1 w after.1)
stage_once states count line k Room TooLong a b = absurd (long_clean line b a.0)
stage_once states count line k Room Bytes a b = absurd (b.1 a.0.utf8)
stage_once states count line k Room Form (clean, (w, form, over)) b = absurd (b.1 w form)
stage_once states count line k Room Room a b = refl
stage_once states count line k Room Ends (clean, (w, form, over)) (v, after, x) = absurd (full_room count over after.2)
stage_once states count line k Room Label (clean, (w, form, over)) (v, after, x, y, z) = absurd (full_room count over after.2)
stage_once states count line k Ends TooLong (w, after, x) b = absurd (long_clean line b after.0)
stage_once states count line k Ends Bytes (w, after, x) b = absurd (b.1 after.0.utf8)
stage_once states count line k Ends Form (w, after, x) b = absurd (b.1 w after.1)
stage_once states count line k Ends Room (v, after, x) (clean, (w, form, over)) = absurd (full_room count over after.2)
stage_once states count line k Ends Ends a b = refl
stage_once states count line k Ends Label a b = absurd (ends_label states count line a b)
stage_once states count line k Label TooLong (w, after, x, y, z) b = absurd (long_clean line b after.0)
stage_once states count line k Label Bytes (w, after, x, y, z) b = absurd (b.1 after.0.utf8)
stage_once states count line k Label Form (w, after, x, y, z) b = absurd (b.1 w after.1)
stage_once states count line k Label Room (v, after, x, y, z) (clean, (w, form, over)) = absurd (full_room count over after.2)
stage_once states count line k Label Ends a b = absurd (ends_label states count line b a)
stage_once states count line k Label Label a b = refl

-- a line has one fault
pub line_fault_once : (states count : ℕ) (line : List ℕ) (k : ℕ) (e f : AutError) → IsLineFault states count line k e → IsLineFault states count line k f → AreSame e f
line_fault_once states count line k e f one two = elim (stage_of states count line k e one) [
  | inl memory ↦ inr (inl memory)
  | inr (s, at_s, is_s) ↦ elim (stage_of states count line k f two) [
    | inl memory ↦ inr (inr memory)
    | inr (t, at_t, is_t) ↦ inl (is_s ∙ stage_once states count line k s t at_s at_t ∙ sym is_t)
  ]
]

-- a fault before a line that is reached is want of memory
pub earlier_fault : (states : ℕ) (n : ℕ) (lines : List (List ℕ)) (e : AutError) (a : IsFaultAmong states n lines e) (rest : List (List ℕ)) (ms : List NamedMove) → AreMoves states (a.good ++ a.bad ∷ rest) ms → length ms ≤ MOST_MOVES → e ≡ Memory
earlier_fault states n lines e a rest ms all few =
    let (m, is, less) = good_line states a.good a.bad rest a.moves ms all a.moves_are a.text in
    line_excludes states (length a.moves) a.bad (n + length a.good + 1) m e is (omega (arith, less, few)) a.fault

-- lines have one first fault
pub among_once : (states n : ℕ) (lines : List (List ℕ)) (e f : AutError) → IsFaultAmong states n lines e → IsFaultAmong states n lines f → AreSame e f
among_once states n lines e f a b = elim (places a.good b.good a.bad b.bad a.rest b.rest (sym (a.lines_are) ∙ b.lines_are)) [
  | inl (good, bad) ↦
      let moves : a.moves ≡ b.moves = moves_once states (filter is_text b.good) a.moves b.moves (subst (λ (t : List (List ℕ)). AreMoves states t a.moves) good a.moves_are) b.moves_are in
      let fault : IsLineFault states (length b.moves) b.bad (n + length b.good + 1) e =
      subst (λ (t : List (List ℕ)). IsLineFault states (length b.moves) b.bad (n + length t + 1) e) good
      (subst (λ (t : List ℕ). IsLineFault states (length b.moves) t (n + length a.good + 1) e) bad
      (subst (λ (t : List NamedMove). IsLineFault states (length t) a.bad (n + length a.good + 1) e) moves a.fault)) in
      line_fault_once states (length b.moves) b.bad (n + length b.good + 1) e f fault b.fault
  | inr (inl (t, longer)) ↦ inr (inl (earlier_fault states n lines e a t b.moves (subst (λ (u : List (List ℕ)). AreMoves states u b.moves) longer b.moves_are) b.few))
  | inr (inr (t, longer)) ↦ inr (inr (earlier_fault states n lines f b t a.moves (subst (λ (u : List (List ℕ)). AreMoves states u a.moves) longer a.moves_are) a.few))
]

pub later_once : (content : List ℕ) (e f : AutError) → IsLaterFault content e → IsLaterFault content f → AreSame e f
later_once content e f a b =
    let same = begun_once content a.h b.h a.n b.n a.others b.others a.begun b.begun in
    let line : a.n ≡ b.n = number_once content a.h b.h a.n b.n a.others b.others a.begun b.begun in
    let fault : IsFaultAmong b.h.states b.n b.others e =
    subst (λ (t : List (List ℕ)). IsFaultAmong b.h.states b.n t e) same.1
    (subst (λ (k : ℕ). IsFaultAmong b.h.states k a.others e) line
    (subst (λ (k : Header). IsFaultAmong k.states a.n a.others e) same.0 a.fault)) in
    among_once b.h.states b.n b.others e f fault b.fault

-- where no line is at fault there is no later fault
pub later_count : (content : List ℕ) (e : AutError) (declared found : ℕ) → IsLaterFault content e → IsMiscounted content declared found → e ≡ Memory
later_count content e declared found a b =
    let same = begun_once content b.h a.h b.n a.n b.others a.others b.begun a.begun in
    let moves : AreMoves a.h.states (a.fault.good ++ a.fault.bad ∷ a.fault.rest) b.moves =
    subst (λ (t : List (List ℕ)). AreMoves a.h.states t b.moves) (same.1 ∙ a.fault.lines_are)
    (subst (λ (k : Header). AreMoves k.states b.others b.moves) same.0 b.moves_are) in
    earlier_fault a.h.states a.n a.others e a.fault a.fault.rest b.moves moves b.few

pub count_once : (content : List ℕ) (d c f g : ℕ) → IsMiscounted content d f → IsMiscounted content c g → Count d f ≡ Count c g
count_once content d c f g a b =
    let same = begun_once content a.h b.h a.n b.n a.others b.others a.begun b.begun in
    let moves : AreMoves b.h.states b.others a.moves =
    subst (λ (t : List (List ℕ)). AreMoves b.h.states t a.moves) same.1
    (subst (λ (k : Header). AreMoves k.states a.others a.moves) same.0 a.moves_are) in
    let once : a.moves ≡ b.moves = moves_once b.h.states (filter is_text b.others) a.moves b.moves moves b.moves_are in
    let declared : d ≡ c = a.declared_is ∙ ap {A = Header} {B = ℕ} (λ k. k.transitions) same.0 ∙ sym (b.declared_is) in
    let found : f ≡ g = a.found_is ∙ ap {A = List NamedMove} {B = ℕ} length once ∙ sym (b.found_is) in
    ap {A = ℕ} {B = AutError} (λ x. Count x f) declared ∙ ap {A = ℕ} {B = AutError} (λ x. Count c x) found

pub head_once : (content : List ℕ) (e f : AutError) → IsHeadFault content e → IsHeadFault content f → e ≡ f
head_once content e f a b =
    let same = headed_once content a.head b.head a.n b.n a.others b.others a.headed b.headed in
    header_fault_once b.head e f (subst (λ (t : List ℕ). IsHeaderFault t e) same.0 a.fault) b.fault

pub blank_head : (content : List ℕ) (e : AutError) → IsBlankContent content → IsHeadFault content e → ⊥
blank_head content e blank a = has_text a.headed.blanks a.head a.others a.headed.text (rw (a.headed.lines) at blank)

-- the faults of a content, by kinds
pub data Kind (content : List ℕ) (e : AutError) : Type 0 where
  NoMemory : e ≡ Memory → Kind content e
  Blank : e ≡ BadHeader → IsBlankContent content → Kind content e
  AtHead : IsHeadFault content e → Kind content e
  Later : IsLaterFault content e → Kind content e
  Counted : (declared found : ℕ) → e ≡ Count declared found → IsMiscounted content declared found → Kind content e

pub kind_of : (content : List ℕ) (e : AutError) → RefusesAut content e → Kind content e
kind_of content BadHeader (inl blank) = Blank refl blank
kind_of content BadHeader (inr fault) = AtHead fault
kind_of content TooManyStates fault = AtHead fault
kind_of content TooManyMoves (inl fault) = AtHead fault
kind_of content TooManyMoves (inr fault) = Later fault
kind_of content (Line n) fault = Later fault
kind_of content (NotUtf8 n) fault = Later fault
kind_of content (State n) fault = Later fault
kind_of content (LabelLong n) fault = Later fault
kind_of content (Count declared found) fault = Counted declared found refl fault
kind_of content Memory fault = NoMemory refl

kinds_once : (content : List ℕ) (e f : AutError) → Kind content e → Kind content f → AreSame e f
kinds_once content e f (NoMemory is) b = inr (inl is)
kinds_once content e f (Blank is blank) (NoMemory at) = inr (inr at)
kinds_once content e f (Blank is blank) (Blank at other) = inl (is ∙ sym at)
kinds_once content e f (Blank is blank) (AtHead b) = absurd (blank_head content f blank b)
kinds_once content e f (Blank is blank) (Later b) = absurd (blank_excludes content b.h b.n b.others b.begun blank)
kinds_once content e f (Blank is blank) (Counted d g at b) = absurd (blank_excludes content b.h b.n b.others b.begun blank)
kinds_once content e f (AtHead a) (NoMemory at) = inr (inr at)
kinds_once content e f (AtHead a) (Blank at blank) = absurd (blank_head content e blank a)
kinds_once content e f (AtHead a) (AtHead b) = inl (head_once content e f a b)
kinds_once content e f (AtHead a) (Later b) = absurd (head_excludes content b.h b.n b.others e b.begun a)
kinds_once content e f (AtHead a) (Counted d g at b) = absurd (head_excludes content b.h b.n b.others e b.begun a)
kinds_once content e f (Later a) (NoMemory at) = inr (inr at)
kinds_once content e f (Later a) (Blank at blank) = absurd (blank_excludes content a.h a.n a.others a.begun blank)
kinds_once content e f (Later a) (AtHead b) = absurd (head_excludes content a.h a.n a.others f a.begun b)
kinds_once content e f (Later a) (Later b) = later_once content e f a b
kinds_once content e f (Later a) (Counted d g at b) = inr (inl (later_count content e d g a b))
kinds_once content e f (Counted d g is a) (NoMemory at) = inr (inr at)
kinds_once content e f (Counted d g is a) (Blank at blank) = absurd (blank_excludes content a.h a.n a.others a.begun blank)
kinds_once content e f (Counted d g is a) (AtHead b) = absurd (head_excludes content a.h a.n a.others f a.begun b)
kinds_once content e f (Counted d g is a) (Later b) = inr (inr (later_count content f d g b a))
kinds_once content e f (Counted d g is a) (Counted c k at b) = inl (is ∙ count_once content d c g k a b ∙ sym at)

-- a content has one fault
pub refuses_once : (content : List ℕ) (e f : AutError) → RefusesAut content e → RefusesAut content f → AreSame e f
refuses_once content e f one two = kinds_once content e f (kind_of content e one) (kind_of content f two)

-- what is answered where a fault is met
pub refuses_only : (content : List ℕ) (e : AutError) (result : Result RawSystem AutError) → MatchResult result (IsAut content) (RefusesAut content) → RefusesAut content e → (e ≡ Memory → ⊥) → MatchResult result (λ _. ⊥) (λ f. (f ≡ e) ⊎ (f ≡ Memory))
refuses_only content e (Ok r) is fault other = other (aut_excludes content r e is fault)
refuses_only content e (Err f) why fault other = elim (refuses_once content f e why fault) [
  | inl same ↦ inl same
  | inr (inl memory) ↦ inr memory
  | inr (inr memory) ↦ absurd (other memory)
]
