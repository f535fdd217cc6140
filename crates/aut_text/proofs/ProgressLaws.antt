-- How far a file has been read, line by line.
use Rattle.std.proofs.Common.{◌≡◌, ◌∙◌, ℕ, ◌+◌, ◌<◌, ◌≤◌, true, false, List, [], ◌∷◌, ◌++◌, length, filter, Option, Some, None, Result, MatchResult, ◌⊎◌, inl, inr, refl, sym, ap, arith, subst}
use Rattle.std.proofs.lemmas.List.{append-nil, append_assoc, length_push, length-append}
use Rattle.std.proofs.lemmas.List.Elements.{filter-append}
use Rattle.std.specs.List.{AllZip}
use Rattle.lts_base.specs.Raw.{RawSystem}
use Rattle.text_scan.specs.Lines.{lines_of}
use Rattle.aut_text.specs.declared.header.Header.{Header}
use Rattle.aut_text.specs.declared.error.AutError.{AutError}
use Rattle.aut_text.specs.declared.error.AutError.TheVariants.{Header as BadHeader, Line, State, Count, LabelLong, NotUtf8, TooManyStates, TooManyMoves, Memory}
use Rattle.aut_text.specs.Parts.{Parts, NamedMove, named_moves}
use Rattle.aut_text.specs.Grammar.{is_text, IsMoveLine, AreMoves, IsBegun, IsAut}
use Rattle.aut_text.specs.Faults.{IsHeaderFault, IsLineFault, IsHeadFault, IsLaterFault, RefusesAut}
use Rattle.aut_text.specs.Shown.{MeetsFault, IsUnderWay, IsTooLongAfter}
use Rattle.aut_text.specs.Pieces.{Standing, HasParts, StandsAfter, no_parts}
use Rattle.aut_text.specs.Reading.{AddsLine, ReadsHead, StepsBy, Steps, IsFaultBy, IsNextFault, too_long_by, IsFinished, IsMiscount}
use Rattle.aut_text.proofs.ReadLaws.{named_count, ended}
use Rattle.aut_text.proofs.OnceLaws.{head_excludes, blank_excludes, begun_once}
use Rattle.aut_text.proofs.FaultLaws.{blank_head, earlier_fault}
use Rattle.lts_base.specs.declared.limits.TheConstants.{MOST_LINE_BYTES, MOST_MOVES}

-- no line was read
pub StandsAfter-none : StandsAfter [] (record { head = None; parts = no_parts; number = 0 })
StandsAfter-none = record { number = refl; parts = (refl, refl) }

-- lists that agree item by item, with one more item at the end of each
AllZip-push : {A B : Type 0} (R : A → B → Type 0) (xs : List A) (ys : List B) (x : A) (y : B) → AllZip R xs ys → R x y → AllZip R (xs ++ x ∷ []) (ys ++ y ∷ [])
AllZip-push R [] [] x y are is = (is, tt)
AllZip-push R [] (b ∷ ys) x y are is = absurd are
AllZip-push R (a ∷ xs) [] x y are is = absurd are
AllZip-push R (a ∷ xs) (b ∷ ys) x y are is = (are.0, AllZip-push R xs ys x y are.1 is)

-- the moves with that of a line
pub adds_moves : (states : ℕ) (others : List (List ℕ)) (line : List ℕ) (moves new : List NamedMove) → AreMoves states others moves → AddsLine states line moves new → AreMoves states (others ++ line ∷ []) new
adds_moves states others line moves new are adds = rw (filter-append is_text others (line ∷ [])) (go adds)
  where
    go : AddsLine states line moves new → AllZip (IsMoveLine states) (filter is_text others ++ filter is_text (line ∷ [])) new
    go (inl (blank, same)) = rw (blank, same, append-nil (filter is_text others)) are
    go (inr (text, (m, is, longer, room))) = rw (text, longer) (AllZip-push (IsMoveLine states) (filter is_text others) moves line m are is)

pub adds_few : (states : ℕ) (line : List ℕ) (moves new : List NamedMove) → length moves ≤ MOST_MOVES → AddsLine states line moves new → length new ≤ MOST_MOVES
adds_few states line moves new few (inl (blank, same)) = rw same few
adds_few states line moves new few (inr (text, (m, is, longer, room))) = rw (longer, length_push moves m) (omega (arith, room))

-- the header, and the moves of a further line
pub under_way_head : (lines : List (List ℕ)) (line : List ℕ) (h : Header) → filter is_text lines ≡ [] → ReadsHead line (Some h) → IsUnderWay (lines ++ line ∷ []) h []
under_way_head lines line h blank (text, is) = record { blanks = lines; head = line; others = []; lines_are = refl; blank = blank; text = text; header = is; moves_are = tt; few = omega arith }

pub under_way_more : (lines : List (List ℕ)) (line : List ℕ) (h : Header) (moves new : List NamedMove) → IsUnderWay lines h moves → AddsLine h.states line moves new → IsUnderWay (lines ++ line ∷ []) h new
under_way_more lines line h moves new way adds = record {
  blanks = way.blanks;
  head = way.head;
  others = way.others ++ line ∷ [];
  lines_are = ap {A = List (List ℕ)} {B = List (List ℕ)} (λ t. t ++ line ∷ []) way.lines_are ∙ append_assoc way.blanks (way.head ∷ way.others) (line ∷ []);
  blank = way.blank;
  text = way.text;
  header = way.header;
  moves_are = adds_moves h.states way.others line moves new way.moves_are adds;
  few = adds_few h.states line moves new way.few adds;
}

-- a line more was read
pub StandsAfter-step : (lines : List (List ℕ)) (line : List ℕ) (s t : Standing) → StandsAfter lines s → Steps s line t → StandsAfter (lines ++ line ∷ []) t
StandsAfter-step lines line s t stands steps = record {
  number = steps.number ∙ rw (length_push lines line) (ap {A = ℕ} {B = ℕ} (λ n. n + 1) stands.number);
  parts = go s.head s.parts t.head t.parts stands.parts steps.parts;
}
  where
    go : (head : Option Header) (parts : Parts) (next : Option Header) (new : Parts) → HasParts lines head parts → StepsBy head parts line next new → HasParts (lines ++ line ∷ []) next new
    go None parts None new (blank, none) (not, same) = (filter-append is_text lines (line ∷ []) ∙ rw (blank, not) refl, same ∙ none)
    go None parts (Some h) new (blank, none) (reads, same) = rw (same ∙ none) (under_way_head lines line h blank reads)
    go (Some h) parts None new way (is, adds) = cc
    go (Some h) parts (Some k) new way (is, adds) =
        let same : k ≡ h = cc in
        rw same (under_way_more lines line h (named_moves parts) (named_moves new) way adds)

pub StandsAfter-head : (lines : List (List ℕ)) (line : List ℕ) (s : Standing) (head : Option Header) → StandsAfter lines s → s.head ≡ None → ReadsHead line head → StandsAfter (lines ++ line ∷ []) (record { head = head; parts = s.parts; number = s.number + 1 })
StandsAfter-head lines line s head stands none reads = StandsAfter-step lines line s (record { head = head; parts = s.parts; number = s.number + 1 }) stands (record { number = refl; parts = rw none (reads, refl) })

pub StandsAfter-move : (lines : List (List ℕ)) (line : List ℕ) (s : Standing) (h : Header) (parts : Parts) → StandsAfter lines s → s.head ≡ Some h → AddsLine h.states line (named_moves s.parts) (named_moves parts) → StandsAfter (lines ++ line ∷ []) (record { head = s.head; parts = parts; number = s.number + 1 })
StandsAfter-move lines line s h parts stands is adds = StandsAfter-step lines line s (record { head = s.head; parts = parts; number = s.number + 1 }) stands (record { number = refl; parts = rw is (refl, adds) })

-- the header and the moves of what stands
pub way_of : (lines : List (List ℕ)) (s : Standing) (h : Header) → StandsAfter lines s → s.head ≡ Some h → IsUnderWay lines h (named_moves s.parts)
way_of lines s h stands is = rw is at stands.parts

-- a blank line changes nothing but the number
pub Steps-blank : (line other : List ℕ) (s t : Standing) → is_text line ≡ false → is_text other ≡ false → Steps s line t → Steps s other t
Steps-blank line other s t blank also steps = record { number = steps.number; parts = go s.head s.parts t.head t.parts steps.parts }
  where
    adds : (states : ℕ) (old new : List NamedMove) → AddsLine states line old new → AddsLine states other old new
    adds states old new (inl (not, same)) = inl (also, same)
    adds states old new (inr (text, more)) = cc

    go : (head : Option Header) (parts : Parts) (next : Option Header) (new : Parts) → StepsBy head parts line next new → StepsBy head parts other next new
    go None parts None new (not, same) = (also, same)
    go None parts (Some h) new ((text, is), same) = cc
    go (Some h) parts next new (is, more) = (is, adds h.states (named_moves parts) (named_moves new) more)

-- what was read of a content begins it
pub begun_of : (content : List ℕ) (lines : List (List ℕ)) (line : List (List ℕ)) (h : Header) (moves : List NamedMove) → (way : IsUnderWay lines h moves) → lines_of content ≡ lines ++ line → IsBegun content h (length way.blanks + 1) (way.others ++ line)
begun_of content lines line h moves way split = record {
  head = way.head;
  headed = record {
    blanks = way.blanks;
    lines = split ∙ ap {A = List (List ℕ)} {B = List (List ℕ)} (λ t. t ++ line) way.lines_are ∙ append_assoc way.blanks (way.head ∷ way.others) line;
    blank = way.blank;
    text = way.text;
    number = refl;
  };
  header = way.header;
}

-- the line after the lines is at fault
pub head_at : (content : List ℕ) (lines : List (List ℕ)) (line : List ℕ) (more : List (List ℕ)) (e : AutError) → filter is_text lines ≡ [] → is_text line ≡ true → lines_of content ≡ lines ++ line ∷ more → IsHeaderFault line e → IsHeadFault content e
head_at content lines line more e blank text split fault = record {
  head = line;
  n = length lines + 1;
  others = more;
  headed = record { blanks = lines; lines = split; blank = blank; text = text; number = refl };
  fault = fault;
}

pub later_at : (content : List ℕ) (lines : List (List ℕ)) (line : List ℕ) (more : List (List ℕ)) (h : Header) (moves : List NamedMove) (e : AutError) → IsUnderWay lines h moves → is_text line ≡ true → lines_of content ≡ lines ++ line ∷ more → IsLineFault h.states (length moves) line (length lines + 1) e → IsLaterFault content e
later_at content lines line more h moves e way text split fault = record {
  h = h;
  n = length way.blanks + 1;
  others = way.others ++ line ∷ more;
  begun = begun_of content lines (line ∷ more) h moves way split;
  fault = record {
    good = way.others;
    bad = line;
    rest = more;
    moves = moves;
    lines_are = refl;
    moves_are = way.moves_are;
    few = way.few;
    text = text;
    fault = subst (λ (k : ℕ). IsLineFault h.states (length moves) line k e) count fault;
  };
}
  where
    count : length lines + 1 ≡ length way.blanks + 1 + length way.others + 1
    count =
        let all : length lines ≡ length way.blanks + length (way.head ∷ way.others) = ap {A = List (List ℕ)} {B = ℕ} length way.lines_are ∙ length-append way.blanks (way.head ∷ way.others) in
        omega (arith, all)

pub fault_meets : (content : List ℕ) (lines : List (List ℕ)) (line : List ℕ) (more : List (List ℕ)) (s : Standing) (e : AutError) → StandsAfter lines s → IsNextFault s line e → lines_of content ≡ lines ++ line ∷ more → MeetsFault content e
fault_meets content lines line more s e stands (text, fault) split = go s.head s.parts stands.parts fault
  where
    go : (head : Option Header) (parts : Parts) → HasParts lines head parts → IsFaultBy head parts (s.number + 1) line e → MeetsFault content e
    go None parts (blank, none) bad = inl (head_at content lines line more e blank text split bad)
    go (Some h) parts way bad = inr (later_at content lines line more h (named_moves parts) e way text split
        (subst (λ (k : ℕ). IsLineFault h.states (length (named_moves parts)) line k e) (ap {A = ℕ} {B = ℕ} (λ n. n + 1) stands.number)
        (subst (λ (k : ℕ). IsLineFault h.states k line (s.number + 1) e) (sym (named_count parts)) bad)))

-- the fault of a line that is too long
pub long_meets : (content : List ℕ) (lines : List (List ℕ)) (line : List ℕ) (more : List (List ℕ)) (e : AutError) → IsTooLongAfter lines e → MOST_LINE_BYTES < length line → is_text line ≡ true → lines_of content ≡ lines ++ line ∷ more → MeetsFault content e
long_meets content lines line more BadHeader blank long text split = inl (head_at content lines line more BadHeader blank text split (inl long))
long_meets content lines line more (Line n) (is, (h, moves, way)) long text split = inr (later_at content lines line more h moves (Line n) way text split (is, inl long))
long_meets content lines line more (State n) fault long text split = absurd fault
long_meets content lines line more (Count declared found) fault long text split = absurd fault
long_meets content lines line more (LabelLong n) fault long text split = absurd fault
long_meets content lines line more (NotUtf8 n) fault long text split = absurd fault
long_meets content lines line more TooManyStates fault long text split = absurd fault
long_meets content lines line more TooManyMoves fault long text split = absurd fault
long_meets content lines line more Memory fault long text split = absurd fault

pub long_after : (lines : List (List ℕ)) (s : Standing) → StandsAfter lines s → IsTooLongAfter lines (too_long_by s.head (s.number + 1))
long_after lines s stands = go s.head s.parts stands.parts
  where
    go : (head : Option Header) (parts : Parts) → HasParts lines head parts → IsTooLongAfter lines (too_long_by head (s.number + 1))
    go None parts (blank, none) = blank
    go (Some h) parts way = (ap {A = ℕ} {B = ℕ} (λ n. n + 1) stands.number, (h, named_moves parts, way))

-- a fault is met in more lines too
pub meets_more : (front content : List ℕ) (more : List (List ℕ)) (e : AutError) → lines_of content ≡ lines_of front ++ more → MeetsFault front e → MeetsFault content e
meets_more front content more e split (inl a) = inl (record {
  head = a.head;
  n = a.n;
  others = a.others ++ more;
  headed = record {
    blanks = a.headed.blanks;
    lines = split ∙ ap {A = List (List ℕ)} {B = List (List ℕ)} (λ t. t ++ more) a.headed.lines ∙ append_assoc a.headed.blanks (a.head ∷ a.others) more;
    blank = a.headed.blank;
    text = a.headed.text;
    number = a.headed.number;
  };
  fault = a.fault;
})
meets_more front content more e split (inr a) = inr (record {
  h = a.h;
  n = a.n;
  others = a.others ++ more;
  begun = record {
    head = a.begun.head;
    headed = record {
      blanks = a.begun.headed.blanks;
      lines = split ∙ ap {A = List (List ℕ)} {B = List (List ℕ)} (λ t. t ++ more) a.begun.headed.lines ∙ append_assoc a.begun.headed.blanks (a.begun.head ∷ a.others) more;
      blank = a.begun.headed.blank;
      text = a.begun.headed.text;
      number = a.begun.headed.number;
    };
    header = a.begun.header;
  };
  fault = record {
    good = a.fault.good;
    bad = a.fault.bad;
    rest = a.fault.rest ++ more;
    moves = a.fault.moves;
    lines_are = ap {A = List (List ℕ)} {B = List (List ℕ)} (λ t. t ++ more) a.fault.lines_are ∙ append_assoc a.fault.good (a.fault.bad ∷ a.fault.rest) more;
    moves_are = a.fault.moves_are;
    few = a.fault.few;
    text = a.fault.text;
    fault = a.fault.fault;
  };
})

-- a fault that is met is why the content is refused
pub meets_refuses : (content : List ℕ) (e : AutError) → MeetsFault content e → RefusesAut content e
meets_refuses content BadHeader (inl fault) = inr fault
meets_refuses content BadHeader (inr a) = absurd a.fault.fault
meets_refuses content TooManyStates (inl fault) = fault
meets_refuses content TooManyStates (inr a) = absurd a.fault.fault
meets_refuses content TooManyMoves fault = fault
meets_refuses content (Line n) (inl a) = absurd a.fault
meets_refuses content (Line n) (inr fault) = fault
meets_refuses content (NotUtf8 n) (inl a) = absurd a.fault
meets_refuses content (NotUtf8 n) (inr fault) = fault
meets_refuses content (State n) (inl a) = absurd a.fault
meets_refuses content (State n) (inr fault) = fault
meets_refuses content (LabelLong n) (inl a) = absurd a.fault
meets_refuses content (LabelLong n) (inr fault) = fault
meets_refuses content (Count declared found) (inl a) = absurd a.fault
meets_refuses content (Count declared found) (inr a) = absurd a.fault.fault
meets_refuses content Memory fault = tt

-- no fault is met among the lines of moves
pub later_clean : (content : List ℕ) (h : Header) (n : ℕ) (others : List (List ℕ)) (moves : List NamedMove) (e : AutError) → IsBegun content h n others → AreMoves h.states others moves → length moves ≤ MOST_MOVES → IsLaterFault content e → e ≡ Memory
later_clean content h n others moves e begun are few a =
    let same = begun_once content h a.h n a.n others a.others begun a.begun in
    let all : AreMoves a.h.states (a.fault.good ++ a.fault.bad ∷ a.fault.rest) moves =
    subst (λ (t : List (List ℕ)). AreMoves a.h.states t moves) (same.1 ∙ a.fault.lines_are)
    (subst (λ (k : Header). AreMoves k.states others moves) same.0 are) in
    earlier_fault a.h.states a.n a.others e a.fault a.fault.rest moves all few

-- the end of the content, whose lines were all read
pub stands_ended : (content : List ℕ) (s : Standing) (h : Header) (r : Result RawSystem AutError) → StandsAfter (lines_of content) s → s.head ≡ Some h →
    MatchResult r (IsFinished h s.parts) (λ e. (e ≡ Memory) ⊎ IsMiscount h s.parts e) → MatchResult r (IsAut content) (RefusesAut content)
stands_ended content s h r stands is built =
    let way = way_of (lines_of content) s h stands is in
    ended content h (length way.blanks + 1) (way.others ++ []) s.parts r (begun_of content (lines_of content) [] h (named_moves s.parts) way (sym (append-nil (lines_of content)))) (rw append-nil way.moves_are) (rw (← named_count s.parts) way.few) built

-- lines that were read meet no fault
pub stands_clean : (content : List ℕ) (s : Standing) (e : AutError) → StandsAfter (lines_of content) s → MeetsFault content e → e ≡ Memory
stands_clean content s e stands met = go s.head s.parts stands.parts met
  where
    go : (head : Option Header) (parts : Parts) → HasParts (lines_of content) head parts → MeetsFault content e → e ≡ Memory
    go None parts (blank, none) (inl a) = absurd (blank_head content e blank a)
    go None parts (blank, none) (inr a) = absurd (blank_excludes content a.h a.n a.others a.begun blank)
    go (Some h) parts way (inl a) = absurd (head_excludes content h (length way.blanks + 1) (way.others ++ []) e (begun_of content (lines_of content) [] h (named_moves parts) way (sym (append-nil (lines_of content)))) a)
    go (Some h) parts way (inr a) = later_clean content h (length way.blanks + 1) (way.others ++ []) (named_moves parts) e (begun_of content (lines_of content) [] h (named_moves parts) way (sym (append-nil (lines_of content)))) (rw append-nil way.moves_are) way.few a
