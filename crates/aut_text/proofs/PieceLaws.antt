-- A content that is read in pieces, wherever it is cut.
use Rattle.std.proofs.Common.{◌≡◌, ◌∙◌, ℕ, ◌+◌, ◌<◌, ◌≤◌, true, false, ◌==◌, List, [], ◌∷◌, ◌++◌, length, Some, None, ◌⊎◌, inl, inr, refl, sym, ap, arith, subst}
use Rattle.std.proofs.lemmas.List.{append-nil, append_assoc, length-append, same_from_push}
use Rattle.lts_base.proofs.ListLaws.{snoc_cases}
use Rattle.std.proofs.lemmas.Bool.{cases_Bool}
use Rattle.text_scan.specs.Cut.{Lacks, IsCut}
use Rattle.text_scan.specs.Lines.{lines_of}
use Rattle.text_scan.proofs.CutLaws.{differs, holds_mark}
use Rattle.text_scan.proofs.LineLaws.{lines_of-line, lines_of-last, lines_of-cut}
use Rattle.aut_text.specs.declared.error.AutError.{AutError}
use Rattle.aut_text.specs.declared.error.AutError.TheVariants.{Header as BadHeader, Line, State, Count, LabelLong, NotUtf8, TooManyStates, TooManyMoves, Memory}
use Rattle.aut_text.specs.Grammar.{is_text}
use Rattle.aut_text.specs.Faults.{RefusesAut}
use Rattle.aut_text.specs.Shown.{MeetsFault, IsEnded, ShowsInLines, ShowsTooLong, Shows, ShowsNone, IsShownOrMemory, IsTooLongAfter}
use Rattle.aut_text.specs.Pieces.{Standing, Kept, Pieces, IsKept, IsRead, StandsAfter, no_parts, Fed, HasRead}
use Rattle.aut_text.specs.Reading.{Steps, IsNextFault, too_long_by}
use Rattle.aut_text.proofs.TextLaws.{is_text-more, kept_same, kept_excludes, IsKept-new}
use Rattle.aut_text.proofs.ProgressLaws.{StandsAfter-none, StandsAfter-step, Steps-blank, fault_meets, long_meets, long_after, meets_more, meets_refuses, stands_clean}
use Rattle.lts_base.specs.declared.limits.TheConstants.{MOST_LINE_BYTES}

-- the lines of bytes that end with an LF and of what follows it
lines_front : (front rest : List ℕ) → (l : List ℕ) × (ls : List (List ℕ)) × (lines_of (front ++ 10 ∷ []) ≡ l ∷ ls) × (lines_of (front ++ 10 ∷ rest) ≡ l ∷ (ls ++ lines_of rest))
lines_front [] rest = ([], [], refl, refl)
lines_front (b ∷ front) rest =
    let (l, ls, short, long) = lines_front front rest in
    elim (cases_Bool (b == 10)) [
      | inl end ↦ ([], l ∷ ls, rw (end, short) refl, rw (end, long) refl)
      | inr other ↦ (b ∷ l, ls, rw (other, short) refl, rw (other, long) refl)
    ]

pub lines_of-ended : (whole rest : List ℕ) → IsEnded whole → lines_of (whole ++ rest) ≡ lines_of whole ++ lines_of rest
lines_of-ended whole rest (inl none) = rw none refl
lines_of-ended whole rest (inr (front, is)) =
    let (l, ls, short, long) = lines_front front rest in
    rw (is, append_assoc front (10 ∷ []) rest, short) long

-- the first line of bytes without an LF and of what follows them begins with these bytes
pub lines_of-front : (line rest : List ℕ) → (line ≡ [] → ⊥) → Lacks 10 line → (more : List ℕ) × (lines : List (List ℕ)) × (lines_of (line ++ rest) ≡ (line ++ more) ∷ lines)
lines_of-front [] rest some lacks = absurd (some refl)
lines_of-front (b ∷ []) rest some lacks = go (lines_of rest) refl
  where
    go : (lines : List (List ℕ)) → lines_of rest ≡ lines → (more : List ℕ) × (others : List (List ℕ)) × (lines_of (b ∷ rest) ≡ (b ∷ more) ∷ others)
    go [] is = ([], [], rw (differs b 10 lacks.0, is) refl)
    go (first ∷ others) is = (first, others, rw (differs b 10 lacks.0, is) refl)
lines_of-front (b ∷ c ∷ line) rest some lacks =
    let (more, lines, is) = lines_of-front (c ∷ line) rest (λ e. cc) lacks.1 in
    (more, lines, rw (differs b 10 lacks.0, is) refl)

pub Lacks-append : (xs ys : List ℕ) → Lacks 10 xs → Lacks 10 ys → Lacks 10 (xs ++ ys)
Lacks-append [] ys one two = two
Lacks-append (x ∷ xs) ys one two = (one.0, Lacks-append xs ys one.1 two)

-- whole lines at the front of other whole lines and an unfinished one are at the front of these
pub ended_front : (first rest whole line : List ℕ) → IsEnded first → Lacks 10 line → whole ++ line ≡ first ++ rest → (between : List ℕ) × (whole ≡ first ++ between) × (between ++ line ≡ rest)
ended_front first rest whole line (inl none) lacks joined = (whole, ap {A = List ℕ} {B = List ℕ} (λ t. t ++ whole) (sym none), joined ∙ ap {A = List ℕ} {B = List ℕ} (λ t. t ++ rest) none)
ended_front first rest whole line (inr (front, is)) lacks joined =
    let (between, front_is, back_is) = go front whole (joined ∙ ap {A = List ℕ} {B = List ℕ} (λ t. t ++ rest) is ∙ append_assoc front (10 ∷ []) rest) in
    (between, front_is ∙ sym (append_assoc front (10 ∷ []) between) ∙ ap {A = List ℕ} {B = List ℕ} (λ t. t ++ between) (sym is), back_is)
  where
    go : (xs ys : List ℕ) → ys ++ line ≡ xs ++ 10 ∷ rest → (between : List ℕ) × (ys ≡ xs ++ 10 ∷ between) × (between ++ line ≡ rest)
    go xs [] e = absurd (holds_mark 10 xs rest (rw e at lacks))
    go [] (y ∷ ys) e = let same : y ≡ 10 = cc in (ys, ap {A = ℕ} {B = List ℕ} (λ b. b ∷ ys) same, cc)
    go (x ∷ xs) (y ∷ ys) e =
        let same : y ≡ x = cc in
        let (between, front_is, back_is) = go xs ys cc in
        (between, cc, back_is)

-- what follows bytes in whole lines is whole lines
pub ended_back : (whole front back : List ℕ) → IsEnded whole → whole ≡ front ++ back → IsEnded back
ended_back whole front back ended joined = elim (snoc_cases back) [
  | inl none ↦ inl none
  | inr (before, last, is) ↦ inr (before, is ∙ ap {A = ℕ} {B = List ℕ} (λ b. before ++ b ∷ []) (go before last ended (joined ∙ ap {A = List ℕ} {B = List ℕ} (λ t. front ++ t) is ∙ sym (append_assoc front before (last ∷ [])))))
]
  where
    pushed : (xs : List ℕ) (x : ℕ) → xs ++ x ∷ [] ≡ [] → ⊥
    pushed [] x e = cc
    pushed (y ∷ xs) x e = cc

    go : (before : List ℕ) (last : ℕ) → IsEnded whole → whole ≡ (front ++ before) ++ last ∷ [] → last ≡ 10
    go before last (inl none) is = absurd (pushed (front ++ before) last (sym is ∙ none))
    go before last (inr (start, end)) is = sym ((same_from_push start (front ++ before) 10 last (sym end ∙ is)).1)

-- bytes without an LF at the front of bytes with one stand before it
pub lacks_front : (line rest front back : List ℕ) → Lacks 10 line → front ++ 10 ∷ back ≡ line ++ rest → (more : List ℕ) × (front ++ 10 ∷ [] ≡ line ++ more)
lacks_front [] rest front back lacks joined = (front ++ 10 ∷ [], refl)
lacks_front (b ∷ line) rest [] back lacks joined = let same : b ≡ 10 = cc in absurd (lacks.0 same)
lacks_front (b ∷ line) rest (c ∷ front) back lacks joined =
    let same : c ≡ b = cc in
    let (more, is) = lacks_front line rest front back lacks.1 cc in
    (more, cc)

-- a long text isn't empty
some_long : (line : List ℕ) → MOST_LINE_BYTES < length line → line ≡ [] → ⊥
some_long line long none = omega (arith, long, ap {A = List ℕ} {B = ℕ} length none)

-- a line that is too long and goes on meets its fault
long_front : (content whole line rest : List ℕ) (e : AutError) → content ≡ whole ++ (line ++ rest) → IsEnded whole → Lacks 10 line → MOST_LINE_BYTES < length line → is_text line ≡ true → IsTooLongAfter (lines_of whole) e → MeetsFault content e
long_front content whole line rest e joined ended lacks long text fault =
    let (more, lines, is) = lines_of-front line rest (some_long line long) lacks in
    let split : lines_of content ≡ lines_of whole ++ (line ++ more) ∷ lines = ap lines_of joined ∙ lines_of-ended whole (line ++ rest) ended ∙ ap {A = List (List ℕ)} {B = List (List ℕ)} (λ t. lines_of whole ++ t) is in
    long_meets content (lines_of whole) (line ++ more) lines e fault (rw length-append (omega (arith, long))) (is_text-more line more text) split

-- a fault that is shown is met
pub shown_meets : (content : List ℕ) (e : AutError) → Shows content e → MeetsFault content e
shown_meets content e (other, inl a) = meets_more a.whole content (lines_of a.rest) e (ap lines_of a.joined ∙ lines_of-ended a.whole a.rest a.ended) a.fault
shown_meets content e (other, inr a) = long_front content a.whole a.line a.rest e a.joined a.ended a.unfinished a.long a.text a.fault

pub shown_refuses : (content : List ℕ) (e : AutError) → Shows content e → RefusesAut content e
shown_refuses content e shown = meets_refuses content e (shown_meets content e shown)

-- a fault that is shown stays shown
pub shown_more : (content more : List ℕ) (e : AutError) → Shows content e → Shows (content ++ more) e
shown_more content more e (other, inl a) = (
  other,
  inl (record {
    whole = a.whole;
    rest = a.rest ++ more;
    joined = ap {A = List ℕ} {B = List ℕ} (λ t. t ++ more) a.joined ∙ append_assoc a.whole a.rest more;
    ended = a.ended;
    fault = a.fault;
  }),
)
shown_more content more e (other, inr a) = (
  other,
  inr (record {
    whole = a.whole;
    line = a.line;
    rest = a.rest ++ more;
    joined = ap {A = List ℕ} {B = List ℕ} (λ t. t ++ more) a.joined ∙ append_assoc a.whole (a.line ++ a.rest) more ∙ ap {A = List ℕ} {B = List ℕ} (λ t. a.whole ++ t) (append_assoc a.line a.rest more);
    ended = a.ended;
    unfinished = a.unfinished;
    long = a.long;
    text = a.text;
    fault = a.fault;
  }),
)

pub or_more : (content more : List ℕ) (e : AutError) → IsShownOrMemory content e → IsShownOrMemory (content ++ more) e
or_more content more e (inl memory) = inl memory
or_more content more e (inr shown) = inr (shown_more content more e shown)

pub or_refuses : (content : List ℕ) (e : AutError) → IsShownOrMemory content e → RefusesAut content e
or_refuses content e (inl memory) = rw memory tt
or_refuses content e (inr shown) = shown_refuses content e shown

-- what was read shows no fault
pub read_none : (content : List ℕ) (p : Pieces) → IsRead content p → ShowsNone content
read_none content p read e (other, inl a) =
    let (between, front_is, back_is) = ended_front a.whole a.rest read.whole read.line a.ended read.unfinished (sym read.joined ∙ a.joined) in
    other (stands_clean read.whole p.standing e read.stands (meets_more a.whole read.whole (lines_of between) e (ap lines_of front_is ∙ lines_of-ended a.whole between a.ended) a.fault))
read_none content p read e (other, inr a) =
    let (between, front_is, back_is) = ended_front a.whole (a.line ++ a.rest) read.whole read.line a.ended read.unfinished (sym read.joined ∙ a.joined) in
    go between front_is back_is (ended_back read.whole a.whole between read.ended front_is)
  where
    go : (between : List ℕ) → read.whole ≡ a.whole ++ between → between ++ read.line ≡ a.line ++ a.rest → IsEnded between → ⊥
    go between front_is back_is (inl none) =
        let line_is : read.line ≡ a.line ++ a.rest = rw none at back_is in
        kept_excludes read.line p.kept read.kept (rw (line_is, length-append) (omega (arith, a.long))) (rw line_is (is_text-more a.line a.rest a.text))
    go between front_is back_is (inr (front, is)) =
        let joined : front ++ 10 ∷ read.line ≡ a.line ++ a.rest = sym (append_assoc front (10 ∷ []) read.line) ∙ ap {A = List ℕ} {B = List ℕ} (λ t. t ++ read.line) (sym is) ∙ back_is in
        let (more, more_is) = lacks_front a.line a.rest front read.line a.unfinished joined in
        other (stands_clean read.whole p.standing e read.stands (long_front read.whole a.whole a.line more e (front_is ∙ ap {A = List ℕ} {B = List ℕ} (λ t. a.whole ++ t) (is ∙ more_is)) a.ended a.unfinished a.long a.text a.fault))

-- nothing was read yet
pub IsRead-none : IsRead [] (record { standing = record { head = None; parts = no_parts; number = 0 }; kept = record { bytes = []; skipped = false } })
IsRead-none = record { whole = []; line = []; joined = refl; ended = inl refl; unfinished = tt; stands = StandsAfter-none; kept = IsKept-new }

-- the unfinished line goes on
pub IsRead-add : (content bytes : List ℕ) (p : Pieces) (k : Kept) → IsRead content p → Lacks 10 bytes → ((line : List ℕ) → IsKept line p.kept → IsKept (line ++ bytes) k) → IsRead (content ++ bytes) (record { standing = p.standing; kept = k })
IsRead-add content bytes p k read lacks goes = record {
  whole = read.whole;
  line = read.line ++ bytes;
  joined = ap {A = List ℕ} {B = List ℕ} (λ t. t ++ bytes) read.joined ∙ append_assoc read.whole read.line bytes;
  ended = read.ended;
  unfinished = Lacks-append read.line bytes read.unfinished lacks;
  stands = read.stands;
  kept = goes read.line read.kept;
}

is_memory : (e : AutError) → (e ≡ Memory) ⊎ (e ≡ Memory → ⊥)
is_memory Memory = inl refl
is_memory BadHeader = inr (λ e. cc)
is_memory (Line n) = inr (λ e. cc)
is_memory (State n) = inr (λ e. cc)
is_memory (Count declared found) = inr (λ e. cc)
is_memory (LabelLong n) = inr (λ e. cc)
is_memory (NotUtf8 n) = inr (λ e. cc)
is_memory TooManyStates = inr (λ e. cc)
is_memory TooManyMoves = inr (λ e. cc)

or_shown : (content : List ℕ) (e : AutError) → (ShowsInLines content e ⊎ ShowsTooLong content e) → IsShownOrMemory content e
or_shown content e shows = elim (is_memory e) [
  | inl memory ↦ inl memory
  | inr other ↦ inr (other, shows)
]

-- the unfinished line is too long with these bytes
pub IsRead-long : (content bytes : List ℕ) (p : Pieces) → IsRead content p → Lacks 10 bytes → ((line : List ℕ) → IsKept line p.kept → (MOST_LINE_BYTES < length (line ++ bytes)) × (is_text (line ++ bytes) ≡ true)) → IsShownOrMemory (content ++ bytes) (too_long_by p.standing.head (p.standing.number + 1))
IsRead-long content bytes p read lacks over =
    let (long, text) = over read.line read.kept in
    or_shown (content ++ bytes) (too_long_by p.standing.head (p.standing.number + 1)) (inr (record {
      whole = read.whole;
      line = read.line ++ bytes;
      rest = [];
      joined = ap {A = List ℕ} {B = List ℕ} (λ t. t ++ bytes) read.joined ∙ append_assoc read.whole read.line bytes ∙ ap {A = List ℕ} {B = List ℕ} (λ t. read.whole ++ t) (sym (append-nil (read.line ++ bytes)));
      ended = read.ended;
      unfinished = Lacks-append read.line bytes read.unfinished lacks;
      long = long;
      text = text;
      fault = long_after (lines_of read.whole) p.standing read.stands;
    }))

-- a whole line after whole lines
ended_line : (whole line : List ℕ) → IsEnded (whole ++ (line ++ 10 ∷ []))
ended_line whole line = inr (whole ++ line, sym (append_assoc whole line (10 ∷ [])))

lines_line : (whole line : List ℕ) → IsEnded whole → Lacks 10 line → lines_of (whole ++ (line ++ 10 ∷ [])) ≡ lines_of whole ++ line ∷ []
lines_line whole line ended lacks = lines_of-ended whole (line ++ 10 ∷ []) ended ∙ ap {A = List (List ℕ)} {B = List (List ℕ)} (λ t. lines_of whole ++ t) (lines_of-line line [] lacks)

pub line_stands : (whole line : List ℕ) (s t : Standing) → IsEnded whole → Lacks 10 line → StandsAfter (lines_of whole) s → Steps s line t → StandsAfter (lines_of (whole ++ (line ++ 10 ∷ []))) t
line_stands whole line s t ended lacks stands steps = rw (lines_line whole line ended lacks) (StandsAfter-step (lines_of whole) line s t stands steps)

pub line_shown : (whole line : List ℕ) (s : Standing) (e : AutError) → IsEnded whole → Lacks 10 line → StandsAfter (lines_of whole) s → IsNextFault s line e → IsShownOrMemory (whole ++ (line ++ 10 ∷ [])) e
line_shown whole line s e ended lacks stands fault = or_shown (whole ++ (line ++ 10 ∷ [])) e (inl (record {
  whole = whole ++ (line ++ 10 ∷ []);
  rest = [];
  joined = sym (append-nil (whole ++ (line ++ 10 ∷ [])));
  ended = ended_line whole line;
  fault = fault_meets (whole ++ (line ++ 10 ∷ [])) (lines_of whole) line [] s e stands fault (lines_line whole line ended lacks);
}))

-- the step of what is kept is the step of the line
kept_steps : (line : List ℕ) (k : Kept) (s t : Standing) → IsKept line k → Steps s k.bytes t → Steps s line t
kept_steps line k s t kept steps = elim (kept_same line k kept) [
  | inl same ↦ rw same steps
  | inr (blank, also) ↦ Steps-blank k.bytes line s t also blank steps
]

kept_fault : (line : List ℕ) (k : Kept) (s : Standing) (e : AutError) → IsKept line k → IsNextFault s k.bytes e → IsNextFault s line e
kept_fault line k s e kept fault = elim (kept_same line k kept) [
  | inl same ↦ rw same fault
  | inr (blank, also) ↦ let text = fault.0 in cc
]

-- the unfinished line ends
pub IsRead-close : (content : List ℕ) (p : Pieces) (t : Standing) → IsRead content p → Steps p.standing p.kept.bytes t → IsRead (content ++ 10 ∷ []) (record { standing = t; kept = record { bytes = []; skipped = false } })
IsRead-close content p t read steps = record {
  whole = read.whole ++ (read.line ++ 10 ∷ []);
  line = [];
  joined = ap {A = List ℕ} {B = List ℕ} (λ t. t ++ 10 ∷ []) read.joined ∙ append_assoc read.whole read.line (10 ∷ []) ∙ sym (append-nil (read.whole ++ (read.line ++ 10 ∷ [])));
  ended = ended_line read.whole read.line;
  unfinished = tt;
  stands = line_stands read.whole read.line p.standing t read.ended read.unfinished read.stands (kept_steps read.line p.kept p.standing t read.kept steps);
  kept = IsKept-new;
}

pub close_fault : (content : List ℕ) (p : Pieces) (e : AutError) → IsRead content p → IsNextFault p.standing p.kept.bytes e → IsShownOrMemory (content ++ 10 ∷ []) e
close_fault content p e read fault = rw (read.joined, append_assoc read.whole read.line (10 ∷ [])) (line_shown read.whole read.line p.standing e read.ended read.unfinished read.stands (kept_fault read.line p.kept p.standing e read.kept fault))

-- a line that begins and ends in one piece
pub IsRead-line : (content line : List ℕ) (p : Pieces) (t : Standing) → IsRead content p → ((before : List ℕ) → IsKept before p.kept → before ≡ []) → Lacks 10 line → Steps p.standing line t → IsRead (content ++ (line ++ 10 ∷ [])) (record { standing = t; kept = p.kept })
IsRead-line content line p t read empty lacks steps =
    let none : read.line ≡ [] = empty read.line read.kept in
    let whole : content ≡ read.whole = read.joined ∙ ap {A = List ℕ} {B = List ℕ} (λ t. read.whole ++ t) none ∙ append-nil read.whole in
    record {
      whole = read.whole ++ (line ++ 10 ∷ []);
      line = [];
      joined = ap {A = List ℕ} {B = List ℕ} (λ t. t ++ (line ++ 10 ∷ [])) whole ∙ sym (append-nil (read.whole ++ (line ++ 10 ∷ [])));
      ended = ended_line read.whole line;
      unfinished = tt;
      stands = line_stands read.whole line p.standing t read.ended lacks read.stands steps;
      kept = rw none at read.kept;
    }

pub line_fault : (content line : List ℕ) (p : Pieces) (e : AutError) → IsRead content p → ((before : List ℕ) → IsKept before p.kept → before ≡ []) → Lacks 10 line → IsNextFault p.standing line e → IsShownOrMemory (content ++ (line ++ 10 ∷ [])) e
line_fault content line p e read empty lacks fault =
    let none : read.line ≡ [] = empty read.line read.kept in
    let whole : content ≡ read.whole = read.joined ∙ ap {A = List ℕ} {B = List ℕ} (λ t. read.whole ++ t) none ∙ append-nil read.whole in
    rw whole (line_shown read.whole line p.standing e read.ended lacks read.stands fault)

-- the content ends
pub last_none : (content : List ℕ) (p : Pieces) → IsRead content p → ((before : List ℕ) → IsKept before p.kept → before ≡ []) → StandsAfter (lines_of content) p.standing
last_none content p read empty =
    let whole : content ≡ read.whole = read.joined ∙ ap {A = List ℕ} {B = List ℕ} (λ t. read.whole ++ t) (empty read.line read.kept) ∙ append-nil read.whole in
    rw whole read.stands

lines_last : (content : List ℕ) (p : Pieces) → (read : IsRead content p) → (read.line ≡ [] → ⊥) → lines_of content ≡ lines_of read.whole ++ read.line ∷ []
lines_last content p read some = ap lines_of read.joined ∙ lines_of-ended read.whole read.line read.ended ∙ ap {A = List (List ℕ)} {B = List (List ℕ)} (λ t. lines_of read.whole ++ t) (lines_of-last read.line some read.unfinished)

pub last_line : (content : List ℕ) (p : Pieces) (t : Standing) → IsRead content p → ((before : List ℕ) → IsKept before p.kept → before ≡ [] → ⊥) → Steps p.standing p.kept.bytes t → StandsAfter (lines_of content) t
last_line content p t read some steps = rw (lines_last content p read (some read.line read.kept)) (StandsAfter-step (lines_of read.whole) read.line p.standing t read.stands (kept_steps read.line p.kept p.standing t read.kept steps))

pub last_fault : (content : List ℕ) (p : Pieces) (e : AutError) → IsRead content p → ((before : List ℕ) → IsKept before p.kept → before ≡ [] → ⊥) → IsNextFault p.standing p.kept.bytes e → RefusesAut content e
last_fault content p e read some fault = meets_refuses content e (fault_meets content (lines_of read.whole) read.line [] p.standing e read.stands (kept_fault read.line p.kept p.standing e read.kept fault) (lines_last content p read (some read.line read.kept)))

-- a reader that wasn't stopped, and one that was
pub open_read : (content : List ℕ) (r : Fed) → r.stopped ≡ None → HasRead content r → IsRead content r.pieces
open_read content r is read = rw is at read

pub stopped_shown : (content : List ℕ) (r : Fed) (e : AutError) → r.stopped ≡ Some e → HasRead content r → IsShownOrMemory content e
stopped_shown content r e is read = rw is at read

pub stopped_more : (content more : List ℕ) (r : Fed) (e : AutError) → r.stopped ≡ Some e → HasRead content r → HasRead (content ++ more) r
stopped_more content more r e is read = rw is (or_more content more e (stopped_shown content r e is read))

-- of the first pieces of a piece: they were read, and there is room for the lines of the rest
pub record IsTaken (old : Pieces) (piece rest : List ℕ) (now : Pieces) : Type 0 where
  pub done : List ℕ
  pub joined : piece ≡ done ++ rest
  pub read : (content : List ℕ) → IsRead content old → IsRead (content ++ done) now
  pub room : now.standing.number + length (lines_of rest) ≤ old.standing.number + length (lines_of piece)

pub IsTaken-none : (old : Pieces) (piece : List ℕ) → IsTaken old piece piece old
IsTaken-none old piece = record { done = []; joined = refl; read = λ content read. rw append-nil read; room = omega arith }

pub IsTaken-step : (old now next : Pieces) (piece rest line after : List ℕ) → IsTaken old piece rest now → IsCut 10 rest line after →
    ((content : List ℕ) → IsRead content now → IsRead (content ++ (line ++ 10 ∷ [])) next) → next.standing.number ≡ now.standing.number + 1 → IsTaken old piece after next
IsTaken-step old now next piece rest line after taken cut goes number = record {
  done = taken.done ++ (line ++ 10 ∷ []);
  joined = taken.joined ∙ ap {A = List ℕ} {B = List ℕ} (λ t. taken.done ++ t) (cut.whole ∙ sym (append_assoc line (10 ∷ []) after)) ∙ sym (append_assoc taken.done (line ++ 10 ∷ []) after);
  read = λ content read. subst (λ (t : List ℕ). IsRead t next) (append_assoc content taken.done (line ++ 10 ∷ [])) (goes (content ++ taken.done) (taken.read content read));
  room = IsTaken-room rest line after now.standing.number next.standing.number old.standing.number (length (lines_of piece)) cut number taken.room;
}
  where
    IsTaken-room : (rest line after : List ℕ) (n m k long : ℕ) → IsCut 10 rest line after → m ≡ n + 1 → n + length (lines_of rest) ≤ k + long → m + length (lines_of after) ≤ k + long
    IsTaken-room rest line after n m k long cut number room =
        let count : length (lines_of rest) ≡ length (line ∷ lines_of after) = ap {A = List (List ℕ)} {B = ℕ} length (lines_of-cut rest line after cut) in
        omega (arith, count, number, room)

-- a line of the rest has its number
pub cut_lines : (rest line after : List ℕ) → IsCut 10 rest line after → length (lines_of rest) ≡ length (lines_of after) + 1
cut_lines rest line after cut = ap {A = List (List ℕ)} {B = ℕ} length (lines_of-cut rest line after cut) ∙ omega arith

-- the fault of a whole line of the piece is one of the content with it
pub taken_fault : (old now : Pieces) (piece rest line after content : List ℕ) (e : AutError) → (taken : IsTaken old piece rest now) → IsCut 10 rest line after → IsShownOrMemory ((content ++ taken.done) ++ (line ++ 10 ∷ [])) e → IsShownOrMemory (content ++ piece) e
taken_fault old now piece rest line after content e taken cut shown =
    let rest_is : rest ≡ (line ++ 10 ∷ []) ++ after = cut.whole ∙ sym (append_assoc line (10 ∷ []) after) in
    let joined : ((content ++ taken.done) ++ (line ++ 10 ∷ [])) ++ after ≡ content ++ piece =
    append_assoc (content ++ taken.done) (line ++ 10 ∷ []) after ∙ ap {A = List ℕ} {B = List ℕ} (λ t. (content ++ taken.done) ++ t) (sym rest_is)
    ∙ append_assoc content taken.done rest ∙ ap {A = List ℕ} {B = List ℕ} (λ t. content ++ t) (sym taken.joined) in
    subst (λ (t : List ℕ). IsShownOrMemory t e) joined (or_more ((content ++ taken.done) ++ (line ++ 10 ∷ [])) after e shown)

-- the rest of the piece after its whole lines
pub taken_all : (old now : Pieces) (piece rest content : List ℕ) → (taken : IsTaken old piece rest now) → (content ++ taken.done) ++ rest ≡ content ++ piece
taken_all old now piece rest content taken = append_assoc content taken.done rest ∙ ap {A = List ℕ} {B = List ℕ} (λ t. content ++ t) (sym taken.joined)
