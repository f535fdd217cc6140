-- What is printed of a system is a file of it.
use Rattle.std.proofs.Common.{◌≡◌, ◌∙◌, ℕ, zero, suc, ◌<◌, ◌≤◌, true, false, List, [], ◌∷◌, ◌++◌, length, map, filter, get_or, Bool, ◌||◌, Option, option_map, Contains, refl, sym, ap, arith, All, Some, None, decimal, codes, subst}
use Rattle.std.specs.List.{AllZip, flat_map}
use Rattle.std.specs.Str.{bytes_eq}
use Rattle.std.proofs.lemmas.Bool.{false≢true}
use Rattle.std.proofs.lemmas.List.{append_assoc, length-map}
use Rattle.std.proofs.lemmas.Str.{IsUtf8-nil}
use Rattle.lts_base.specs.declared.action.Act.{Act}
use Rattle.lts_base.specs.declared.action.Act.TheVariants.{Tau, Label}
use Rattle.lts_base.specs.declared.action.Move.{Move}
use Rattle.lts_base.specs.declared.raw.RawMove.{RawMove}
use Rattle.lts_base.specs.declared.sorting.Rule.{Rule}
use Rattle.lts_base.specs.Raw.{RawSystem}
use Rattle.lts_base.specs.Sorting.{IsAlphabetOf, IsGoodLabel, all_labels}
use Rattle.lts_base.specs.System.{System, IsSystem, IsMoveOf, IsActOf, label_count}
use Rattle.lts_base.specs.Alphabet.{Alphabet, IsAlphabet, IsOver, IsLabel, text_at}
use Rattle.text_scan.specs.Decimal.{IsDecimal}
use Rattle.text_scan.specs.Lines.{lines_of}
use Rattle.text_scan.proofs.LineLaws.{lines_of-line}
use Rattle.aut_text.specs.declared.header.Header.{Header}
use Rattle.aut_text.specs.Parts.{named}
use Rattle.aut_text.specs.Form.{visible}
use Rattle.aut_text.specs.Grammar.{is_text, IsHeaderLine, IsMoveLine, AreMoves, IsBegun, IsAut}
use Rattle.aut_text.specs.Printed.{act_text, act_label, line_text, header_text, printed, named_move, Says, IsWritable, AreWritable, FitsFile}
use Rattle.aut_text.proofs.SpellingLaws.{IsUtf8-add, decimal_is, header_line, header_of, move_line, move_of, header_cr, move_cr, header_text_is, move_text_is, header_lacks, move_lacks, header_utf8, move_utf8, header_short, move_short}
use Rattle.lts_base.specs.declared.limits.TheConstants.{MOST_MOVES, MOST_STATES}

-- what a move of a file with so many states asks
pub record IsPrintable (texts : List (List ℕ)) (states : ℕ) (m : Move) : Type 0 where
  pub from : m.from < states
  pub to : m.to < states
  pub label : IsLabel (act_text texts m.act)
  pub seen : visible (act_text texts m.act) ≡ act_label texts m.act

-- the line of a move, without its LF
abbrev pub line_of : List (List ℕ) → Move → List ℕ
line_of texts m = move_line (decimal m.from) (act_text texts m.act) (decimal m.to)

-- the header and what follows it, and a move and what follows it
pub header_joined : (s : System) (rest : List ℕ) → header_text s ++ rest ≡ header_line (decimal s.start) (decimal (length s.moves)) (decimal s.states) ++ 10 ∷ rest
header_joined s rest = go (decimal s.start) (decimal (length s.moves)) (decimal s.states)
  where
    go : (a b c : List ℕ) → (codes "des (" ++ a ++ codes "," ++ b ++ codes "," ++ c ++ codes ")\n") ++ rest ≡ header_line a b c ++ 10 ∷ rest
    go a b c = simp append_assoc

pub line_joined : (texts : List (List ℕ)) (m : Move) (rest : List ℕ) → line_text texts m ++ rest ≡ line_of texts m ++ 10 ∷ rest
line_joined texts m rest = go (decimal m.from) (act_text texts m.act) (decimal m.to)
  where
    go : (a l b : List ℕ) → (codes "(" ++ a ++ codes ",\"" ++ l ++ codes "\"," ++ b ++ codes ")\n") ++ rest ≡ move_line a l b ++ 10 ∷ rest
    go a l b = simp append_assoc

-- the word for Tau has the form of a label
pub tau_label : IsLabel (codes "tau")
tau_label = record { some = omega arith; short = omega arith; plain = plain; utf8 = IsUtf8-add 116 _ (omega arith) (IsUtf8-add 97 _ (omega arith) (IsUtf8-add 117 _ (omega arith) IsUtf8-nil)) }
  where
    plain : All (λ b. 32 ≤ b) (codes "tau")
    plain zero d below = omega arith
    plain (suc zero) d below = omega arith
    plain (suc (suc zero)) d below = omega arith
    plain (suc (suc (suc k))) d below = absurd (omega (arith, below))

-- each move of a system over an alphabet of writable labels is printable
pub printable : (texts : List (List ℕ)) (states : ℕ) (m : Move) → All IsLabel texts → AreWritable texts → IsMoveOf states (length texts) m → IsPrintable texts states m
printable texts states m labels writable is = record { from = is.from; to = is.to; label = text m.act is.act; seen = seen m.act is.act }
  where
    text : (act : Act) → IsActOf (length texts) act → IsLabel (act_text texts act)
    text Tau is = tau_label
    text (Label k) below = labels k [] below

    seen : (act : Act) → IsActOf (length texts) act → visible (act_text texts act) ≡ act_label texts act
    seen Tau is = refl
    seen (Label k) below = let own = writable k [] below in rw (own.no_i, own.no_tau) refl

-- the lines of a move and of a header are as the grammar wants them
pub move_line_is : (texts : List (List ℕ)) (states : ℕ) (m : Move) → states ≤ MOST_STATES → IsPrintable texts states m → IsMoveLine states (line_of texts m) (named_move texts m)
move_line_is texts states m few is =
    let from : IsDecimal (decimal m.from) m.from = decimal_is m.from (omega (arith, is.from, few)) in
    let to : IsDecimal (decimal m.to) m.to = decimal_is m.to (omega (arith, is.to, few)) in
    record {
      written = record { from = m.from; label = act_text texts m.act; to = m.to };
      line_is = record {
        clean = record {
          short = move_short (decimal m.from) (act_text texts m.act) (decimal m.to) from.short is.label.short to.short;
          utf8 = rw (move_cr (decimal m.from) (act_text texts m.act) (decimal m.to)) (move_utf8 (decimal m.from) (act_text texts m.act) (decimal m.to) from.digits is.label.utf8 to.digits);
        };
        form = rw (move_cr (decimal m.from) (act_text texts m.act) (decimal m.to)) (move_of (record { from = m.from; label = act_text texts m.act; to = m.to }) (decimal m.from) (decimal m.to) from is.label to);
        from = is.from;
        to = is.to;
        label = is.label.short;
      };
      is = rw (is.seen) refl;
    }

pub header_line_is : (h : Header) → h.states ≤ MOST_STATES → h.transitions ≤ MOST_MOVES → h.start < h.states → IsHeaderLine (header_line (decimal h.start) (decimal h.transitions) (decimal h.states)) h
header_line_is h states transitions start =
    let a : IsDecimal (decimal h.start) h.start = decimal_is h.start (omega (arith, start, states)) in
    let b : IsDecimal (decimal h.transitions) h.transitions = decimal_is h.transitions (omega (arith, transitions)) in
    let c : IsDecimal (decimal h.states) h.states = decimal_is h.states (omega (arith, states)) in
    record {
      clean = record {
        short = header_short (decimal h.start) (decimal h.transitions) (decimal h.states) a.short b.short c.short;
        utf8 = rw (header_cr (decimal h.start) (decimal h.transitions) (decimal h.states)) (header_utf8 (decimal h.start) (decimal h.transitions) (decimal h.states) a.digits b.digits c.digits);
      };
      form = rw (header_cr (decimal h.start) (decimal h.transitions) (decimal h.states)) (header_of h (decimal h.start) (decimal h.transitions) (decimal h.states) a b c);
      states = states;
      transitions = transitions;
      start = start;
    }

-- the lines after the header are those of the moves, one by one
pub moves_again : (texts : List (List ℕ)) (states : ℕ) (ms : List Move) → states ≤ MOST_STATES → All (IsPrintable texts states) ms → AreMoves states (lines_of (flat_map (line_text texts) ms)) (map (named_move texts) ms)
moves_again texts states [] few all = tt
moves_again texts states (m ∷ ms) few all =
    let is : IsPrintable texts states m = all zero m (omega arith) in
    let from : IsDecimal (decimal m.from) m.from = decimal_is m.from (omega (arith, is.from, few)) in
    let to : IsDecimal (decimal m.to) m.to = decimal_is m.to (omega (arith, is.to, few)) in
    let lines : lines_of (line_text texts m ++ flat_map (line_text texts) ms) ≡ line_of texts m ∷ lines_of (flat_map (line_text texts) ms) =
    ap lines_of (line_joined texts m (flat_map (line_text texts) ms)) ∙ lines_of-line (line_of texts m) (flat_map (line_text texts) ms) (move_lacks (decimal m.from) (act_text texts m.act) (decimal m.to) from.digits is.label.plain to.digits) in
    let text : is_text (line_of texts m) ≡ true = move_text_is (decimal m.from) (act_text texts m.act) (decimal m.to) in
    let kept : filter is_text (line_of texts m ∷ lines_of (flat_map (line_text texts) ms)) ≡ line_of texts m ∷ filter is_text (lines_of (flat_map (line_text texts) ms)) = rw text refl in
    subst (λ (t : List (List ℕ)). AllZip (IsMoveLine states) t (map (named_move texts) (m ∷ ms))) (sym (ap (filter is_text) lines ∙ kept))
    (move_line_is texts states m few is, moves_again texts states ms few (λ k d below. all (suc k) d (omega (arith, below))))

-- the printed text begins with the header's line
pub begun_again : (a : Alphabet) (s : System) → s.start < s.states → FitsFile s → IsBegun (printed a s) (record { start = s.start; transitions = length s.moves; states = s.states }) 1 (lines_of (flat_map (line_text a.texts) s.moves))
begun_again a s inside fits =
    let start : IsDecimal (decimal s.start) s.start = decimal_is s.start (omega (arith, inside, fits.states)) in
    let transitions : IsDecimal (decimal (length s.moves)) (length s.moves) = decimal_is (length s.moves) (omega (arith, fits.moves)) in
    let states : IsDecimal (decimal s.states) s.states = decimal_is s.states (omega (arith, fits.states)) in
    record {
      head = header_line (decimal s.start) (decimal (length s.moves)) (decimal s.states);
      headed = record {
        blanks = [];
        lines = ap lines_of (header_joined s (flat_map (line_text a.texts) s.moves)) ∙ lines_of-line (header_line (decimal s.start) (decimal (length s.moves)) (decimal s.states)) (flat_map (line_text a.texts) s.moves) (header_lacks (decimal s.start) (decimal (length s.moves)) (decimal s.states) start.digits transitions.digits states.digits);
        blank = refl;
        text = header_text_is (decimal s.start) (decimal (length s.moves)) (decimal s.states);
        number = refl;
      };
      header = header_line_is (record { start = s.start; transitions = length s.moves; states = s.states }) fits.states fits.moves inside;
    }

-- the text of a system that a file has room for is a file of it, where no label is one of those for Tau
pub printed_is_aut : (a : Alphabet) (s : System) (r : RawSystem) → IsAlphabet a → IsOver a s → IsSystem s → AreWritable a.texts → FitsFile s → Says a s r → IsAut (printed a s) r
printed_is_aut a s r alphabet over system writable fits says =
    let count : label_count s ≡ length a.texts = omega (arith, over.inputs, over.outputs, alphabet.inputs) in
    let all : All (IsPrintable a.texts s.states) s.moves = λ k d below. printable a.texts s.states (get_or s.moves k d) alphabet.labels writable (subst (λ (n : ℕ). IsMoveOf s.states n (get_or s.moves k d)) count (system.moves k d below)) in
    let moves : length r.moves ≡ length s.moves = sym (length-map r.moves (named r.labels)) ∙ ap length (says.moves) ∙ length-map s.moves (named_move a.texts) in
    record {
      h = record { start = s.start; transitions = length s.moves; states = s.states };
      n = 1;
      others = lines_of (flat_map (line_text a.texts) s.moves);
      begun = begun_again a s system.start fits;
      start = says.start;
      states = says.states;
      moves = rw (says.moves) (moves_again a.texts s.states s.moves fits.states all);
      count = moves;
    }

-- a label that a rule lets through is writable, since none that is reserved is let through
pub good_writable : (rule : Rule) (text : List ℕ) → IsGoodLabel rule text → IsWritable text
good_writable rule text good =
    let (no_i, no_tau) = apart (bytes_eq text (codes "delta")) (bytes_eq text (codes "i")) (bytes_eq text (codes "tau")) (good.free) in
    record { no_i = no_i; no_tau = no_tau }
  where
    apart : (x y z : Bool) → (x || y || z) ≡ false → (y ≡ false) × (z ≡ false)
    apart true y z e = absurd (false≢true (sym e))
    apart false true z e = absurd (false≢true (sym e))
    apart false false z e = (refl, e)

-- the labels that a rule has sorted are writable
pub AreWritable-sorted : (rule : Rule) (raws : List RawSystem) (a : Alphabet) → IsAlphabetOf rule raws a → AreWritable a.texts
AreWritable-sorted rule raws a is k d below = go (get_or a.texts k d) (is.each k d below)
  where
    go : (text : List ℕ) → Contains (all_labels raws) text → IsWritable text
    go text (j, inside, at) = good_writable rule text (subst (IsGoodLabel rule) at (is.good j text inside))

-- some system of a file says what the system says: the one with the alphabet's labels
pub says_itself : (a : Alphabet) (s : System) → (r : RawSystem) × Says a s r
says_itself a s = (record { states = s.states; start = s.start; labels = a.texts; moves = map raw s.moves }, record { states = refl; start = refl; moves = same s.moves })
  where
    label : Act → Option ℕ
    label Tau = None
    label (Label k) = Some k

    raw : Move → RawMove
    raw m = record { from = m.from; label = label m.act; to = m.to }

    one : (act : Act) → option_map (text_at a.texts) (label act) ≡ act_label a.texts act
    one Tau = refl
    one (Label k) = refl

    same : (ms : List Move) → map (named a.texts) (map raw ms) ≡ map (named_move a.texts) ms
    same [] = refl
    same (m ∷ ms) = rw (one m.act, same ms) refl
