-- What is printed of a system is split again into the same alphabet and the same system.
use Rattle.std.proofs.Common.{◌≡◌, ◌∙◌, ℕ, zero, suc, ◌<◌, List, [], ◌∷◌, length, map, get_or, Option, Some, None, option_map, All, Contains, refl, sym, ap, subst, arith}
use Rattle.std.proofs.lemmas.List.{append-nil, length-map, get_or-map, get_or_default}
use Rattle.std.proofs.lemmas.List.Elements.{All-contains, Contains-get_or}
use Rattle.std.proofs.lemmas.List.Sorted.{IsPermutation-refl, Contains-permutation}
use Rattle.lts_base.specs.declared.action.Act.{Act}
use Rattle.lts_base.specs.declared.action.Act.TheVariants.{Tau, Label}
use Rattle.lts_base.specs.declared.action.Move.{Move}
use Rattle.lts_base.specs.declared.raw.RawMove.{RawMove}
use Rattle.lts_base.specs.declared.sorting.Rule.{Rule}
use Rattle.lts_base.specs.declared.divergence.Divergence.TheVariants.{Refuse}
use Rattle.lts_base.specs.System.{System, IsSystem, IsMoveOf, IsActOf, refused}
use Rattle.lts_base.proofs.SplitOnce.{system_once, memory_alone}
use Rattle.lts_base.specs.Built.{move_at}
use Rattle.lts_base.specs.Alphabet.{Alphabet, IsAlphabet, IsOver, text_at}
use Rattle.lts_base.specs.Raw.{RawSystem, IsRaw, as_move, raw_act, raw_move_at}
use Rattle.lts_base.specs.Sorting.{IsGoodLabel, all_labels, IsAlphabetOf, IsActFor, AreMovesFor, IsSystemFor, AreSystemsFor, raw_at, system_at}
use Rattle.lts_base.proofs.UniqueLaws.{alphabet_unique, number_unique}
use Rattle.aut_text.specs.Parts.{NamedMove, named}
use Rattle.aut_text.specs.Grammar.{IsAut, SaysSame}
use Rattle.aut_text.specs.Printed.{act_label, named_move, Says, printed, AreWritable, FitsFile, UsesAll, IsSortedBy, SplitsInto}
use Rattle.aut_text.proofs.PrintLaws.{carried}
use Rattle.aut_text.proofs.OnceLaws.{aut_once}
use Rattle.aut_text.proofs.AgainLaws.{printed_is_aut, good_writable, says_itself}

-- the labels of one system alone are its own
one_labels : (r : RawSystem) → all_labels (r ∷ []) ≡ r.labels
one_labels r = append-nil r.labels

-- a move without a label, by the texts
named_0 : NamedMove
named_0 = record { from = 0; label = None; to = 0 }

-- the system of a file has as many moves
same_count : (a : Alphabet) (s : System) (r : RawSystem) → Says a s r → length s.moves ≡ length r.moves
same_count a s r says = sym (length-map s.moves (named_move a.texts)) ∙ ap length (sym says.moves) ∙ length-map r.moves (named r.labels)

-- each move of the file is the system's move of the same number, by the texts of their labels
same_named : (a : Alphabet) (s : System) (r : RawSystem) → Says a s r → (k : ℕ) → k < length r.moves → named r.labels (raw_move_at r.moves k) ≡ named_move a.texts (move_at s.moves k)
same_named a s r says k below =
    let low : k < length s.moves = omega (arith, below, same_count a s r says) in
    sym (get_or-map (named r.labels) r.moves k (record { from = 0; label = None; to = 0 }) named_0 below) ∙
    ap (λ (ms : List NamedMove). get_or ms k named_0) says.moves ∙
    get_or-map (named_move a.texts) s.moves k (record { from = 0; act = Tau; to = 0 }) named_0 low

-- what has the text of a label is a label with that text
from_act : (a : Alphabet) (labels : List (List ℕ)) (l : Option ℕ) (act : Act) → IsActOf (length a.texts) act → option_map (text_at labels) l ≡ act_label a.texts act → IsActFor a labels l act
from_act a labels None Tau low e = refl
from_act a labels None (Label k) low e = absurd (cc e)
from_act a labels (Some n) Tau low e = absurd (cc e)
from_act a labels (Some n) (Label k) low e = (k, refl, low, (let same : text_at labels n ≡ text_at a.texts k = cc in sym same))

-- the system's moves are those of the file over the alphabet
moves_for : (a : Alphabet) (s : System) (r : RawSystem) → IsAlphabet a → IsOver a s → IsSystem s → Says a s r → AreMovesFor a r s.moves
moves_for a s r alphabet over system says = record {
  long = same_count a s r says;
  each = λ k below.
      let low : k < length s.moves = omega (arith, below, same_count a s r says) in
      let same : named r.labels (raw_move_at r.moves k) ≡ named_move a.texts (move_at s.moves k) = same_named a s r says k below in
      record {
        from = sym (ap (λ (m : NamedMove). m.from) same);
        to = sym (ap (λ (m : NamedMove). m.to) same);
        act = from_act a r.labels (raw_move_at r.moves k).label (move_at s.moves k).act (carried a s k (record { from = 0; act = Tau; to = 0 }) alphabet over system low) (ap (λ (m : NamedMove). m.label) same);
      };
}

-- a label's number leads to a label of the alphabet
act_text_in : (a : Alphabet) (labels : List (List ℕ)) (l : Option ℕ) (act : Act) (n : ℕ) → l ≡ Some n → IsActFor a labels l act → Contains a.texts (text_at labels n)
act_text_in a labels None act n e is = absurd (cc e)
act_text_in a labels (Some m) act n e (k, act_is, low, at) =
    let same : m ≡ n = cc in
    (k, low, get_or_default a.texts k (text_at labels n) [] low ∙ at ∙ ap (text_at labels) same)

-- a label of the alphabet that a move carries is one of the file
raw_text_in : (a : Alphabet) (labels : List (List ℕ)) (l : Option ℕ) (act : Act) (k : ℕ) → act ≡ Label k → IsActOf (length labels) (raw_act l) → IsActFor a labels l act → Contains labels (text_at a.texts k)
raw_text_in a labels None act k e low is = absurd (let f : Tau ≡ Label k = sym is ∙ e in cc f)
raw_text_in a labels (Some n) act k e low (j, act_is, j_low, at) =
    let f : Label j ≡ Label k = sym act_is ∙ e in
    let same : j ≡ k = cc in
    (n, low, get_or_default labels n (text_at a.texts k) [] low ∙ sym at ∙ ap (text_at a.texts) same)

-- each label of the file is one of the alphabet
labels_in : (a : Alphabet) (s : System) (r : RawSystem) → AreMovesFor a r s.moves → IsRaw r → All (Contains a.texts) r.labels
labels_in a s r moves raw n d below =
    let (k, (low, is)) = raw.labels.carried n below in
    subst (Contains a.texts) (get_or_default r.labels n [] d below) (act_text_in a r.labels (raw_move_at r.moves k).label (move_at s.moves k).act n is (moves.each k low).act)

-- a move of a file carries none but a label of the file
raw_carried : (r : RawSystem) → IsRaw r → (k : ℕ) → k < length r.moves → IsActOf (length r.labels) (raw_act (raw_move_at r.moves k).label)
raw_carried r raw k below =
    let d : RawMove = record { from = 0; label = None; to = 0 } in
    let moved : get_or (map as_move r.moves) k (as_move d) ≡ as_move (get_or r.moves k d) = get_or-map as_move r.moves k d (as_move d) below in
    let one : IsMoveOf r.states (length r.labels) (as_move (get_or r.moves k d)) = subst (IsMoveOf r.states (length r.labels)) moved (raw.moves k (as_move d) (omega (arith, below, length-map r.moves as_move))) in
    one.act

-- each label of the alphabet is one of the file, where the moves carry them all
texts_in : (a : Alphabet) (s : System) (r : RawSystem) → AreMovesFor a r s.moves → IsRaw r → UsesAll a s → All (Contains r.labels) a.texts
texts_in a s r moves raw uses k d below =
    let (j, low, is) = uses k below in
    let j_low : j < length r.moves = omega (arith, low, moves.long) in
    subst (Contains r.labels) (get_or_default a.texts k [] d below) (raw_text_in a r.labels (raw_move_at r.moves j).label (move_at s.moves j).act k is (raw_carried r raw j j_low) (moves.each j j_low).act)

-- the labels of the file make the alphabet
alphabet_again : (rule : Rule) (a : Alphabet) (r : RawSystem) → IsAlphabet a → IsSortedBy rule a → All (Contains a.texts) r.labels → All (Contains r.labels) a.texts → IsAlphabetOf rule (r ∷ []) a
alphabet_again rule a r alphabet sorted into back = record {
  alphabet = alphabet;
  good = rw (one_labels r) (λ k d below. All-contains (IsGoodLabel rule) a.texts (get_or r.labels k d) sorted.good (into k d below));
  each = rw (one_labels r) back;
  all = rw (one_labels r) into;
  sides = sorted.sides;
}

-- the system is that of the file over the alphabet
system_again : (a : Alphabet) (s : System) (r : RawSystem) → s.divergence ≡ Refuse → IsOver a s → Says a s r → AreMovesFor a r s.moves → IsSystemFor a r s
system_again a s r plain over says moves = record {
  states = sym says.states;
  start = sym says.start;
  inputs = over.inputs;
  outputs = over.outputs;
  divergence = plain;
  moves = (s.moves, moves, IsPermutation-refl s.moves);
}

-- the one system of a list of one
one_system : (a : Alphabet) (s : System) (r : RawSystem) → IsSystemFor a r s → AreSystemsFor a (r ∷ []) (s ∷ [])
one_system a s r is = record { long = refl; each = one }
  where
    one : (k : ℕ) → k < length (r ∷ []) → IsSystemFor a (raw_at (r ∷ []) k) (system_at (s ∷ []) k)
    one zero below = is
    one (suc k) below = absurd (omega (arith, below))

-- a file gives no other alphabet and no other system
only_this : (rule : Rule) (a b : Alphabet) (s t : System) (r : RawSystem) → IsSystem s → IsAlphabetOf rule (r ∷ []) a → IsSystemFor a r s → IsSystem t → IsAlphabetOf rule (r ∷ []) b → IsSystemFor b r t → (b ≡ a) × (t ≡ s)
only_this rule a b s t r system is one system' other two =
    let same : b ≡ a = alphabet_unique rule (r ∷ []) b a other is in
    (same, system_once a r s t is.alphabet system system' one (subst (λ (c : Alphabet). IsSystemFor c r t) same two))

-- the system of a file that says what a system says splits into this system again, where its moves carry all labels
pub splits_again : (rule : Rule) (a : Alphabet) (s : System) (r : RawSystem) → IsAlphabet a → IsOver a s → IsSystem s → s.divergence ≡ Refuse → IsSortedBy rule a → UsesAll a s → IsRaw r → Says a s r → SplitsInto rule r a s
splits_again rule a s r alphabet over system plain sorted uses raw says =
    let moves : AreMovesFor a r s.moves = moves_for a s r alphabet over system says in
    let is : IsAlphabetOf rule (r ∷ []) a = alphabet_again rule a r alphabet sorted (labels_in a s r moves raw) (texts_in a s r moves raw uses) in
    let one : IsSystemFor a r s = system_again a s r plain over says moves in
    record {
      refused = memory_alone rule (r ∷ []) a is;
      alphabet = is;
      systems = one_system a s r one;
      only = λ b t other two system'. only_this rule a b s t r system is one system' other (two.each 0 (omega arith));
    }

-- labels that the rule lets through are writable
writable_sorted : (rule : Rule) (a : Alphabet) → IsSortedBy rule a → AreWritable a.texts
writable_sorted rule a sorted k d below = good_writable rule (get_or a.texts k d) (sorted.good k d below)

-- what is read of the printed text says what the system says
read_says : (a : Alphabet) (s : System) (r : RawSystem) → IsAlphabet a → IsOver a s → IsSystem s → AreWritable a.texts → FitsFile s → IsAut (printed a s) r → Says a s r
read_says a s r alphabet over system writable fits read =
    let (q, says) = says_itself a s in
    let same : SaysSame q r = aut_once (printed a s) q r (printed_is_aut a s q alphabet over system writable fits says) read in
    record { states = same.states ∙ says.states; start = same.start ∙ says.start; moves = same.moves ∙ says.moves }

-- what is read of the printed text splits into the same alphabet and the same system, where the moves carry all labels
pub read_splits : (rule : Rule) (a : Alphabet) (s : System) (r : RawSystem) → IsAlphabet a → IsOver a s → IsSystem s → FitsFile s → UsesAll a s → IsSortedBy rule a → IsAut (printed a s) r → IsRaw r → SplitsInto rule r a (refused s)
read_splits rule a s r alphabet over system fits uses sorted read raw =
    let says = read_says a s r alphabet over system (writable_sorted rule a sorted) fits read in
    splits_again rule a (refused s) r alphabet
    (record { inputs = over.inputs; outputs = over.outputs })
    (record { start = system.start; states = system.states; few = system.few; moves = system.moves; sorted = system.sorted })
    refl sorted uses raw
    (record { states = says.states; start = says.start; moves = says.moves })

-- the alphabet that a rule has made is sorted by it
pub IsSortedBy-split : (rule : Rule) (raws : List RawSystem) (a : Alphabet) → IsAlphabetOf rule raws a → IsSortedBy rule a
IsSortedBy-split rule raws a is = record {
  good = λ k d below. All-contains (IsGoodLabel rule) (all_labels raws) (get_or a.texts k d) is.good (is.each k d below);
  sides = is.sides;
}

-- a move with a label of the file carries the number of that label's text
carried_number : (a : Alphabet) → IsAlphabet a → (labels : List (List ℕ)) (l : Option ℕ) (act : Act) (n k : ℕ) → l ≡ Some n → k < length a.texts → text_at labels n ≡ text_at a.texts k → IsActFor a labels l act → act ≡ Label k
carried_number a alphabet labels None act n k e below at is = absurd (cc e)
carried_number a alphabet labels (Some m) act n k e below at (j, act_is, j_low, j_at) =
    let same : m ≡ n = cc in
    act_is ∙ ap Label (number_unique a alphabet j k j_low below (j_at ∙ ap (text_at labels) same ∙ at))

-- where a move with a label is among the moves, one of them by its number has the label
has_act : (ms : List Move) (m : Move) (k : ℕ) → Contains ms m → m.act ≡ Label k → (i : ℕ) × (i < length ms) × ((move_at ms i).act ≡ Label k)
has_act ms m k (i, low, at) act =
    let here : move_at ms i ≡ m = get_or_default ms i (record { from = 0; act = Tau; to = 0 }) m low ∙ at in
    (i, low, ap (λ (n : Move). n.act) here ∙ act)

-- what is split alone uses all labels
pub UsesAll-split : (rule : Rule) (a : Alphabet) (s : System) (r : RawSystem) → IsRaw r → IsAlphabetOf rule (r ∷ []) a → IsSystemFor a r s → UsesAll a s
UsesAll-split rule a s r raw is one k below =
    let (ms, moves, shuffled) = one.moves in
    let (n, n_low, n_at) = subst (λ (ts : List (List ℕ)). Contains ts (text_at a.texts k)) (one_labels r) (is.each k [] below) in
    let (j, (j_low, j_is)) = raw.labels.carried n n_low in
    let text : text_at r.labels n ≡ text_at a.texts k = get_or_default r.labels n [] (text_at a.texts k) n_low ∙ n_at in
    let act : (move_at ms j).act ≡ Label k = carried_number a is.alphabet r.labels (raw_move_at r.moves j).label (move_at ms j).act n k j_is below text (moves.each j j_low).act in
    has_act s.moves (move_at ms j) k (Contains-permutation ms s.moves (move_at ms j) shuffled (Contains-get_or ms j (record { from = 0; act = Tau; to = 0 }) (omega (arith, j_low, moves.long)))) act
