-- The moves of the two systems carry the two labels, and are few; the systems are sound and over their alphabet.
use Rattle.std.proofs.Common.{◌≡◌, ◌∙◌, ℕ, zero, suc, ◌+◌, ◌*◌, ◌^◌, ◌<◌, ◌≤◌, List, [], ◌∷◌, ◌++◌, length, All, Some, None, Result, Ok, Err, IfOk, inl, inr, ◌⊎◌, refl, sym, ap, subst, get_or, arith}
use Rattle.std.specs.Prelude.{codes}
use Rattle.std.proofs.lemmas.Bool.{cases_lt}
use Rattle.std.proofs.lemmas.List.{append_assoc, append-nil, length-append, get_or_append_left}
use Rattle.std.proofs.lemmas.List.Elements.{All-append, All-nil, All-cons}
use Rattle.std.proofs.lemmas.Str.{IsUtf8-from_ascii}
use Rattle.std.proofs.lemmas.Str.Ascii.{IsAscii-from_all}
use Rattle.lts_base.specs.declared.raw.RawMove.{RawMove}
use Rattle.lts_base.specs.Alphabet.{IsLabel, text_at}
use Rattle.lts_base.specs.Raw.{raw_move_at, Carries, AreLabelsOf}
use Rattle.lts_base.proofs.SplitOnce.{AreSystemsFor-over}
use Rattle.tool_base.specs.declared.systems.TwoSystems.{TwoSystems}
use Rattle.tool_base.specs.Loaded.{AreTwoOver}
use Rattle.tool_base.specs.declared.report.Report.{Report}
use Rattle.lts_base.specs.declared.memory.Memory.{Memory}
use Rattle.cmd_check.specs.declared.outcome.CheckOutcome.{CheckOutcome}
use Rattle.cmd_check.specs.Printable.{IsUsualReportOn}
use Rattle.cmd_demo.specs.declared.outcome.DemoOutcome.{DemoOutcome}
use Rattle.cmd_demo.specs.Demo.{IsDemo}
use Rattle.cmd_demo.specs.declared.limits.TheConstants.{MOST_DEMO}
use Rattle.cmd_demo.specs.Size.{IsSize}
use Rattle.cmd_demo.specs.Systems.{demo_labels, ask, skip, reply, next, spec_moves_at, imp_moves_at, moves_below, demo_spec, demo_imp}
use Rattle.cmd_demo.specs.Named.{AreDemoMoves, AreDemoOver, IsHeaded}

abbrev no_move : RawMove
no_move = record { from = 0; label = None; to = 0 }

-- the move carries one of the two labels
abbrev pub IsLabelled : RawMove → Type 0
IsLabelled m = (m.label ≡ Some 0) ⊎ (m.label ≡ Some 1)

-- each place has few moves, which carry the two labels; the first place has both in their order
pub record IsPattern (at : ℕ → List RawMove) : Type 0 where
  pub labelled : (q : ℕ) → All IsLabelled (at q)
  pub few : (q : ℕ) → length (at q) ≤ 3
  pub input : Carries (at 0) 0 0
  pub output : (k : ℕ) × Carries (at 0) k 1

moves_labelled : (at : ℕ → List RawMove) → IsPattern at → (n : ℕ) → All IsLabelled (moves_below at n)
moves_labelled at pattern zero = All-nil IsLabelled
moves_labelled at pattern (suc n) = All-append IsLabelled (moves_below at n) (at n) (moves_labelled at pattern n) (pattern.labelled n)

moves_few : (at : ℕ → List RawMove) → IsPattern at → (n : ℕ) → length (moves_below at n) ≤ 3 * n
moves_few at pattern zero = omega arith
moves_few at pattern (suc n) =
    let front = moves_few at pattern n in
    let more = pattern.few n in
    let both = length-append (moves_below at n) (at n) in
    omega (arith, front, more, both)

-- the moves of the first place come first
first_front : (at : ℕ → List RawMove) (n : ℕ) → 0 < n → (rest : List RawMove) × (moves_below at n ≡ at 0 ++ rest)
first_front at zero some = absurd (omega (arith, some))
first_front at (suc zero) some = ([], sym (append-nil (at 0)))
first_front at (suc (suc n)) some =
    let (rest, is) = first_front at (suc n) (omega arith) in
    (rest ++ at (suc n), ap (λ (ms : List RawMove). ms ++ at (suc n)) is ∙ append_assoc (at 0) rest (at (suc n)))

carried_front : (front rest : List RawMove) (k a : ℕ) → Carries front k a → Carries (front ++ rest) k a
carried_front front rest k a (low, is) =
    let longer = length-append front rest in
    (omega (arith, low, longer), ap (λ (m : RawMove). m.label) (get_or_append_left front rest _ k low) ∙ is)

-- ---- the labels

ascii_label : (b c : ℕ) → 32 ≤ b → b < 128 → 32 ≤ c → c < 128 → IsLabel (b ∷ c ∷ [])
ascii_label b c b_high b_low c_high c_low = record {
  some = omega arith;
  short = omega arith;
  plain = All-cons (λ x. 32 ≤ x) b (c ∷ []) b_high (All-cons (λ x. 32 ≤ x) c [] c_high (All-nil (λ x. 32 ≤ x)));
  utf8 = IsUtf8-from_ascii (b ∷ c ∷ []) (IsAscii-from_all (b ∷ c ∷ []) (All-cons (λ x. x < 128) b (c ∷ []) b_low (All-cons (λ x. x < 128) c [] c_low (All-nil (λ x. x < 128)))));
}

labels_apart : (j k : ℕ) → j < k → k < 2 → ¬ (text_at demo_labels j ≡ text_at demo_labels k)
labels_apart j k lt low same =
    let first : j ≡ 0 = omega (arith, lt, low) in
    let second : k ≡ 1 = omega (arith, lt, low) in
    let from_first : text_at demo_labels 0 ≡ text_at demo_labels k = subst (λ (n : ℕ). text_at demo_labels n ≡ text_at demo_labels k) first same in
    let apart : codes "?a" ≡ codes "!x" = subst (λ (n : ℕ). text_at demo_labels 0 ≡ text_at demo_labels n) second from_first in
    let marks : 63 ≡ 33 = ap {A = List ℕ} {B = ℕ} (λ text. get_or text 0 0) apart in
    omega (arith, marks)

some_same : (a b : ℕ) → Some a ≡ Some b → a ≡ b
some_same a b e = cc

-- moves that carry the two labels, number 0 first of all
labels_of : (moves : List RawMove) (place : ℕ) → All IsLabelled moves → Carries moves 0 0 → Carries moves place 1 → AreLabelsOf moves demo_labels
labels_of moves place labelled input output = record {
  few = omega arith;
  texts = All-cons IsLabel (codes "?a") (codes "!x" ∷ []) (ascii_label 63 97 (omega arith) (omega arith) (omega arith) (omega arith)) (All-cons IsLabel (codes "!x") [] (ascii_label 33 120 (omega arith) (omega arith) (omega arith) (omega arith)) (All-nil IsLabel));
  distinct = labels_apart;
  carried = carried;
  ordered = ordered;
}
  where
    carried : (a : ℕ) → a < 2 → (k : ℕ) × Carries moves k a
    carried a low = elim (cases_lt a 1) [
      | inl first ↦ let is : 0 ≡ a = omega (arith, first) in (0, subst (λ (n : ℕ). Carries moves 0 n) is input)
      | inr second ↦ let is : 1 ≡ a = omega (arith, second, low) in (place, subst (λ (n : ℕ). Carries moves place n) is output)
    ]

    -- the first move carries number 0
    later : (k b : ℕ) → (raw_move_at moves k).label ≡ Some b → 0 < b → 0 < k
    later k b is some = elim (cases_lt 0 k) [
      | inl low ↦ low
      | inr none ↦
          let first : k ≡ 0 = omega (arith, none) in
          let here : (raw_move_at moves 0).label ≡ Some b = subst (λ (n : ℕ). (raw_move_at moves n).label ≡ Some b) first is in
          let same : b ≡ 0 = some_same b 0 (sym here ∙ input.1) in
          absurd (omega (arith, same, some))
    ]

    -- a number above another one is 1
    ordered : (a b k : ℕ) → a < b → Carries moves k b → (j : ℕ) × (j < k) × Carries moves j a
    ordered a b k lt (low, is) = elim (labelled k no_move low) [
      | inl first ↦ let same : b ≡ 0 = some_same b 0 (sym is ∙ first) in absurd (omega (arith, same, lt))
      | inr second ↦
          let same : b ≡ 1 = some_same b 1 (sym is ∙ second) in
          let none : 0 ≡ a = omega (arith, same, lt) in
          (0, later k b is (omega (arith, same)), subst (λ (n : ℕ). Carries moves 0 n) none input)
    ]

moves_fit : (at : ℕ → List RawMove) (n : ℕ) → IsPattern at → 0 < n → n ≤ MOST_DEMO → AreDemoMoves (moves_below at n)
moves_fit at n pattern some most =
    let (rest, is) = first_front at n some in
    let (k, output) = pattern.output in
    let count = moves_few at pattern n in
    record {
      labels = labels_of (moves_below at n) k (moves_labelled at pattern n)
          (subst (λ (ms : List RawMove). Carries ms 0 0) (sym is) (carried_front (at 0) rest 0 0 pattern.input))
          (subst (λ (ms : List RawMove). Carries ms k 1) (sym is) (carried_front (at 0) rest k 1 output));
      few = omega (arith, count, most);
    }

-- ---- the two patterns

spec_pattern : (n : ℕ) → IsPattern (spec_moves_at n)
spec_pattern n = record {
  labelled = λ q. All-cons IsLabelled (ask q) (skip q (next n q) ∷ reply q (next n q) ∷ []) (inl refl) (All-cons IsLabelled (skip q (next n q)) (reply q (next n q) ∷ []) (inl refl) (All-cons IsLabelled (reply q (next n q)) [] (inr refl) (All-nil IsLabelled)));
  few = λ q. omega arith;
  input = (omega arith, refl);
  output = (2, (omega arith, refl));
}

imp_pattern : (n : ℕ) → IsPattern (imp_moves_at n)
imp_pattern n = record {
  labelled = λ q. All-cons IsLabelled (ask q) (reply q (next n q) ∷ []) (inl refl) (All-cons IsLabelled (reply q (next n q)) [] (inr refl) (All-nil IsLabelled));
  few = λ q. omega arith;
  input = (omega arith, refl);
  output = (1, (omega arith, refl));
}

pub spec_fit : (n : ℕ) (moves : List RawMove) → IsSize n → moves ≡ moves_below (spec_moves_at n) n → AreDemoMoves moves
spec_fit n moves size is = let least = size.least in subst AreDemoMoves (sym is) (moves_fit (spec_moves_at n) n (spec_pattern n) (omega (arith, least)) size.most)

pub imp_fit : (n : ℕ) (moves : List RawMove) → IsSize n → moves ≡ moves_below (imp_moves_at n) n → AreDemoMoves moves
imp_fit n moves size is = let least = size.least in subst AreDemoMoves (sym is) (moves_fit (imp_moves_at n) n (imp_pattern n) (omega (arith, least)) size.most)

-- ---- over the alphabet

-- the two systems are sound and over their alphabet
pub demo_over : (n : ℕ) (both : TwoSystems) → AreDemoOver n both → AreTwoOver both
demo_over n both are =
    let over = AreSystemsFor-over both.labels (demo_spec n ∷ demo_imp n ∷ []) (both.first ∷ both.second ∷ []) are.over in
    record {
      alphabet = are.alphabet.alphabet;
      first_sound = are.sound 0 both.first (omega arith);
      second_sound = are.sound 1 both.second (omega arith);
      first_over = over 0 both.first (omega arith);
      second_over = over 1 both.second (omega arith);
    }

-- the report on the usual verdict on them, after a line with the size, is what is due
pub headed_due : (n : ℕ) (both : TwoSystems) (decision : Report CheckOutcome) (r : Result (Report DemoOutcome) Memory) → AreDemoOver n both → IsUsualReportOn both decision → IfOk r (IsHeaded n decision) →
    IfOk r (λ (report : Report DemoOutcome). IsDemo n report.outcome report.text)
headed_due n both decision (Err e) are verdict h = tt
headed_due n both decision (Ok report) are verdict h = record {
  a = both.labels;
  s = both.first;
  i = both.second;
  systems = are;
  decision = decision.outcome;
  told = decision.text;
  verdict = verdict;
  outcome_is = h.outcome_is;
  text_is = h.text_is;
}
