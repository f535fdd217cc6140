-- The items of a right answer are of the alphabet, and its pairs are few.
use Rattle.std.proofs.Common.{◌≡◌, ℕ, ◌<◌, ◌≤◌, List, length, All, Some, Result, Ok, Err, IfOk, inl, inr, refl, sym, ap, ◌∙◌, subst, arith}
use Rattle.std.proofs.lemmas.Bool.{cases_Bool}
use Rattle.std.proofs.lemmas.List.{length-map}
use Rattle.std.proofs.lemmas.List.Elements.{All-push, All-contains}
use Rattle.lts_base.specs.declared.item.Item.{Item}
use Rattle.lts_base.specs.declared.item.Item.TheVariants.{Input, Output, Delta}
use Rattle.lts_base.specs.declared.limits.TheConstants.{MOST_PAIRS}
use Rattle.lts_base.specs.System.{System, IsSystem, IsItemOf, IsMoveOf, label_count}
use Rattle.lts_base.specs.Path.{Has}
use Rattle.lts_base.specs.After.{ShowsAfter}
use Rattle.lts_base.specs.Related.{row_of}
use Rattle.lts_base.proofs.ListLaws.{snoc_induction}
use Rattle.lts_base.proofs.SetLaws.{Has-front, Has-item}
use Rattle.lts_base.proofs.AllowedLaws.{IsAllowed-has}
use Rattle.conf_decide.specs.declared.answer.Answer.{Answer}
use Rattle.conf_decide.specs.declared.answer.Answer.TheVariants.{Conforms as Related, Violates as Broken, Undecided as Cut}
use Rattle.conf_decide.specs.declared.answer.Verdict.{Verdict}
use Rattle.conf_decide.specs.Told.{told_of}
use Rattle.conf_decide.specs.Decided.{IsDecided, IsSettled, limits_of}
use Rattle.trace_text.specs.Items.{IsPrintable}
use Rattle.lts_base.specs.Alphabet.{Alphabet}
use Rattle.tool_base.specs.declared.report.Report.{Report}
use Rattle.tool_base.specs.declared.systems.TwoSystems.{TwoSystems}
use Rattle.tool_base.specs.Loaded.{AreTwoOver}
use Rattle.lts_base.specs.declared.memory.Memory.{Memory}
use Rattle.lts_base.specs.Reached.{Limits}
use Rattle.lts_shape.specs.Inputs.{IsFirstMissing}
use Rattle.walk_core.specs.Walked.{Walked}
use Rattle.cmd_check.specs.declared.outcome.CheckOutcome.{CheckOutcome}
use Rattle.cmd_check.specs.declared.outcome.CheckOutcome.TheVariants.{NotEnabled}
use Rattle.cmd_check.specs.declared.decision.Found.{Found}
use Rattle.cmd_check.specs.declared.decision.Found.TheVariants.{Whole, Told}
use Rattle.cmd_check.specs.Asked.{AskedCheck, limits_asked}
use Rattle.cmd_check.specs.Check.{outcome_of, check_text, answer_text, IsLacking, IsAble, IsVerdict}
use Rattle.cmd_check.specs.Printable.{HasFewPairs, HasUsualText, IsPrintableOutcome, IsReportOf, Reports, IsReportOn, IsMissing, IsStated, IsTellable, IsFound, IsFoundBy, outcome_told}
use Rattle.cmd_check.proofs.CertLaws.{trace_of, shown_of, relation_sound}

printable_item : (s : System) (n : ℕ) (x : Item) → label_count s ≡ n → IsItemOf s x → IsPrintable n x
printable_item s n (Input a) e h = omega arith
printable_item s n (Output a) e h = omega arith
printable_item s n Delta e h = tt

printable_trace : (s : System) (n : ℕ) → label_count s ≡ n → IsSystem s → (σ : List Item) → Has s σ → All (IsPrintable n) σ
printable_trace s n e sound =
    snoc_induction (λ σ. Has s σ → All (IsPrintable n) σ)
    (λ has. λ k d below. absurd (omega (arith, below)))
    (λ σ x front has. All-push (IsPrintable n) σ x (front (Has-front s σ x has)) (printable_item s n x e (Has-item s σ x sound has)))

printable_shown : (i : System) (n : ℕ) (σ : List Item) (x : Item) → label_count i ≡ n → IsSystem i → ShowsAfter i σ x → IsPrintable n x
printable_shown i n σ (Input a) e sound shown = absurd shown.2
printable_shown i n σ (Output a) e sound shown =
    let one = All-contains (IsMoveOf i.states (label_count i)) i.moves _ sound.moves shown.2.1.1 in
    let low = one.act in
    omega arith
printable_shown i n σ Delta e sound shown = tt

-- the items of a right answer are of the alphabet
pub printable : (asked : AskedCheck) (s i : System) (n : ℕ) (answer : Answer) → label_count s ≡ n → label_count i ≡ n → IsSystem s → IsSystem i → IsDecided asked.mode (limits_asked asked) i s answer → IsPrintableOutcome n (outcome_of answer)
printable asked s i n (Related relation) e f ss si h = tt
printable asked s i n (Broken trace shown) e f ss si h =
    (printable_trace s n e ss trace (IsAllowed-has asked.mode s trace h.0.violation.allowed), printable_shown i n trace shown f si h.0.violation.shown)
printable asked s i n (Cut what reached depth) e f ss si h = tt

-- a right answer has few pairs
few_decided : (asked : AskedCheck) (s i : System) (answer : Answer) → asked.pairs ≤ MOST_PAIRS → IsDecided asked.mode (limits_asked asked) i s answer → HasFewPairs (told_of answer)
few_decided asked s i (Related relation) few h = omega (arith, few, h.within.pairs, length-map relation.pairs (row_of relation.left relation.right))
few_decided asked s i (Broken trace shown) few h = tt
few_decided asked s i (Cut what reached depth) few h = tt

few_pairs : (asked : AskedCheck) (s i : System) (verdict : Verdict) → asked.pairs ≤ MOST_PAIRS → IsSettled asked.mode (limits_asked asked) i s verdict → HasFewPairs verdict
few_pairs asked s i verdict few (answer, decided, is) = rw is (few_decided asked s i answer few decided)

-- of a right answer the same is told, by its verdict or at once
told_at_once : (answer : Answer) → outcome_told (told_of answer) ≡ outcome_of answer
told_at_once (Related relation) = refl
told_at_once (Broken trace shown) = refl
told_at_once (Cut what reached depth) = refl

-- an answer of which no certificate is printed has its usual text
usual_text : (asked : AskedCheck) (texts : List (List ℕ)) (answer : Answer) → HasUsualText asked (told_of answer) → check_text texts (outcome_of answer) ≡ answer_text asked texts answer
usual_text asked texts answer (inl none) = rw none refl
usual_text asked texts (Related relation) (inr cut) = absurd cut
usual_text asked texts (Broken trace shown) (inr cut) = absurd cut
usual_text asked texts (Cut what reached depth) (inr cut) = elim (cases_Bool asked.cert) [ inl certified ↦ rw certified refl | inr plain ↦ rw plain refl ]

-- the report on a verdict is what is due
told_right : (asked : AskedCheck) (a : Alphabet) (s i : System) (verdict : Verdict) (r : Report CheckOutcome) → IsAble asked i → IsFound asked i s (Told verdict) → Reports a.texts (outcome_told verdict) r →
    IsVerdict asked a s i r.outcome r.text
told_right asked a s i verdict r able ((answer, decided, is), usual) (outcome, text) =
    let told : outcome_told verdict ≡ outcome_of answer = ap outcome_told is ∙ told_at_once answer in
    inr (able, (answer, decided, outcome ∙ told, text ∙ ap (check_text a.texts) told ∙ usual_text asked a.texts answer (subst (HasUsualText asked) is usual)))

-- so is the report on a whole answer
whole_right : (asked : AskedCheck) (a : Alphabet) (s i : System) (answer : Answer) (r : Report CheckOutcome) → IsAble asked i → IsFound asked i s (Whole answer) → IsReportOf (outcome_of answer) (answer_text asked a.texts answer) r →
    IsVerdict asked a s i r.outcome r.text
whole_right asked a s i answer r able decided (outcome, text) = inr (able, (answer, decided, outcome, text))

pub told_due : (asked : AskedCheck) (both : TwoSystems) (verdict : Verdict) (r : Result (Report CheckOutcome) Memory) → IsAble asked both.second → IsFound asked both.second both.first (Told verdict) →
    IfOk r (Reports both.labels.texts (outcome_told verdict)) → IfOk r (IsReportOn asked both)
told_due asked both verdict (Err e) able found h = tt
told_due asked both verdict (Ok report) able found h = told_right asked both.labels both.first both.second verdict report able found h

pub whole_due : (asked : AskedCheck) (both : TwoSystems) (answer : Answer) (r : Result (Report CheckOutcome) Memory) → IsAble asked both.second → IsFound asked both.second both.first (Whole answer) →
    IfOk r (IsReportOf (outcome_of answer) (answer_text asked both.labels.texts answer)) → IfOk r (IsReportOn asked both)
whole_due asked both answer (Err e) able found h = tt
whole_due asked both answer (Ok report) able found h = whole_right asked both.labels both.first both.second answer report able found h

-- and the report on an input that is lacking
pub lacking_right : (asked : AskedCheck) (a : Alphabet) (s i : System) (state input : ℕ) (r : Report CheckOutcome) → IsMissing asked i (Some (state, input)) → Reports a.texts (NotEnabled asked.imp state input) r → IsVerdict asked a s i r.outcome r.text
lacking_right asked a s i state input r (asks, missing) (outcome, text) =
    inl (subst (IsLacking asked i) (sym outcome) (asks, refl, missing), text ∙ ap (check_text a.texts) (sym outcome))

-- both systems have as many labels as the alphabet
pub labels_of_first : (both : TwoSystems) → AreTwoOver both → label_count both.first ≡ length both.labels.texts
labels_of_first both over = omega (arith, over.first_over.inputs, over.first_over.outputs, over.alphabet.inputs)

pub labels_of_second : (both : TwoSystems) → AreTwoOver both → label_count both.second ≡ length both.labels.texts
labels_of_second both over = omega (arith, over.second_over.inputs, over.second_over.outputs, over.alphabet.inputs)

-- what holds of two walks holds of their systems and of the limits that are asked for
between : (asked : AskedCheck) (left right : Walked) (i s : System) (P : Limits → System → System → Type 0) → left.system ≡ i → left.limit ≡ asked.members → right.system ≡ s → right.limit ≡ asked.members →
    P (limits_of asked.pairs left right) left.system right.system → P (limits_asked asked) i s
between asked left right i s P of limit to most h =
    let L : ℕ → ℕ → Limits = λ m n. record { pairs = asked.pairs; imp = m; spec = n } in
    let limits : limits_of asked.pairs left right ≡ limits_asked asked = ap (λ m. L m right.limit) limit ∙ ap (L asked.members) most in
    subst (λ (t : System). P (limits_asked asked) i t) to (subst (λ (t : System). P (limits_asked asked) t right.system) of (subst (λ (l : Limits). P l left.system right.system) limits h))

-- what a decision between two walks found is what is asked for
pub found_as_asked : (asked : AskedCheck) (left right : Walked) (i s : System) (r : Result Found Memory) → left.system ≡ i → left.limit ≡ asked.members → right.system ≡ s → right.limit ≡ asked.members →
    IfOk r (IsFoundBy asked left right) → IfOk r (IsFound asked i s)
found_as_asked asked left right i s (Err e) of limit to most h = tt
found_as_asked asked left right i s (Ok (Whole answer)) of limit to most h = between asked left right i s (λ l t u. IsDecided asked.mode l t u answer) of limit to most h
found_as_asked asked left right i s (Ok (Told verdict)) of limit to most (h, usual) = (between asked left right i s (λ l t u. IsSettled asked.mode l t u verdict) of limit to most h, usual)

-- the verdict of a decision, as it is told, is printable
pub told_printable : (asked : AskedCheck) (both : TwoSystems) (verdict : Verdict) → AreTwoOver both → IsFound asked both.second both.first (Told verdict) → IsPrintableOutcome (length both.labels.texts) (outcome_told verdict)
told_printable asked both verdict over ((answer, decided, is), usual) =
    rw (ap outcome_told is ∙ told_at_once answer) (printable asked both.first both.second (length both.labels.texts) answer (labels_of_first both over) (labels_of_second both over) over.first_sound over.second_sound decided)

-- and a `u32` counts its pairs
pub told_few : (asked : AskedCheck) (s i : System) (verdict : Verdict) → asked.pairs ≤ MOST_PAIRS → IsFound asked i s (Told verdict) → HasFewPairs verdict
told_few asked s i verdict few (settled, usual) = few_pairs asked s i verdict few settled

-- what a certificate of a right answer states is of the alphabet
stated : (asked : AskedCheck) (both : TwoSystems) (answer : Answer) → AreTwoOver both → IsDecided asked.mode (limits_asked asked) both.second both.first answer → IsStated both.labels answer
stated asked both (Related relation) over h = relation_sound asked.mode (limits_asked asked) both.second both.first relation h
stated asked both (Broken trace shown) over h = (
  trace_of both.labels both.first over.alphabet over.first_over over.first_sound trace (IsAllowed-has asked.mode both.first trace h.0.violation.allowed),
  shown_of both.labels both.second over.alphabet over.second_over over.second_sound trace shown h.0.violation.shown,
)
stated asked both (Cut what reached depth) over h = tt

-- a right answer can be told
pub tellable : (asked : AskedCheck) (both : TwoSystems) (answer : Answer) → AreTwoOver both → asked.pairs ≤ MOST_PAIRS → IsFound asked both.second both.first (Whole answer) → IsTellable both.labels answer
tellable asked both answer over few decided = record {
  few = few_decided asked both.first both.second answer few decided;
  printable = printable asked both.first both.second (length both.labels.texts) answer (labels_of_first both over) (labels_of_second both over) over.first_sound over.second_sound decided;
  stated = stated asked both answer over decided;
}

-- an input that is lacking is a label
pub lacking_printable : (asked : AskedCheck) (both : TwoSystems) (state input : ℕ) → AreTwoOver both → IsMissing asked both.second (Some (state, input)) → input < length both.labels.texts
lacking_printable asked both state input over (asks, missing) = omega (arith, missing.input, over.second_over.inputs, over.alphabet.inputs)
