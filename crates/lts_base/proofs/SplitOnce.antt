-- Systems over one alphabet are fixed by the raw systems, and labels that can't be sorted have one first fault.
use Rattle.std.proofs.Common.{◌≡◌, ◌∙◌, ℕ, ◌<◌, Bool, List, [], length, take, All, Option, Some, None, IsSome, inl, inr, refl, sym, ap, subst, arith}
use Rattle.std.proofs.lemmas.Bool.{false≢true, cases_lt}
use Rattle.std.proofs.lemmas.List.{length-take-le, get_or-take, ext_get_or, get_or_default}
use Rattle.lts_base.specs.declared.action.Move.{Move}
use Rattle.lts_base.specs.declared.divergence.Divergence.{Divergence}
use Rattle.lts_base.specs.declared.sorting.Rule.{Rule}
use Rattle.lts_base.specs.declared.sorting.SplitError.{SplitError}
use Rattle.lts_base.specs.declared.sorting.SplitError.TheVariants.{Unsorted, Reserved, TooManyLabels, Memory}
use Rattle.lts_base.specs.declared.limits.TheConstants.{MOST_LABELS}
use Rattle.lts_base.specs.System.{System, IsSystem}
use Rattle.lts_base.specs.Alphabet.{Alphabet, IsAlphabet, IsOver, text_at}
use Rattle.lts_base.specs.Raw.{RawSystem}
use Rattle.lts_base.specs.Sorting.{side_of, IsGoodLabel, IsLabelFault, IsFirstLabelFault, all_labels, RefusesSplit, IsAlphabetOf, IsSystemFor, AreSystemsFor, raw_at, system_at}
use Rattle.lts_base.proofs.UniqueLaws.{alphabet_unique, system_moves_unique, none_more}
use Rattle.lts_base.proofs.PermutedLaws.{sorted_moves_unique}

-- systems that agree in each part are equal
pub same_parts : (s t : System) → t.states ≡ s.states → t.start ≡ s.start → t.inputs ≡ s.inputs → t.outputs ≡ s.outputs → t.divergence ≡ s.divergence → t.moves ≡ s.moves → t ≡ s
same_parts s t states start inputs outputs divergence moves =
    let F : ℕ → ℕ → ℕ → ℕ → Divergence → List Move → System = λ n p i o d ms. record { states = n; start = p; inputs = i; outputs = o; divergence = d; moves = ms } in
    ap (λ n. F n t.start t.inputs t.outputs t.divergence t.moves) states ∙ ap (λ n. F s.states n t.inputs t.outputs t.divergence t.moves) start ∙
    ap (λ n. F s.states s.start n t.outputs t.divergence t.moves) inputs ∙ ap (λ n. F s.states s.start s.inputs n t.divergence t.moves) outputs ∙
    ap {A = Divergence} (λ d. F s.states s.start s.inputs s.outputs d t.moves) divergence ∙ ap (F s.states s.start s.inputs s.outputs s.divergence) moves

-- a raw system is one sound system over the alphabet
pub system_once : (a : Alphabet) (r : RawSystem) (s t : System) → IsAlphabet a → IsSystem s → IsSystem t → IsSystemFor a r s → IsSystemFor a r t → t ≡ s
system_once a r s t alphabet sound other one two =
    let moves : t.moves ≡ s.moves = sorted_moves_unique t.moves s.moves other.sorted sound.sorted (system_moves_unique a alphabet r t s two one) in
    same_parts s t (two.states ∙ sym one.states) (two.start ∙ sym one.start) (two.inputs ∙ sym one.inputs) (two.outputs ∙ sym one.outputs) (two.divergence ∙ sym one.divergence) moves

-- raw systems have one list of sound systems over the alphabet
pub systems_once : (a : Alphabet) (raws : List RawSystem) (ss ts : List System) → IsAlphabet a → All IsSystem ss → All IsSystem ts → AreSystemsFor a raws ss → AreSystemsFor a raws ts → ts ≡ ss
systems_once a raws ss ts alphabet sound other one two =
    ext_get_or none ts ss (two.long ∙ sym one.long) (λ k below.
    let low : k < length raws = omega (arith, below, two.long) in
    let first : k < length ss = omega (arith, low, one.long) in
    let second : k < length ts = omega (arith, low, two.long) in
    system_once a (raw_at raws k) (system_at ss k) (system_at ts k) alphabet (sound k none first) (other k none second) (one.each k low) (two.each k low))
  where
    none : System
    none = system_at [] 0

-- raw systems have one alphabet by the rule, and one list of sound systems over it
pub split_systems_once : (rule : Rule) (raws : List RawSystem) (a b : Alphabet) (ss ts : List System) → IsAlphabetOf rule raws a → IsAlphabetOf rule raws b → All IsSystem ss → All IsSystem ts →
    AreSystemsFor a raws ss → AreSystemsFor b raws ts → (b ≡ a) × (ts ≡ ss)
split_systems_once rule raws a b ss ts first second sound other one two =
    let same : b ≡ a = alphabet_unique rule raws b a second first in
    (same, systems_once a raws ss ts first.alphabet sound other one (subst (λ (c : Alphabet). AreSystemsFor c raws ts) same two))

-- each of the systems is over the alphabet
pub AreSystemsFor-over : (a : Alphabet) (raws : List RawSystem) (systems : List System) → AreSystemsFor a raws systems → All (IsOver a) systems
AreSystemsFor-over a raws systems are k d below =
    let one = are.each k (omega (arith, below, are.long)) in
    subst (IsOver a) (get_or_default systems k (system_at [] 0) d below) (record { inputs = one.inputs; outputs = one.outputs })

-- what is sorted nowhere isn't sorted
not_some : (o : Option Bool) → o ≡ None → IsSome o → ⊥
not_some None e some = cc some
not_some (Some b) e some = cc e

-- labels that have an alphabet are refused for want of memory alone
pub memory_alone : (rule : Rule) (raws : List RawSystem) (a : Alphabet) → IsAlphabetOf rule raws a → (e : SplitError) → RefusesSplit rule raws e → e ≡ Memory
memory_alone rule raws a is (Reserved told) (k, fault) =
    let good : IsGoodLabel rule (text_at (all_labels raws) k) = is.good k [] fault.below in
    absurd (false≢true (sym good.free ∙ fault.fault.1))
memory_alone rule raws a is (Unsorted told) (k, fault) =
    let good : IsGoodLabel rule (text_at (all_labels raws) k) = is.good k [] fault.below in
    absurd (not_some (side_of rule (text_at (all_labels raws) k)) fault.fault.2 good.sorted)
memory_alone rule raws a is TooManyLabels (good, (texts, more)) = absurd (none_more MOST_LABELS texts (all_labels raws) a.texts is.all is.alphabet.few more)
memory_alone rule raws a is Memory h = refl

-- a label at fault isn't good
fault_good : (rule : Rule) (text : List ℕ) (e : SplitError) → IsLabelFault rule text e → IsGoodLabel rule text → ⊥
fault_good rule text (Reserved told) fault good = false≢true (sym good.free ∙ fault.1)
fault_good rule text (Unsorted told) fault good = not_some (side_of rule text) fault.2 good.sorted
fault_good rule text TooManyLabels fault good = fault
fault_good rule text Memory fault good = fault

-- a label has one fault
fault_once : (rule : Rule) (text : List ℕ) (e f : SplitError) → IsLabelFault rule text e → IsLabelFault rule text f → e ≡ f
fault_once rule text (Reserved told) (Reserved more) one other = ap Reserved (one.0 ∙ sym other.0)
fault_once rule text (Reserved told) (Unsorted more) one other = absurd (false≢true (sym other.1 ∙ one.1))
fault_once rule text (Reserved told) TooManyLabels one other = absurd other
fault_once rule text (Reserved told) Memory one other = absurd other
fault_once rule text (Unsorted told) (Reserved more) one other = absurd (false≢true (sym one.1 ∙ other.1))
fault_once rule text (Unsorted told) (Unsorted more) one other = ap Unsorted (one.0 ∙ sym other.0)
fault_once rule text (Unsorted told) TooManyLabels one other = absurd other
fault_once rule text (Unsorted told) Memory one other = absurd other
fault_once rule text TooManyLabels f one other = absurd one
fault_once rule text Memory f one other = absurd one

-- no label before the first one at fault is at fault
none_before : (rule : Rule) (texts : List (List ℕ)) (j k : ℕ) (e f : SplitError) → IsFirstLabelFault rule texts j e → IsFirstLabelFault rule texts k f → j < k → ⊥
none_before rule texts j k e f one other less =
    let long : length (take k texts) ≡ k = let below = other.below in length-take-le k texts (omega (arith, below)) in
    let good : IsGoodLabel rule (text_at (take k texts) j) = other.before j [] (omega (arith, less, long)) in
    fault_good rule (text_at texts j) e one.fault (subst (IsGoodLabel rule) (get_or-take k texts j [] less) good)

-- labels have one first fault
first_fault_once : (rule : Rule) (texts : List (List ℕ)) (j k : ℕ) (e f : SplitError) → IsFirstLabelFault rule texts j e → IsFirstLabelFault rule texts k f → e ≡ f
first_fault_once rule texts j k e f one other =
    elim (cases_lt j k) [
      | inl less ↦ absurd (none_before rule texts j k e f one other less)
      | inr least ↦
          elim (cases_lt k j) [
            | inl more ↦ absurd (none_before rule texts k j f e other one more)
            | inr most ↦
                let same : j ≡ k = omega (arith, least, most) in
                fault_once rule (text_at texts k) e f (subst (λ (n : ℕ). IsLabelFault rule (text_at texts n) e) same one.fault) other.fault
          ]
    ]

-- good labels have no first fault
all_good : (rule : Rule) (texts : List (List ℕ)) (k : ℕ) (e : SplitError) → All (IsGoodLabel rule) texts → IsFirstLabelFault rule texts k e → ⊥
all_good rule texts k e good first = fault_good rule (text_at texts k) e first.fault (good k [] first.below)

-- labels can't be sorted for one cause, but for want of memory
pub split_once : (rule : Rule) (raws : List RawSystem) (e f : SplitError) → RefusesSplit rule raws e → RefusesSplit rule raws f → ¬ (e ≡ Memory) → ¬ (f ≡ Memory) → e ≡ f
split_once rule raws Memory f one other room more = absurd (room refl)
split_once rule raws (Reserved told) Memory one other room more = absurd (more refl)
split_once rule raws (Unsorted told) Memory one other room more = absurd (more refl)
split_once rule raws TooManyLabels Memory one other room more = absurd (more refl)
split_once rule raws (Reserved told) (Reserved again) (j, one) (k, other) room more = first_fault_once rule (all_labels raws) j k (Reserved told) (Reserved again) one other
split_once rule raws (Reserved told) (Unsorted again) (j, one) (k, other) room more = first_fault_once rule (all_labels raws) j k (Reserved told) (Unsorted again) one other
split_once rule raws (Unsorted told) (Reserved again) (j, one) (k, other) room more = first_fault_once rule (all_labels raws) j k (Unsorted told) (Reserved again) one other
split_once rule raws (Unsorted told) (Unsorted again) (j, one) (k, other) room more = first_fault_once rule (all_labels raws) j k (Unsorted told) (Unsorted again) one other
split_once rule raws (Reserved told) TooManyLabels (j, one) (good, h) room more = absurd (all_good rule (all_labels raws) j (Reserved told) good one)
split_once rule raws (Unsorted told) TooManyLabels (j, one) (good, h) room more = absurd (all_good rule (all_labels raws) j (Unsorted told) good one)
split_once rule raws TooManyLabels (Reserved told) (good, h) (k, other) room more = absurd (all_good rule (all_labels raws) k (Reserved told) good other)
split_once rule raws TooManyLabels (Unsorted told) (good, h) (k, other) room more = absurd (all_good rule (all_labels raws) k (Unsorted told) good other)
split_once rule raws TooManyLabels TooManyLabels one other room more = refl
