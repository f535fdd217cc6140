-- `demo` has one answer for each size.
use Rattle.std.proofs.Common.{◌≡◌, ◌∙◌, ℕ, List, [], ◌∷◌, Option, Some, None, sym, ap, subst, arith}
use Rattle.lts_base.specs.declared.sorting.Rule.TheVariants.{Prefix}
use Rattle.lts_base.specs.System.{System, IsSystem, label_count}
use Rattle.lts_base.specs.Alphabet.{Alphabet, IsOver}
use Rattle.lts_base.proofs.SplitOnce.{split_systems_once, AreSystemsFor-over}
use Rattle.tool_base.specs.Contents.{Contents}
use Rattle.tool_base.specs.Once.{IsOnce}
use Rattle.cmd_check.specs.declared.outcome.CheckOutcome.{CheckOutcome}
use Rattle.cmd_check.specs.Check.{IsUsualVerdict}
use Rattle.cmd_check.proofs.OnceLaws.{usual_once}
use Rattle.cmd_demo.specs.declared.outcome.DemoOutcome.{DemoOutcome}
use Rattle.cmd_demo.specs.declared.outcome.DemoOutcome.TheVariants.{Decided}
use Rattle.cmd_demo.specs.Systems.{AreDemo, demo_spec, demo_imp}
use Rattle.cmd_demo.specs.Demo.{IsDemo, AnswersDemo, demo_page}

same_first : (s i t j : System) → s ∷ i ∷ [] ≡ t ∷ j ∷ [] → s ≡ t
same_first s i t j e = cc

same_second : (s i t j : System) → s ∷ i ∷ [] ≡ t ∷ j ∷ [] → i ≡ j
same_second s i t j e = cc

-- the verdict is one on the two systems, whichever they are
verdict_moved : (n : ℕ) (a b : Alphabet) (s i t j : System) (o : CheckOutcome) (told : List ℕ) → AreDemo n a s i → AreDemo n b t j → IsUsualVerdict b t j o told → IsUsualVerdict a s i o told
verdict_moved n a b s i t j o told one two verdict =
    let same = split_systems_once Prefix (demo_spec n ∷ demo_imp n ∷ []) b a (t ∷ j ∷ []) (s ∷ i ∷ []) two.alphabet one.alphabet two.sound one.sound two.over one.over in
    let first : IsUsualVerdict a t j o told = subst (λ (c : Alphabet). IsUsualVerdict c t j o told) (sym same.0) verdict in
    let second : IsUsualVerdict a s j o told = subst (λ (z : System). IsUsualVerdict a z j o told) (sym (same_first s i t j same.1)) first in
    subst (λ (z : System). IsUsualVerdict a s z o told) (sym (same_second s i t j same.1)) second

-- the two systems have as many labels
same_labels : (n : ℕ) (a : Alphabet) (s i : System) → AreDemo n a s i → label_count i ≡ label_count s
same_labels n a s i are =
    let over = AreSystemsFor-over a (demo_spec n ∷ demo_imp n ∷ []) (s ∷ i ∷ []) are.over in
    let first : IsOver a s = over 0 s (omega arith) in
    let second : IsOver a i = over 1 i (omega arith) in
    omega (arith, first.inputs, first.outputs, second.inputs, second.outputs)

-- a size has one decision
demo_decided_once : (n : ℕ) (o p : DemoOutcome) (t u : List ℕ) → IsDemo n o t → IsDemo n p u → o ≡ p
demo_decided_once n o p t u one two =
    let moved = verdict_moved n two.a one.a two.s two.i one.s one.i one.decision one.told two.systems one.systems one.verdict in
    let once = usual_once two.a two.s two.i one.decision two.decision one.told two.told (two.systems.sound 0 two.s (omega arith)) (two.systems.sound 1 two.i (omega arith)) (same_labels n two.a two.s two.i two.systems) moved two.verdict in
    one.outcome_is ∙ (ap Decided once ∙ sym two.outcome_is)

demo_answer_once : (size : Option ℕ) (o p : DemoOutcome) (t u : List ℕ) → AnswersDemo size o t → AnswersDemo size p u → o ≡ p
demo_answer_once None o p t u one two = one.0 ∙ sym two.0
demo_answer_once (Some n) o p t u one two = demo_decided_once n o p t u one two

pub demo_once : (contents : Contents) (size : Option ℕ) → IsOnce (demo_page contents size)
demo_once contents size = record {
  refused = λ r q one other. absurd one;
  apart = λ r o t refused answer. absurd refused;
  answered = demo_answer_once size;
}
