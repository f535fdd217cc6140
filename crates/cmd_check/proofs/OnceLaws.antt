-- `check` has one answer for files whose contents are told.
use Rattle.std.proofs.Common.{◌≡◌, ◌∙◌, ℕ, List, [], ◌∷◌, inl, inr, refl, sym, ap, subst, arith}
use Rattle.lts_base.specs.declared.item.Mode.TheVariants.{Ioco}
use Rattle.lts_base.specs.System.{System, IsSystem, label_count}
use Rattle.lts_base.specs.Alphabet.{Alphabet, IsOver}
use Rattle.lts_shape.specs.Inputs.{IsFirstMissing}
use Rattle.conf_decide.specs.declared.answer.Answer.{Answer}
use Rattle.conf_decide.specs.declared.answer.Answer.TheVariants.{Conforms as Related, Violates as Broken, Undecided as Cut}
use Rattle.conf_decide.proofs.OnceLaws.{told, decided_once}
use Rattle.tool_base.specs.Contents.{Contents, AreTold}
use Rattle.tool_base.specs.Sources.{AreSystems, all_names}
use Rattle.tool_base.specs.Once.{IsOnce}
use Rattle.tool_base.proofs.InputOnce.{systems_once, sources_apart, sources_refused_once}
use Rattle.tool_base.proofs.StoppedLaws.{systems_over, systems_sound}
use Rattle.cmd_check.specs.declared.outcome.CheckOutcome.{CheckOutcome}
use Rattle.cmd_check.specs.declared.outcome.CheckOutcome.TheVariants.{Conforms, Violates, Undecided, NotEnabled}
use Rattle.cmd_check.specs.Asked.{AskedCheck, check_sources, limits_asked}
use Rattle.cmd_check.specs.Check.{outcome_of, IsLacking, IsAble, IsVerdict, IsUsualVerdict, usual_limits, AnswersCheck, check_page}

-- an input that is lacking is lacked by no implementation that is input-enabled
pub lacking_unable : (asked : AskedCheck) (i : System) (o : CheckOutcome) → IsLacking asked i o → ¬ IsAble asked i
lacking_unable asked i (Conforms n) h able = h
lacking_unable asked i (Violates σ x) h able = h
lacking_unable asked i (Undecided what reached depth) h able = h
lacking_unable asked i (NotEnabled name state input) (asks, named, missing) able = let (σ, ends) = missing.ends in missing.lacks (able asks σ state ends input missing.input)

-- a system lacks one first input
missing_once : (i : System) (q p a b : ℕ) → IsFirstMissing i i.inputs q a → IsFirstMissing i i.inputs p b → (q ≡ p) × (a ≡ b)
missing_once i q p a b one other =
    let down = one.state p b other.ends other.input other.lacks in
    let up = other.state q a one.ends one.input one.lacks in
    let same : q ≡ p = omega (arith, down, up) in
    let here : IsFirstMissing i i.inputs p a = subst (λ (r : ℕ). IsFirstMissing i i.inputs r a) same one in
    let below = here.least b other.input other.lacks in
    let above = other.least a here.input here.lacks in
    (same, omega (arith, below, above))

lacking_once : (asked : AskedCheck) (i : System) (o p : CheckOutcome) → IsLacking asked i o → IsLacking asked i p → o ≡ p
lacking_once asked i (Conforms n) p one other = absurd one
lacking_once asked i (Violates σ x) p one other = absurd one
lacking_once asked i (Undecided what reached depth) p one other = absurd one
lacking_once asked i (NotEnabled name q a) (Conforms n) one other = absurd other
lacking_once asked i (NotEnabled name q a) (Violates σ x) one other = absurd other
lacking_once asked i (NotEnabled name q a) (Undecided what reached depth) one other = absurd other
lacking_once asked i (NotEnabled name q a) (NotEnabled other_name p b) (asks, named, missing) (asked_too, named_too, missing_too) =
    let same = missing_once i q p a b missing missing_too in
    ap (λ (n : List ℕ). NotEnabled n q a) (named ∙ sym named_too) ∙ (ap (λ (r : ℕ). NotEnabled other_name r a) same.0 ∙ ap (NotEnabled other_name p) same.1)

-- what is told of a decision is what `check` answers
told_is : (answer : Answer) → told Conforms Violates Undecided answer ≡ outcome_of answer
told_is (Related relation) = refl
told_is (Broken trace shown) = refl
told_is (Cut what reached depth) = refl

-- two systems have one verdict
verdict_once : (asked : AskedCheck) (a : Alphabet) (s i : System) (o p : CheckOutcome) (t u : List ℕ) → IsSystem s → IsSystem i → label_count i ≡ label_count s → IsVerdict asked a s i o t → IsVerdict asked a s i p u → o ≡ p
verdict_once asked a s i o p t u spec imp same (inl one) (inl other) = lacking_once asked i o p one.0 other.0
verdict_once asked a s i o p t u spec imp same (inl one) (inr other) = absurd (lacking_unable asked i o one.0 other.0)
verdict_once asked a s i o p t u spec imp same (inr one) (inl other) = absurd (lacking_unable asked i p other.0 one.0)
verdict_once asked a s i o p t u spec imp same (inr (able, (x, decided, is, text))) (inr (able_too, (y, decided_too, is_too, text_too))) =
    let once = decided_once Conforms Violates Undecided asked.mode (limits_asked asked) i s x y spec imp same decided decided_too in
    is ∙ (sym (told_is x) ∙ (once ∙ (told_is y ∙ sym is_too)))

-- and one verdict where there are no options
pub usual_once : (a : Alphabet) (s i : System) (o p : CheckOutcome) (t u : List ℕ) → IsSystem s → IsSystem i → label_count i ≡ label_count s → IsUsualVerdict a s i o t → IsUsualVerdict a s i p u → o ≡ p
usual_once a s i o p t u spec imp same (x, decided, is, text) (y, decided_too, is_too, text_too) =
    let once = decided_once Conforms Violates Undecided Ioco usual_limits i s x y spec imp same decided decided_too in
    is ∙ (sym (told_is x) ∙ (once ∙ (told_is y ∙ sym is_too)))

-- the systems of the files are sound, and have as many labels
pub sound_pair : (contents : Contents) (asked : AskedCheck) (a : Alphabet) (s i : System) → AreSystems contents (check_sources asked) a (s ∷ i ∷ []) → IsSystem s × IsSystem i × (label_count i ≡ label_count s)
sound_pair contents asked a s i are =
    let sound = systems_sound contents (check_sources asked) a (s ∷ i ∷ []) are in
    let over = systems_over contents (check_sources asked) a (s ∷ i ∷ []) are in
    let first : IsOver a s = over 0 s (omega arith) in
    let second : IsOver a i = over 1 i (omega arith) in
    (sound 0 s (omega arith), sound 1 i (omega arith), omega (arith, first.inputs, first.outputs, second.inputs, second.outputs))

same_first : (s i t j : System) → s ∷ i ∷ [] ≡ t ∷ j ∷ [] → s ≡ t
same_first s i t j e = cc

same_second : (s i t j : System) → s ∷ i ∷ [] ≡ t ∷ j ∷ [] → i ≡ j
same_second s i t j e = cc

-- the verdict is one on the systems of the files, whichever they are
pub verdict_moved : (contents : Contents) (asked : AskedCheck) (o : CheckOutcome) (t : List ℕ) (a : Alphabet) (s i : System) → AreTold contents (all_names (check_sources asked)) → AnswersCheck contents asked o t →
    AreSystems contents (check_sources asked) a (s ∷ i ∷ []) → IsVerdict asked a s i o t
verdict_moved contents asked o t a s i told one systems =
    let same = systems_once contents (check_sources asked) a one.a (s ∷ i ∷ []) (one.s ∷ one.i ∷ []) told systems one.systems in
    let first : IsVerdict asked a one.s one.i o t = subst (λ (b : Alphabet). IsVerdict asked b one.s one.i o t) same.0 one.verdict in
    let second : IsVerdict asked a s one.i o t = subst (λ (z : System). IsVerdict asked a z one.i o t) (same_first one.s one.i s i same.1) first in
    subst (λ (z : System). IsVerdict asked a s z o t) (same_second one.s one.i s i same.1) second

pub check_once : (contents : Contents) (asked : AskedCheck) → AreTold contents (check_page contents asked).names → IsOnce (check_page contents asked)
check_once contents asked told = record {
  refused = λ r q one other. sources_refused_once contents (check_sources asked) r q told one other;
  apart = λ r o t refused answer. sources_apart contents (check_sources asked) r answer.a (answer.s ∷ answer.i ∷ []) told refused answer.systems;
  answered = answered;
}
  where
    answered : (o p : CheckOutcome) (t u : List ℕ) → AnswersCheck contents asked o t → AnswersCheck contents asked p u → o ≡ p
    answered o p t u one two =
        let sound = sound_pair contents asked two.a two.s two.i two.systems in
        verdict_once asked two.a two.s two.i o p t u sound.0 sound.1 sound.2 (verdict_moved contents asked o t two.a two.s two.i told one two.systems) two.verdict
