-- `angelic` answers one thing for files whose contents are told.
use Rattle.std.proofs.Common.{◌≡◌, ◌∙◌, ℕ, List, [], ◌∷◌, inl, inr, refl, sym, ap, subst, arith}
use Rattle.lts_base.specs.Alphabet.{Alphabet}
use Rattle.lts_base.specs.System.{System}
use Rattle.lts_shape.specs.Angelic.{RefusesAngelic}
use Rattle.lts_shape.specs.declared.completion.ShapeError.TheVariants.{TooManyMoves as NoRoomForMoves}
use Rattle.lts_shape.proofs.AngelicLaws.{too_many}
use Rattle.tool_base.specs.Contents.{Contents, AreTold}
use Rattle.tool_base.specs.Once.{IsOnce}
use Rattle.tool_base.proofs.InputOnce.{sources_refused_once, sources_apart, systems_once}
use Rattle.cmd_angelic.specs.declared.outcome.AngelicOutcome.{AngelicOutcome}
use Rattle.cmd_angelic.specs.declared.outcome.AngelicOutcome.TheVariants.{Printed, TooManyMoves}
use Rattle.cmd_angelic.specs.Angelic.{AskedAngelic, IsPrintable, IsCompletion, IsCompletionOf, angelic_page, source_of}

-- a system whose completion can be printed isn't refused
printable_fits : (s t : System) → IsPrintable s t → ¬ RefusesAngelic s NoRoomForMoves
printable_fits s t is refuses = elim (too_many s t NoRoomForMoves is.completion refuses) [
  | inl memory ↦ absurd (cc memory)
  | inr over ↦ let within = is.within in absurd (omega (arith, over, within))
]

-- a system has one completion
completion_once : (a : Alphabet) (s : System) (o p : AngelicOutcome) (t u : List ℕ) → IsCompletion a s o t → IsCompletion a s p u → o ≡ p
completion_once a s Printed Printed t u one other = refl
completion_once a s Printed (TooManyMoves reached) t u one other = absurd (printable_fits s one.0 one.1 other.0)
completion_once a s (TooManyMoves reached) Printed t u one other = absurd (printable_fits s other.0 other.1 one.0)
completion_once a s (TooManyMoves reached) (TooManyMoves more) t u one other = ap TooManyMoves (one.1 ∙ sym other.1)

same_head : (s t : System) → s ∷ [] ≡ t ∷ [] → s ≡ t
same_head s t e = cc

pub angelic_once : (contents : Contents) (asked : AskedAngelic) → AreTold contents (angelic_page contents asked).names → IsOnce (angelic_page contents asked)
angelic_once contents asked told = record {
  refused = λ r q one other. sources_refused_once contents (source_of asked) r q told one other;
  apart = λ r o t refused answer. sources_apart contents (source_of asked) r answer.alphabet (answer.system ∷ []) told refused answer.read;
  answered = once;
}
  where
    once : (o p : AngelicOutcome) (t u : List ℕ) → IsCompletionOf contents asked o t → IsCompletionOf contents asked p u → o ≡ p
    once o p t u one other =
        let same = systems_once contents (source_of asked) other.alphabet one.alphabet (other.system ∷ []) (one.system ∷ []) told other.read one.read in
        let system : one.system ≡ other.system = same_head one.system other.system same.1 in
        completion_once other.alphabet other.system o p t u
        (subst (λ (s : System). IsCompletion other.alphabet s o t) system (subst (λ (a : Alphabet). IsCompletion a one.system o t) same.0 one.answer)) other.answer
