-- Promise: logs whose heads tell of another specification, or of another reading of divergence.
use Rattle.std.specs.Prelude.{◌≡◌, ℕ, ◌+◌, List, ◌∷◌, ◌++◌, length, All}
use Rattle.lts_base.specs.declared.divergence.Divergence.{Divergence}
use Rattle.log_text.specs.declared.log.Digest.{Digest}
use Rattle.log_text.specs.declared.log.Head.{Head}
use Rattle.log_text.specs.declared.log.Head.TheVariants.{One, Two}
use Rattle.log_text.specs.declared.log.Named.{Named}
use Rattle.log_report.specs.declared.heads.OtherHead.{OtherHead}
use Rattle.log_report.specs.declared.heads.OtherHead.TheVariants.{OtherSpec, OtherDivergence}

-- what the head tells, in version 2, is this digest and this reading of divergence
abbrev pub IsSameHead : Digest → Divergence → Head → Type 0
IsSameHead spec divergence One = Unit {0}
IsSameHead spec divergence (Two v d) = (d ≡ spec) × (v ≡ divergence)

-- the head tells another digest
abbrev pub TellsOtherSpec : Digest → Head → Type 0
TellsOtherSpec spec One = ⊥
TellsOtherSpec spec (Two v d) = ¬ (d ≡ spec)

-- the head tells this digest, and another reading of divergence
abbrev pub TellsOtherDivergence : Digest → Divergence → Head → Type 0
TellsOtherDivergence spec divergence One = ⊥
TellsOtherDivergence spec divergence (Two v d) = (d ≡ spec) × ¬ (v ≡ divergence)

-- log k, counted from 1, is the first whose head isn't the same, and of its head this holds
pub record IsFirstOther (spec : Digest) (divergence : Divergence) (logs : List Named) (k : ℕ) (Tells : Head → Type 0) : Type 0 where
  pub before : List Named
  pub log : Named
  pub others : List Named
  pub whole : logs ≡ before ++ log ∷ others
  pub same : All (λ n. IsSameHead spec divergence n.head) before
  pub tells : Tells log.head
  pub number : k ≡ length before + 1

-- why logs are refused for their heads
abbrev pub RefusesHeads : Digest → Divergence → List Named → OtherHead → Type 0
RefusesHeads spec divergence logs (OtherSpec k) = IsFirstOther spec divergence logs k (TellsOtherSpec spec)
RefusesHeads spec divergence logs (OtherDivergence k) = IsFirstOther spec divergence logs k (TellsOtherDivergence spec divergence)

-- no log is refused for its head
abbrev pub AreSameHeads : Digest → Divergence → List Named → Type 0
AreSameHeads spec divergence logs = All (λ n. IsSameHead spec divergence n.head) logs

-- what the head of log k tells otherwise
abbrev pub TellsOther : Digest → Divergence → Head → ℕ → OtherHead → Type 0
TellsOther spec divergence head k (OtherSpec n) = (n ≡ k) × TellsOtherSpec spec head
TellsOther spec divergence head k (OtherDivergence n) = (n ≡ k) × TellsOtherDivergence spec divergence head
