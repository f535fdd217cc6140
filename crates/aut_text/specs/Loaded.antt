-- Promise: what is read of an Aldebaran file while its bytes come.
use Rattle.std.specs.Prelude.{◌≡◌, ℕ, ◌<◌, ◌≤◌, List, length, take, Option, IfSome, Result, MatchResult, ◌⊎◌}
use Rattle.lts_base.specs.Raw.{RawSystem}
use Rattle.edge_io.specs.Outside.{ToldFiles, FailsAt}
use Rattle.edge_io.specs.Taps.{Takes}
use Rattle.aut_text.specs.declared.error.AutError.{AutError}
use Rattle.aut_text.specs.declared.error.AutError.TheVariants.{Memory as NoMemory}
use Rattle.aut_text.specs.declared.load.AutLoad.{AutLoad}
use Rattle.aut_text.specs.declared.load.AutLoad.TheVariants.{Failed, TooLong, Bad, Memory}
use Rattle.aut_text.specs.Grammar.{IsAutFile}
use Rattle.aut_text.specs.Faults.{RefusesAut}
use Rattle.aut_text.specs.Shown.{Shows, ShowsNone}

-- the system is that of the bytes, which are the whole content, where it is told; there are at most so many, and the tap took
-- them once, in order
pub record IsLoaded (content : Option (List ℕ)) (most : ℕ) (before after : List ℕ → Type 0) (raw : RawSystem) : Type 0 where
  pub bytes : List ℕ
  pub file : IsAutFile bytes raw
  pub short : length bytes ≤ most
  pub whole : IfSome content (λ c. bytes ≡ c)
  pub tapped : Takes before after bytes

-- the first `most` bytes show no fault, and there is a further byte
abbrev pub IsTooLong : ℕ → List ℕ → Type 0
IsTooLong most content = (most < length content) × ShowsNone (take most content)

-- the first `most` bytes show the fault; or there are no others, and it is the content's
abbrev pub IsMetFirst : ℕ → List ℕ → AutError → Type 0
IsMetFirst most content e = Shows (take most content) e ⊎ ((length content ≤ most) × RefusesAut content e)

-- some content has this, and it is the told one, where one is told
pub record IsOfContent (told : Option (List ℕ)) (P : List ℕ → Type 0) : Type 0 where
  pub content : List ℕ
  pub has : IfSome told (λ c. content ≡ c)
  pub so : P content

-- why a file of this name has no system
abbrev pub RefusesLoad : ToldFiles → ToldFiles → List ℕ → ℕ → AutLoad → Type 0
RefusesLoad old new name most Failed = FailsAt old new name
RefusesLoad old new name most TooLong = IsOfContent (old.content name) (IsTooLong most)
RefusesLoad old new name most (Bad e) = (¬ (e ≡ NoMemory)) × IsOfContent (old.content name) (λ c. IsMetFirst most c e)
RefusesLoad old new name most Memory = Unit {0}

-- the file of this name has this system, and the tap took its bytes; or this is why it has none
abbrev pub LoadsAut : ToldFiles → ToldFiles → List ℕ → ℕ → (List ℕ → Type 0) → (List ℕ → Type 0) → Result RawSystem AutLoad → Type 0
LoadsAut old new name most before after result = MatchResult result (IsLoaded (old.content name) most before after) (RefusesLoad old new name most)

-- how the error of a reader is answered
abbrev pub load_fault : AutError → AutLoad
load_fault NoMemory = Memory
load_fault e = Bad e

-- the content shows the fault, or memory ran out
abbrev pub IsShownAs : List ℕ → AutLoad → Type 0
IsShownAs content (Bad e) = Shows content e
IsShownAs content Memory = Unit {0}
IsShownAs content other = ⊥

-- the content is refused with the fault, or memory ran out
abbrev pub IsRefusedAs : List ℕ → AutLoad → Type 0
IsRefusedAs content (Bad e) = (¬ (e ≡ NoMemory)) × RefusesAut content e
IsRefusedAs content Memory = Unit {0}
IsRefusedAs content other = ⊥

-- the content shows no fault, or else this one
abbrev pub IsPast : List ℕ → AutLoad → Type 0
IsPast content TooLong = ShowsNone content
IsPast content (Bad e) = Shows content e
IsPast content Memory = Unit {0}
IsPast content Failed = ⊥
