-- Promise: why a step of a walk was refused, and the account that it keeps.
use Rattle.std.specs.Prelude.{◌≡◌, ℕ, ◌+◌, ◌<◌, List, [], ◌∷◌, ◌++◌, length, Contains, Result, MatchResult}
use Rattle.lts_base.specs.declared.item.Item.{Item}
use Rattle.lts_base.specs.System.{System}
use Rattle.lts_base.specs.Path.{Has}
use Rattle.lts_base.specs.After.{IsSetAfter}
use Rattle.lts_base.specs.Reached.{total_members}
use Rattle.walk_core.specs.declared.walk.WalkError.{WalkError}
use Rattle.walk_core.specs.declared.walk.WalkError.TheVariants.{Full, Memory}
use Rattle.walk_core.specs.Walked.{Walked, set_at, IsFull, IsAccount, HasAccountOf}

-- the step by the item from set number k is refused: it would pass the limit, or there is no memory
abbrev pub Refuses : Walked → ℕ → Item → WalkError → Type 0
Refuses w k x (Full reached) = IsFull w k x reached
Refuses w k x Memory = Unit {0}

-- the account of the traces is above the limit, and has this size; or there is no memory
abbrev pub RefusesAccount : Walked → List (List Item) → WalkError → Type 0
RefusesAccount w traces (Full reached) = HasAccountOf w.system traces reached × (w.limit < reached)
RefusesAccount w traces Memory = Unit {0}

-- the law of accounts: where the list is the account of some traces, the node's set is the one after a trace and the system has
-- that trace with the item, the list is then the account with this trace appended, or this account is refused
abbrev pub KeepsAccount : {A : Type 0} → Walked → Walked → ℕ → Item → Result A WalkError → Type 0
KeepsAccount old new k x result = (traces : List (List Item)) (σ : List Item) → IsAccount old traces → IsSetAfter old.system σ (set_at old.sets k) →
    Has old.system (σ ++ x ∷ []) → MatchResult result (λ _. IsAccount new (traces ++ (σ ++ x ∷ []) ∷ [])) (RefusesAccount old (traces ++ (σ ++ x ∷ []) ∷ []))

-- no walk of the system with this limit begins: the set after the empty trace alone passes the limit, and has this size; or
-- there is no memory
abbrev pub RefusesOpening : System → ℕ → WalkError → Type 0
RefusesOpening s most (Full reached) = (ps : List ℕ) × IsSetAfter s [] ps × (reached ≡ length ps) × (most < reached)
RefusesOpening s most Memory = Unit {0}

-- the set isn't kept: it isn't there, and with it the sizes would add up to this number, above the limit; or there is no memory
abbrev pub RefusesSet : Walked → List ℕ → WalkError → Type 0
RefusesSet w qs (Full reached) = (¬ Contains w.sets qs) × (reached ≡ total_members w.sets + length qs) × (w.limit < reached)
RefusesSet w qs Memory = Unit {0}
