-- Promise: what the words of the simulated implementation ask for.
use Rattle.std.specs.Prelude.{◌≡◌, ℕ, ◌<◌, ◌≤◌, List, [], ◌∷◌, length}
use Rattle.text_scan.specs.Decimal.{IsDecimal}
use Rattle.sim_serve.specs.declared.limits.TheConstants.{MOST_SESSIONS}
use Rattle.sim_serve.specs.declared.words.Request.{Request}

-- the file of the implementation, the address at which testers come in, the number of the first session's generator, and how many
-- sessions there are to be
pub record Asked : Type 0 where
  pub imp : List ℕ
  pub address : List ℕ
  pub number : ℕ
  pub sessions : ℕ

-- the same, as the code has it
abbrev pub request_from : Request → Asked
request_from q = record { imp = q.imp.now; address = q.address.now; number = q.number; sessions = q.sessions }

-- the word is a decimal from 1 to the most sessions
abbrev pub IsSessions : List ℕ → ℕ → Type 0
IsSessions word count = IsDecimal word count × (1 ≤ count) × (count ≤ MOST_SESSIONS)

-- the four words ask for this
pub record IsRequest (imp address number sessions : List ℕ) (asked : Asked) : Type 0 where
  pub imp_is : asked.imp ≡ imp
  pub imp_some : 0 < length imp
  pub address_is : asked.address ≡ address
  pub address_some : 0 < length address
  pub number_is : IsDecimal number asked.number
  pub sessions_is : IsSessions sessions asked.sessions

-- the words are four, and ask for this
abbrev pub AsksFor : List (List ℕ) → Asked → Type 0
AsksFor (imp ∷ address ∷ number ∷ sessions ∷ []) asked = IsRequest imp address number sessions asked
AsksFor words asked = ⊥

-- the words ask for nothing
abbrev pub IsNoRequest : List (List ℕ) → Type 0
IsNoRequest words = (asked : Asked) → ¬ AsksFor words asked
