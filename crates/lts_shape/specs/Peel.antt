-- Private: words for taking away the states that no move with Tau leads to, which private functions speak in.
use Rattle.std.specs.Prelude.{◌≡◌, ◌≢◌, ℕ, zero, suc, ◌+◌, ◌<◌, List, ◌++◌, length, take, All, Contains, Bool, true, false, not, ◌&&◌, ◌==◌, slice_index_or as get_or}
use Rattle.std.specs.List.{count_by, list_any, AllPairs}
use Rattle.lts_base.specs.declared.action.Act.{Act}
use Rattle.lts_base.specs.declared.action.Act.TheVariants.{Tau, Label}
use Rattle.lts_base.specs.declared.action.Move.{Move}
use Rattle.lts_base.specs.System.{System, HasMove}
use Rattle.lts_base.specs.Shape.{IsConvergent}
use Rattle.lts_base.specs.Finds.{IsAdded}

-- the action is Tau
abbrev pub is_tau : Act → Bool
is_tau Tau = true
is_tau (Label a) = false

-- the move carries Tau and leads to q
abbrev pub is_into : ℕ → Move → Bool
is_into q m = is_tau m.act && (m.to == q)

-- the state is one of the list
abbrev pub is_among : List ℕ → ℕ → Bool
is_among ps p = list_any (λ q. p == q) ps

-- the move carries Tau, leads to q, and leaves a state that isn't gone
abbrev pub is_left_into : List ℕ → ℕ → Move → Bool
is_left_into gone q m = is_into q m && not (is_among gone m.from)

-- for each state there is the number of the moves with Tau that lead to it
pub record AreCounts (states : ℕ) (ms : List Move) (counts : List ℕ) : Type 0 where
  pub long : length counts ≡ states
  pub each : (q : ℕ) → q < states → get_or counts q 0 ≡ count_by (is_into q) ms

-- of the first n states, these are those without a count, each once
pub record AreZeros (counts : List ℕ) (n : ℕ) (found : List ℕ) : Type 0 where
  pub all : (q : ℕ) → q < n → get_or counts q 0 ≡ 0 → Contains found q
  pub none : All (λ q. (q < n) × (get_or counts q 0 ≡ 0)) found
  pub once : AllPairs (λ p q. p ≢ q) found

-- the states gone have been taken away, but the moves of the last of them that are the rest still count: each count is
-- that of the moves from states not gone and of the rest, the finds are the states without a count, each once, and each
-- find was found after all states from which a move with Tau leads to it
pub record IsPeeling (s : System) (gone : List ℕ) (rest : List Move) (counts found : List ℕ) : Type 0 where
  pub long : length counts ≡ s.states
  pub each : (q : ℕ) → q < s.states → get_or counts q 0 ≡ count_by (is_left_into gone q) s.moves + count_by (is_into q) rest
  pub all : (q : ℕ) → q < s.states → get_or counts q 0 ≡ 0 → Contains found q
  pub none : All (λ q. (q < s.states) × (get_or counts q 0 ≡ 0)) found
  pub once : AllPairs (λ p q. p ≢ q) found
  pub kept : (more : List ℕ) × (found ≡ gone ++ more)
  pub falls : (k : ℕ) → k < length found → (p : ℕ) → HasMove s p Tau (get_or found k 0) → Contains (take k found) p

-- the state is the last find where its count came to 0, and else nothing was found
abbrev pub IsFoundAtZero : ℕ → List ℕ → ℕ → List ℕ → Type 0
IsFoundAtZero zero old q new = IsAdded old q new
IsFoundAtZero (suc n) old q new = new ≡ old

-- no state is left, and the system is convergent; or a move with Tau leads to each state left, from a state left
pub record IsPeeled (s : System) (counts : List ℕ) : Type 0 where
  pub long : length counts ≡ s.states
  pub left : (q : ℕ) → q < s.states → 0 < get_or counts q 0 → (p : ℕ) × HasMove s p Tau q × (p < s.states) × (0 < get_or counts p 0)
  pub none : All (λ n. n ≡ 0) counts → IsConvergent s
