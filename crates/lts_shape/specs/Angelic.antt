-- Promise: the completion of a system by loops.
-- Tretmans (2008), angelic completion, over inputs that can't follow moves with Tau.
use Rattle.std.specs.Prelude.{◌≡◌, ◌≢◌, ℕ, ◌+◌, ◌<◌, ◌≤◌, List, ◌++◌, length, All, Contains, Result, MatchResult, ◌⊎◌}
use Rattle.std.specs.List.{AllPairs}
use Rattle.std.specs.List.Sorted.{IsPermutation}
use Rattle.lts_base.specs.declared.action.Act.TheVariants.{Label}
use Rattle.lts_base.specs.declared.action.Move.{Move}
use Rattle.lts_base.specs.declared.divergence.Divergence.{Divergence}
use Rattle.lts_base.specs.declared.limits.TheConstants.{MOST_MOVES}
use Rattle.lts_base.specs.System.{System}
use Rattle.lts_shape.specs.declared.completion.ShapeError.{ShapeError}
use Rattle.lts_shape.specs.declared.completion.ShapeError.TheVariants.{TooManyMoves, Memory}
use Rattle.lts_shape.specs.Inputs.{CanTake, Lacks}

-- the loop at the state q with the label a
abbrev pub loop_with : ℕ → ℕ → Move
loop_with q a = record { from = q; act = Label a; to = q }

-- the move is a loop at a state with an input that the state lacks
abbrev pub IsMissingLoop : System → Move → Type 0
IsMissingLoop s m = (q : ℕ) × (a : ℕ) × (m ≡ loop_with q a) × (q < s.states) × (a < s.inputs) × Lacks s a q

-- these are distinct loops with inputs that their states lack
pub record AreMissingLoops (s : System) (loops : List Move) : Type 0 where
  pub each : All (IsMissingLoop s) loops
  pub once : AllPairs (λ m n. m ≢ n) loops

-- there is exactly one loop for each state and each input that it lacks: each state can take each input, or has the loop
pub record AreAllLoops (s : System) (loops : List Move) : Type 0 where
  pub missing : AreMissingLoops s loops
  pub all : (q a : ℕ) → q < s.states → a < s.inputs → CanTake s a q ⊎ Contains loops (loop_with q a)

-- the system t is s with one loop more for each state and each input that the state lacks; cycles of moves with Tau are
-- read in it as in s
pub record IsAngelic (s t : System) : Type 0 where
  pub states : t.states ≡ s.states
  pub start : t.start ≡ s.start
  pub inputs : t.inputs ≡ s.inputs
  pub outputs : t.outputs ≡ s.outputs
  pub divergence : t.divergence ≡ s.divergence
  pub moves : (loops : List Move) × AreAllLoops s loops × IsPermutation (s.moves ++ loops) t.moves

-- why the system isn't completed: with the loops that it lacks there are more than `MOST_MOVES` moves
abbrev pub RefusesAngelic : System → ShapeError → Type 0
RefusesAngelic s TooManyMoves = (loops : List Move) × AreMissingLoops s loops × (MOST_MOVES < length s.moves + length loops)
RefusesAngelic s Memory = Unit {0}

-- what is answered for a system with this completion: it has room, or the refusal says that it hasn't
abbrev pub IsCompletion : System → Result System ShapeError → Type 0
IsCompletion t result = MatchResult result (λ _. length t.moves ≤ MOST_MOVES) (λ e. (e ≡ Memory) ⊎ (MOST_MOVES < length t.moves))

-- t is the system s, whose cycles of moves with Tau are read in this way
pub record IsReadAs (divergence : Divergence) (s t : System) : Type 0 where
  pub states : t.states ≡ s.states
  pub start : t.start ≡ s.start
  pub inputs : t.inputs ≡ s.inputs
  pub outputs : t.outputs ≡ s.outputs
  pub reading : t.divergence ≡ divergence
  pub moves : t.moves ≡ s.moves

-- the list has no room for one more move
abbrev pub IsFull : List Move → ShapeError → Type 0
IsFull moves TooManyMoves = MOST_MOVES ≤ length moves
IsFull moves Memory = Unit {0}

-- the pair of the input a and the state q comes before the input n and the state p
abbrev pub IsEarlier : ℕ → ℕ → ℕ → ℕ → Type 0
IsEarlier n p a q = (a < n) ⊎ ((a ≡ n) × (q < p))

-- these are the loops for the inputs below n, and for the input n at the states below p
pub record AreLoopsBelow (s : System) (n p : ℕ) (loops : List Move) : Type 0 where
  pub missing : AreMissingLoops s loops
  pub early : (q a : ℕ) → Contains loops (loop_with q a) → IsEarlier n p a q
  pub all : (q a : ℕ) → q < s.states → a < s.inputs → IsEarlier n p a q → CanTake s a q ⊎ Contains loops (loop_with q a)

-- the moves are those of the system and then these loops, and they are within the limit
abbrev pub AreLoopsUpTo : System → ℕ → ℕ → List Move → Type 0
AreLoopsUpTo s n p moves = (length moves ≤ MOST_MOVES) × ((loops : List Move) × (moves ≡ s.moves ++ loops) × AreLoopsBelow s n p loops)
