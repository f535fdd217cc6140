-- Promise: draws of a generator.
-- A generator is a function from its state to a word and its next state; a draw of n is the word modulo n.
use Rattle.std.specs.Prelude.{◌≡◌, ℕ, ◌%◌, ◌<◌, ◌==◌, nat_lt, Bool, true, false, not, List, [], ◌∷◌, ◌++◌, length, filter, map, slice_index_or as get_or, Option, Some, None}
use Rattle.lts_base.specs.declared.action.Act.{Act}
use Rattle.lts_base.specs.declared.action.Act.TheVariants.{Tau, Label}
use Rattle.lts_base.specs.declared.action.Move.{Move}
use Rattle.lts_base.specs.System.{System, leaves}
use Rattle.sim_core.specs.declared.among.Among.{Among}
use Rattle.sim_core.specs.declared.among.Among.TheVariants.{Outputs, Taking, Only}

-- a move that carries this is open
abbrev pub is_open : Among → Act → Bool
is_open (Outputs inputs) Tau = true
is_open (Outputs inputs) (Label a) = not (nat_lt a inputs)
is_open (Taking input) Tau = true
is_open (Taking input) (Label a) = a == input
is_open (Only input) Tau = false
is_open (Only input) (Label a) = a == input

-- the open ones among the moves, in their order
abbrev pub open_of : Among → List Move → List Move
open_of among moves = filter (λ m. is_open among m.act) moves

-- the open moves of the state p, in sorted order
abbrev pub open_moves : System → Among → ℕ → List Move
open_moves s among p = open_of among (filter (leaves p) s.moves)

-- the open ones among the moves and, last, none of them
abbrev pub choices_of : Among → List Move → List (Option Move)
choices_of among moves = map Some (open_of among moves) ++ None ∷ []

abbrev pub choices_at : System → Among → ℕ → List (Option Move)
choices_at s among p = choices_of among (filter (leaves p) s.moves)

-- x is drawn from the list, which isn't empty, and the generator goes one step (d would be read past the end, and never is)
abbrev pub IsDrawn : {R X : Type 0} → (R → ℕ × R) → List X → R → X → R → Type 0
IsDrawn {X = X} step xs rng x next = (0 < length xs) × ((d : X) → x ≡ get_or xs ((step rng).0 % length xs) d) × (next ≡ (step rng).1)
