-- Promise: the rule of a simulated implementation.
-- It keeps one state of its system, the start at first, and a generator that draws the moves. On a cycle of internal moves that is
-- read as quiet it may stay silent, and it takes an input on the shortest way that there is.
use Rattle.std.specs.Prelude.{◌≡◌, ℕ, ◌%◌, ◌<◌, List, [], ◌∷◌, length, ◌⊎◌, Option, Some, None}
use Rattle.lts_base.specs.declared.action.Act.{Act as MoveAct}
use Rattle.lts_base.specs.declared.action.Act.TheVariants.{Tau, Label}
use Rattle.lts_base.specs.declared.action.Move.{Move}
use Rattle.lts_base.specs.System.{System, IsQuiet, IsOnQuietCycle, IsTauPath, Takes}
use Rattle.sim_core.specs.declared.among.Among.{Among}
use Rattle.sim_core.specs.declared.among.Among.TheVariants.{Outputs, Taking, Only}
use Rattle.sim_core.specs.Drawn.{open_moves, choices_at, IsDrawn}

-- where a simulation is: its state and its generator
pub record Place (R : Type 0) : Type 0 where
  pub at : ℕ
  pub rng : R

-- internal moves are drawn one after the other among the open moves, each at a state that isn't on a quiet cycle
abbrev pub Goes : {R : Type 0} → (R → ℕ × R) → System → Among → Place R → List Move → Place R → Type 0
Goes step s among p [] q = q ≡ p
Goes {R} step s among p (m ∷ ms) q = (¬ IsOnQuietCycle s p.at) × (next : R) × IsDrawn step (open_moves s among p.at) p.rng m next × (m.act ≡ Tau) ×
    Goes step s among (record { at = m.to; rng = next }) ms q

-- a move with the label a is drawn among the open moves
abbrev pub Draws : {R : Type 0} → (R → ℕ × R) → System → Among → Place R → ℕ → Place R → Type 0
Draws {R} step s among p a q = (m : Move) × IsDrawn step (open_moves s among p.at) p.rng m q.rng × (m.act ≡ Label a) × (q.at ≡ m.to)

-- after internal moves a move with the label a is drawn, at a state that isn't on a quiet cycle
abbrev pub Steps : {R : Type 0} → (R → ℕ × R) → System → Among → Place R → ℕ → Place R → Type 0
Steps {R} step s among p a q = (ms : List Move) × (u : Place R) × Goes step s among p ms u × (¬ IsOnQuietCycle s u.at) × Draws step s among u a q

-- after internal moves it is in a quiet state
abbrev pub Rests : {R : Type 0} → (R → ℕ × R) → System → Place R → Place R → Type 0
Rests step s p q = (ms : List Move) × Goes step s (Outputs s.inputs) p ms q × IsQuiet s q.at

-- it goes on among internal moves and outputs: it comes to rest, or shows the output
abbrev pub GoesOn : {R : Type 0} → (R → ℕ × R) → System → Place R → Option ℕ → Place R → Type 0
GoesOn step s p None q = Rests step s p q
GoesOn step s p (Some a) q = Steps step s (Outputs s.inputs) p a q

-- the move is made: after an internal one it goes on, and an output is shown
abbrev pub Makes : {R : Type 0} → (R → ℕ × R) → System → MoveAct → Place R → Option ℕ → Place R → Type 0
Makes step s Tau p label q = GoesOn step s p label q
Makes step s (Label a) p label q = (label ≡ Some a) × (q ≡ p)

-- what was drawn is done: a move, or to stay where it is and show nothing
abbrev pub Does : {R : Type 0} → (R → ℕ × R) → System → Place R → Option Move → Option ℕ → Place R → Type 0
Does step s p (Some m) label q = Makes step s m.act (record p { at = m.to }) label q
Does step s p None label q = (label ≡ None) × (q ≡ p)

-- on a quiet cycle it draws among its internal moves and outputs and, last, to stay
abbrev pub Leaves : {R : Type 0} → (R → ℕ × R) → System → Place R → Option ℕ → Place R → Type 0
Leaves {R} step s p label q = (choice : Option Move) × (next : R) × IsDrawn step (choices_at s (Outputs s.inputs) p.at) p.rng choice next ×
    Does step s (record p { rng = next }) choice label q

-- what a hearing shows: an output, or nothing
abbrev pub Hears : {R : Type 0} → (R → ℕ × R) → System → Place R → Option ℕ → Place R → Type 0
Hears step s p label q = (IsOnQuietCycle s p.at × Leaves step s p label q) ⊎ ((¬ IsOnQuietCycle s p.at) × GoesOn step s p label q)

-- a look draws of 2: 0 shows nothing, and 1 is as a hearing
abbrev pub Looks : {R : Type 0} → (R → ℕ × R) → System → Place R → Option ℕ → Place R → Type 0
Looks step s p label q = (((step p.rng).0 % 2 ≡ 0) × (label ≡ None) × (q ≡ record p { rng = (step p.rng).1 })) ⊎
    (((step p.rng).0 % 2 ≡ 1) × Hears step s (record p { rng = (step p.rng).1 }) label q)

-- the first list comes before the other, item by item, or they are the same
abbrev pub IsLexAtMost : List ℕ → List ℕ → Type 0
IsLexAtMost [] ys = Unit {0}
IsLexAtMost (x ∷ xs) [] = ⊥
IsLexAtMost (x ∷ xs) (y ∷ ys) = (x < y) ⊎ ((x ≡ y) × IsLexAtMost xs ys)

-- the first list is shorter, or they are as long as each other and it comes first or is the same
abbrev pub IsLessOrSame : List ℕ → List ℕ → Type 0
IsLessOrSame xs ys = (length xs < length ys) ⊎ ((length xs ≡ length ys) × IsLexAtMost xs ys)

-- internal moves lead from p along the states to q, which takes the input a
abbrev pub IsWay : System → ℕ → ℕ → List ℕ → ℕ → Type 0
IsWay s a p rs q = IsTauPath s p rs q × Takes s q a

-- of these ways it has the fewest moves, and of those with so few its list of states is the least
pub record IsLeastWay (s : System) (a p : ℕ) (rs : List ℕ) (q : ℕ) : Type 0 where
  pub way : IsWay s a p rs q
  pub least : (ss : List ℕ) (r : ℕ) → IsWay s a p ss r → IsLessOrSame rs ss

-- on a quiet cycle it goes the least way to a state with the input a, and draws one of the moves with it there
abbrev pub Detours : {R : Type 0} → (R → ℕ × R) → System → Place R → ℕ → Place R → Type 0
Detours step s p a q = IsOnQuietCycle s p.at × (rs : List ℕ) × (r : ℕ) × IsLeastWay s a p.at rs r × Draws step s (Only a) (record p { at = r }) a q

-- it takes the input a: it draws among internal moves and those with the input, until one with the input is drawn or it comes to a
-- quiet cycle
abbrev pub TakesInput : {R : Type 0} → (R → ℕ × R) → System → Place R → ℕ → Place R → Type 0
TakesInput {R} step s p a q = Steps step s (Taking a) p a q ⊎ ((ms : List Move) × (u : Place R) × Goes step s (Taking a) p ms u × Detours step s u a q)
