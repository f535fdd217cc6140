-- Laws on what is heard of a simulation.
use Rattle.std.proofs.Common.{◌≡◌, ℕ, ◌<◌, ◌≤◌, ◌%◌, true, List, [], ◌∷◌, ◌++◌, length, get_or, map, Contains, Option, Some, None, refl, sym, ◌∙◌, arith, inl, inr}
use Rattle.std.proofs.lemmas.Nat.{mod_below}
use Rattle.std.proofs.lemmas.List.{length-map, get_or-map}
use Rattle.std.proofs.lemmas.List.Elements.{All-contains, Contains-push_cases}
use Rattle.std.proofs.lemmas.Bool.Decides.{nat_tests, Decides-eqb}
use Rattle.lts_base.specs.declared.action.Act.{Act}
use Rattle.lts_base.specs.declared.action.Act.TheVariants.{Tau, Label}
use Rattle.lts_base.specs.declared.action.Move.{Move}
use Rattle.lts_base.specs.System.{System, HasMove, IsSystem, IsMoveOf, AreMovesOf, IsQuiet, leaves, label_count}
use Rattle.std.specs.List.{filter}
use Rattle.lts_base.proofs.MoveLaws.{Contains-filter, Contains-from_filter}
use Rattle.lts_base.proofs.ListLaws.{Contains-none}
use Rattle.sim_core.specs.declared.among.Among.{Among}
use Rattle.sim_core.specs.declared.among.Among.TheVariants.{Outputs}
use Rattle.sim_core.specs.Drawn.{is_open, open_of, open_moves, choices_of, IsDrawn}
use Rattle.sim_core.specs.Simulated.{Place, GoesOn, Leaves}
use Rattle.sim_core.specs.Gone.{Halts, IsGone}

-- a move that is open stands among the open ones
pub Contains-open_moves : (s : System) (among : Among) (p : ℕ) (act : Act) (q : ℕ) → HasMove s p act q → is_open among act ≡ true → Contains (open_moves s among p) (record { from = p; act = act; to = q })
Contains-open_moves s among p act q has opens =
    Contains-filter (λ (m : Move). is_open among m.act) _ _ (Contains-filter (leaves p) s.moves _ has ((Decides-eqb p p).1 refl)) opens

-- a state at which it halts among internal moves and outputs is quiet
pub quiet_from_halts : (s : System) (p : ℕ) → Halts s (Outputs s.inputs) p → IsQuiet s p
quiet_from_halts s p (inl cycle) = inr cycle
quiet_from_halts s p (inr none) = inl ((λ q has. out Tau q has refl), λ a above takes. out (Label a) takes.0 takes.1 (opens a above))
  where
    opens : (a : ℕ) → s.inputs ≤ a → is_open (Outputs s.inputs) (Label a) ≡ true
    opens a above = grind (arith, nat_tests, above)

    out : (act : Act) (q : ℕ) → HasMove s p act q → is_open (Outputs s.inputs) act ≡ true → ⊥
    out act q has opens = Contains-none _ (rw none at (Contains-open_moves s (Outputs s.inputs) p act q has opens))

-- it has gone on among internal moves and outputs
pub GoesOn-from_gone : {R : Type 0} (step : R → ℕ × R) (s : System) (p : Place R) (label : Option ℕ) (q : Place R) → IsGone step s (Outputs s.inputs) p label q → GoesOn step s p label q
GoesOn-from_gone step s p None q (ms, goes, halts) = (ms, goes, quiet_from_halts s q.at halts)
GoesOn-from_gone step s p (Some a) q steps = steps

-- a move that is chosen is one of the moves
pub Contains-choice : (ms : List Move) (m : Move) → Contains (map Some ms ++ None ∷ []) (Some m) → Contains ms m
Contains-choice ms m has = elim (Contains-push_cases (map Some ms) None (Some m) has) [
  | inl (k, below, at) ↦
      let low : k < length ms = omega (arith, below, length-map ms Some) in
      let both : Some (get_or ms k m) ≡ Some m = sym (get_or-map Some ms k m (Some m) low) ∙ at in
      let same : get_or ms k m ≡ m = cc in
      (k, low, same)
  | inr none ↦ cc
]

pub choice_move : {R : Type 0} (step : R → ℕ × R) (s : System) (p : ℕ) (among : Among) (ms : List Move) (rng : R) (m : Move) (next : R) → IsSystem s → AreMovesOf s p ms →
    IsDrawn step (choices_of among ms) rng (Some m) next → (m.from ≡ p) × Contains s.moves m × (m.to < s.states)
choice_move step s p among ms rng m next system these (some, is, after) =
    let xs : List (Option Move) = choices_of among ms in
    let inside : Contains xs (Some m) = ((step rng).0 % length xs, mod_below _ _ some, sym (is (Some m))) in
    let one = All-contains (λ (n : Move). (n.from ≡ p) × Contains s.moves n) ms m these.each (Contains-from_filter (λ (n : Move). is_open among n.act) ms m (Contains-choice (open_of among ms) m inside)) in
    (one.0, one.1, (All-contains (IsMoveOf s.states (label_count s)) s.moves m system.moves one.1).to)

-- from a quiet cycle it goes on after an internal move that was chosen
pub leaves_on : {R : Type 0} (step : R → ℕ × R) (s : System) (p : Place R) (inputs : ℕ) (ms : List Move) (m : Move) (next : R) (label : Option ℕ) (q : Place R) → inputs ≡ s.inputs →
    ms ≡ filter (leaves p.at) s.moves → IsDrawn step (choices_of (Outputs inputs) ms) p.rng (Some m) next → m.act ≡ Tau → IsGone step s (Outputs inputs) (record { at = m.to; rng = next }) label q →
    Leaves step s p label q
leaves_on step s p inputs ms m next label q same value drawn tau gone =
    (Some m, next, rw (same, value) at drawn, rw tau (GoesOn-from_gone step s (record { at = m.to; rng = next }) label q (rw same at gone)))
