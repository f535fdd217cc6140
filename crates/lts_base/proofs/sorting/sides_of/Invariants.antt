use Rattle.std.proofs.Common.{◌≡◌, ℕ, List, Bool, not, take, map}
use Rattle.std.specs.List.{filter}
use Rattle.lts_base.specs.Numbered.{shown}
use Rattle.lts_base.proofs.sorting.sides_of.Given as goal

abbrev pub invariant-loop-place : goal.invariant-loop-place
invariant-loop-place l = (p : List ℕ → Bool) → l.flags ≡ map p (shown l.texts) →
    (l.sides.inputs.items ≡ filter p (take l.place (shown l.texts))) × (l.sides.outputs.items ≡ filter (λ t. not (p t)) (take l.place (shown l.texts)))
