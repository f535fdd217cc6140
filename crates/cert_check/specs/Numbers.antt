-- Private: what enters a set of numbers.
use Rattle.std.specs.Prelude.{◌≡◌, ◌↔◌, ℕ, List, Contains, ◌⊎◌}

-- the new numbers are the old ones and this one
abbrev pub Enters : List ℕ → ℕ → List ℕ → Type 0
Enters old number new = (q : ℕ) → Contains new q ↔ (Contains old q ⊎ (q ≡ number))
