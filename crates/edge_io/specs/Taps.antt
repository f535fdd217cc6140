-- Promise: what a tap takes.
use Rattle.std.specs.Prelude.{ℕ, List, ◌++◌}

-- whatever bytes were taken before, afterwards these are taken too, at the end
abbrev pub Takes : (List ℕ → Type 0) → (List ℕ → Type 0) → List ℕ → Type 0
Takes before after bytes = (taken : List ℕ) → before taken → after (taken ++ bytes)
