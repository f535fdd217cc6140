-- Promise: how many steps a walk took.
use Rattle.std.specs.Prelude.{◌≡◌, ℕ, ◌+◌, ◌*◌, ◌^◌}
use Rattle.walk_core.specs.Walked.{Walked}

-- a walk, and how many steps it took, modulo 2^64
pub record Counted : Type 0 where
  pub walked : Walked
  pub taken : ℕ

-- from one count to the other n steps were taken; both are counted modulo 2^64
abbrev pub Took : ℕ → ℕ → ℕ → Type 0
Took before after n = (turns : ℕ) × (after + turns * 2 ^ 64 ≡ before + n)
