-- What happens in a session, as plain data.
use Rattle.std.specs.Prelude.{ℕ, ◌+◌, List, [], ◌∷◌}
use Rattle.walk_core.specs.declared.choice.Choice.{Choice}

-- an event: the choice, what a look or a hearing met, or that the input went out
pub data Told : Type 0 where
  Chosen : Choice → Told
  Line : List ℕ → Told
  Idle : Told
  IdleMid : List ℕ → Told
  TooLong : List ℕ → Told
  End : List ℕ → Told
  Sent : Told
