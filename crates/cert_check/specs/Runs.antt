-- Private: the moves of a state with one action.
use Rattle.std.specs.Prelude.{ℕ, List, All, Contains}
use Rattle.lts_base.specs.declared.action.Act.{Act}
use Rattle.lts_base.specs.declared.action.Move.{Move}
use Rattle.lts_base.specs.System.{System, IsSystem, HasMove, act_place}

-- the place of what the move carries
abbrev pub move_place : Move → ℕ
move_place m = act_place m.act

-- these are the moves of the state p with the action
pub record AreMovesWith (s : System) (p : ℕ) (act : Act) (ms : List Move) : Type 0 where
  pub system : IsSystem s
  pub each : All (λ m. HasMove s p act m.to) ms
  pub all : (q : ℕ) → HasMove s p act q → Contains ms (record { from = p; act = act; to = q })
