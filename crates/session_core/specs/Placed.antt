-- Private: the node of what was done in a session.
use Rattle.std.specs.Prelude.{◌≡◌, ℕ, ◌<◌, List, length}
use Rattle.lts_base.specs.declared.item.Item.{Item}
use Rattle.lts_base.specs.declared.item.Mode.{Mode}
use Rattle.lts_base.specs.After.{IsSetAfter}
use Rattle.lts_base.specs.Conformance.{IsAllowed}
use Rattle.walk_core.specs.Walked.{Walked, set_at, IsWalk}

-- set number k is the set after the items, which are an allowed trace
pub record IsAt (w : Walked) (mode : Mode) (k : ℕ) (σ : List Item) : Type 0 where
  pub walk : IsWalk w
  pub within : k < length w.sets
  pub set : IsSetAfter w.system σ (set_at w.sets k)
  pub allowed : IsAllowed mode w.system σ
