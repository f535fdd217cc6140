-- Private: marks of the labels that the moves of a list of states carry.
use Rattle.std.specs.Prelude.{◌≡◌, ℕ, ◌+◌, ◌<◌, List, length, Bool, true, false, slice_index_or as get_or}
use Rattle.lts_base.specs.System.{System, Takes, label_count}

-- the labels that the state takes are marked too
pub record Marks (s : System) (p : ℕ) (old new : List Bool) : Type 0 where
  pub long : length new ≡ length old
  pub kept : (k : ℕ) → get_or old k false ≡ true → get_or new k false ≡ true
  pub marked : (a : ℕ) → Takes s p a → get_or new a false ≡ true

-- each label that one of the first n members takes has a mark, and so has `delta`
pub record ArePresent (s : System) (ps : List ℕ) (n : ℕ) (present : List Bool) : Type 0 where
  pub long : length present ≡ label_count s + 1
  pub delta : get_or present (label_count s) false ≡ true
  pub labels : (k d a : ℕ) → k < n → Takes s (get_or ps k d) a → get_or present a false ≡ true
