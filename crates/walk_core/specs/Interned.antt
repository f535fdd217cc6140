-- Private: what is kept beside the sets of a walk.
use Rattle.std.specs.Prelude.{◌≡◌, ℕ, ◌+◌, ◌-◌, ◌<◌, ◌≤◌, List, [], ◌∷◌, length, All, Option, Some, None, Bool, slice_index_or as get_or, slice_set}
use Rattle.lts_base.specs.declared.item.Item.{Item}
use Rattle.lts_base.specs.After.{IsSetAfter}
use Rattle.lts_base.specs.Next.{IsNext}
use Rattle.lts_base.specs.Reached.{total_members}
use Rattle.state_sets.specs.Taus.{AreTauFlags}
use Rattle.walk_core.specs.declared.interned.Next.{Next}
use Rattle.walk_core.specs.declared.interned.Next.TheVariants.{Known, Made}
use Rattle.walk_core.specs.Walked.{Walked, IsWalk, set_at}

-- for each state there is a number: 0, or one above the number of the set that has this state alone
pub record AreAlone (states : ℕ) (sets : List (List ℕ)) (alone : List ℕ) : Type 0 where
  pub long : length alone ≡ states
  pub each : (q : ℕ) → 0 < get_or alone q 0 → (get_or alone q 0 ≤ length sets) × (set_at sets (get_or alone q 0 - 1) ≡ q ∷ [])

-- the numbers with that of one more set, if it has one state alone
abbrev pub with_alone : List ℕ → Option ℕ → ℕ → List ℕ
with_alone alone (Some q) n = slice_set alone q (n + 1)
with_alone alone None n = alone

-- the walk is sound, its first set is the opening set, the sizes of its sets add up to this count, its search is over as
-- many states as the system has, sets of one state are found by it, and the flags are those of Tau
pub record IsInterned (w : Walked) (count searched : ℕ) (alone : List ℕ) (flags : List Bool) : Type 0 where
  pub walk : IsWalk w
  pub some : 0 < length w.sets
  pub opening : IsSetAfter w.system [] (set_at w.sets 0)
  pub members : count ≡ total_members w.sets
  pub states : searched ≡ w.system.states
  pub single : AreAlone w.system.states w.sets alone
  pub taus : AreTauFlags w.system flags

-- the next list is that of a set which is there, or was made
abbrev pub IsNextOf : Walked → ℕ → Item → Next → Type 0
IsNextOf w k x (Known n) = (n < length w.sets) × IsNext w.system x (set_at w.sets k) (set_at w.sets n)
IsNextOf w k x (Made qs) = IsNext w.system x (set_at w.sets k) qs × All (λ q. q < w.system.states) qs
