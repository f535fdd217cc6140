-- Promise: what a walk stands for, and what its calls do to it.
use Rattle.lts_base.specs.declared.limits.TheConstants.{MOST_MEMBERS}
use Rattle.std.specs.Prelude.{◌≡◌, ℕ, ◌+◌, ◌<◌, ◌≤◌, List, [], ◌∷◌, ◌++◌, length, All, Contains, Option, Some, None, slice_index_or as get_or}
use Rattle.std.specs.List.Sorted.{IsStrictlyIncreasing}
use Rattle.lts_base.specs.declared.item.Item.{Item}
use Rattle.lts_base.specs.System.{System, IsSystem}
use Rattle.lts_base.specs.After.{IsSetAfter}
use Rattle.lts_base.specs.Next.{IsNext}
use Rattle.lts_base.specs.Reached.{trace_at, with_new, distinct, total_members}

-- a walk: the system, the most members that its sets may have together, and its sets in the order in which they were found
pub record Walked : Type 0 where
  pub system : System
  pub limit : ℕ
  pub sets : List (List ℕ)

abbrev pub set_at : List (List ℕ) → ℕ → List ℕ
set_at sets k = get_or sets k []

-- the list of states is a set of the system: not empty, strictly ascending, and within its states
pub record IsSetOf (s : System) (ps : List ℕ) : Type 0 where
  pub some : 0 < length ps
  pub rising : IsStrictlyIncreasing ps
  pub within : All (λ p. p < s.states) ps

-- the walk is sound: its sets are sets of the system, each stands once, and their sizes add up to at most the limit
pub record IsWalk (w : Walked) : Type 0 where
  pub system : IsSystem w.system
  pub sets : All (IsSetOf w.system) w.sets
  pub once : (j k : ℕ) → j < k → k < length w.sets → ¬ (set_at w.sets j ≡ set_at w.sets k)
  pub within : total_members w.sets ≤ w.limit
  pub limit : w.limit ≤ MOST_MEMBERS

-- the walk holds the set after the empty trace, and no other
pub record IsFresh (w : Walked) : Type 0 where
  pub walk : IsWalk w
  pub alone : length w.sets ≡ 1
  pub opening : IsSetAfter w.system [] (set_at w.sets 0)

-- from old to new nothing changed but that sets may have been added at the end
pub record Grows (old new : Walked) : Type 0 where
  pub system : new.system ≡ old.system
  pub limit : new.limit ≡ old.limit
  pub sets : (more : List (List ℕ)) × (new.sets ≡ old.sets ++ more)

-- the step by the item from set number k answered this set number: None where the next set is empty, and nothing was added;
-- else the number of the next set, which was added at the end where it wasn't there
abbrev pub IsStep : Walked → Walked → ℕ → Item → Option ℕ → Type 0
IsStep old new k x None = IsNext old.system x (set_at old.sets k) [] × (new.sets ≡ old.sets)
IsStep old new k x (Some n) = (qs : List ℕ) × IsNext old.system x (set_at old.sets k) qs × IsSetOf old.system qs ×
    (new.sets ≡ with_new old.sets qs) × (n < length new.sets) × (set_at new.sets n ≡ qs)

-- the node, if there is one, is that of the set after the trace; there is none exactly where that set is empty
abbrev pub IsNodeAfter : Walked → List Item → Option ℕ → Type 0
IsNodeAfter w σ None = IsSetAfter w.system σ []
IsNodeAfter w σ (Some n) = (n < length w.sets) × (0 < length (set_at w.sets n)) × IsSetAfter w.system σ (set_at w.sets n)

-- from the node of the set after a trace, the step led to the node of the set after the trace with the item
abbrev pub LeadsTo : Walked → Walked → ℕ → Item → Option ℕ → Type 0
LeadsTo old new k x to = (σ : List Item) → IsSetAfter old.system σ (set_at old.sets k) → IsNodeAfter new (σ ++ x ∷ []) to

-- the next set isn't empty and isn't there, and with it the sizes would add up to `reached`, above the limit
abbrev pub IsFull : Walked → ℕ → Item → ℕ → Type 0
IsFull w k x reached = (qs : List ℕ) × IsNext w.system x (set_at w.sets k) qs × IsSetOf w.system qs × (¬ Contains w.sets qs) ×
    (reached ≡ total_members w.sets + length qs) × (w.limit < reached)

-- the lists are the sets after the traces, one for each
pub record AreSetsAfter (s : System) (traces : List (List Item)) (lists : List (List ℕ)) : Type 0 where
  pub long : length lists ≡ length traces
  pub each : (k : ℕ) → k < length traces → IsSetAfter s (trace_at traces k) (get_or lists k [])

-- the walk's list is the account of the traces: the distinct sets after them, each at its first place
abbrev pub IsAccount : Walked → List (List Item) → Type 0
IsAccount w traces = (lists : List (List ℕ)) × AreSetsAfter w.system traces lists × (w.sets ≡ distinct lists)

-- the account of the traces has this size
abbrev pub HasAccountOf : System → List (List Item) → ℕ → Type 0
HasAccountOf s traces size = (lists : List (List ℕ)) × AreSetsAfter s traces lists × (size ≡ total_members (distinct lists))
