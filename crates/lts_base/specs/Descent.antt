-- Private: words for the descent that finds the states on cycles of moves with Tau.
use Rattle.std.specs.Prelude.{◌≡◌, ℕ, ◌<◌, ◌≤◌, List, [], ◌∷◌, ◌++◌, length, replicate, All, Contains, Bool, true, false, Option, Some, None, ◌⊎◌, slice_index_or as get_or}
use Rattle.std.specs.List.{AllPairs}
use Rattle.lts_base.specs.declared.action.Act.TheVariants.{Tau}
use Rattle.lts_base.specs.declared.action.Move.{Move}
use Rattle.lts_base.specs.System.{System, HasMove, TauLeads, IsOnTauCycle}
use Rattle.lts_base.specs.declared.descent.Block.{Block}
use Rattle.lts_base.specs.declared.descent.Descent.{Descent}

-- p stands on the path, at i
pub record IsAt (places : List (Option ℕ)) (path : List ℕ) (p i : ℕ) : Type 0 where
  pub place : get_or places p None ≡ Some i
  pub below : i < length path
  pub here : get_or path i 0 ≡ p

-- p stood on the path, and doesn't now
pub record IsDone (places : List (Option ℕ)) (path : List ℕ) (p : ℕ) : Type 0 where
  pub was : (i : ℕ) × (get_or places p None ≡ Some i)
  pub gone : (i : ℕ) → i < length path → ¬ (get_or path i 0 ≡ p)

-- the block of the place k isn't before that of the place i
abbrev pub IsAhead : List Block → ℕ → ℕ → Type 0
IsAhead blocks i k = (b : Block) → Contains blocks b → b.start ≤ i → b.start ≤ k

-- number t of what is to be looked at isn't in a block before that of the place i
abbrev pub IsLater : List Block → ℕ → ℕ → Type 0
IsLater blocks i t = (b : Block) → Contains blocks b → b.start ≤ i → b.base ≤ t

-- the state q, which a move with Tau leads to from the place i, is done, or stands on the path in no earlier block and
-- has a flag where it is the same place, or is still to be looked at, in no earlier block
abbrev pub IsFollowed : List (Option ℕ) → List ℕ → List Block → List ℕ → List Bool → ℕ → ℕ → Type 0
IsFollowed places path blocks pending flags i q =
    IsDone places path q
    ⊎ (((k : ℕ) × IsAt places path q k × IsAhead blocks i k × (k ≡ i → get_or flags q false ≡ true))
    ⊎ ((t : ℕ) × (t < length pending) × (get_or pending t 0 ≡ q) × IsLater blocks i t))

-- a move with Tau leads to q from the place i, whose block is that of the place t of what is to be looked at
abbrev pub IsSource : System → List ℕ → List Block → ℕ → ℕ → ℕ → Type 0
IsSource s path blocks t q i =
    (i < length path) × HasMove s (get_or path i 0) Tau q × ((b : Block) → Contains blocks b → b.base ≤ t → b.start ≤ i) × IsLater blocks i t

-- what stands of the descent. Moves with Tau lead from each place of the path to each place of its block and of later
-- blocks. The states that are done lead to such alone, and have the right flags
pub record IsStanding (s : System) (places : List (Option ℕ)) (path : List ℕ) (blocks : List Block) (flags : List Bool) : Type 0 where
  pub places_long : length places ≡ s.states
  pub flags_long : length flags ≡ s.states
  pub path_within : All (λ p. p < s.states) path
  pub placed : (i : ℕ) → i < length path → get_or places (get_or path i 0) None ≡ Some i
  pub sorted : AllPairs (λ (a b : Block). (a.start ≤ b.start) × (a.base ≤ b.base)) blocks
  pub first : 0 < length path → (b : Block) × Contains blocks b × (b.start ≡ 0)
  pub leads : (i k : ℕ) → i < length path → k < length path → IsAhead blocks i k → TauLeads s (get_or path i 0) (get_or path k 0)
  pub closed : (p q : ℕ) → IsDone places path p → HasMove s p Tau q → IsDone places path q
  pub sound : (p : ℕ) → get_or flags p false ≡ true → IsOnTauCycle s p
  pub complete : (p : ℕ) → IsDone places path p → IsOnTauCycle s p → get_or flags p false ≡ true

-- how far the descent is: each move with Tau from the path has been followed or is to be, but for those that are open
pub record IsDescent (s : System) (open_at : ℕ → ℕ → Type 0) (places : List (Option ℕ)) (path : List ℕ)
    (blocks : List Block) (pending : List ℕ) (flags : List Bool) : Type 0 where
  pub standing : IsStanding s places path blocks flags
  pub pending_within : All (λ p. p < s.states) pending
  pub within : All (λ (b : Block). (b.start ≤ length path) × (b.base ≤ length pending)) blocks
  pub followed : (i q : ℕ) → i < length path → HasMove s (get_or path i 0) Tau q → open_at i q ⊎ IsFollowed places path blocks pending flags i q
  pub sources : (t : ℕ) → t < length pending → (i : ℕ) × IsSource s path blocks t (get_or pending t 0) i

-- no move is open
abbrev pub NoneOpen : ℕ → ℕ → Type 0
NoneOpen i q = ⊥

-- the moves that lead to w are open
abbrev pub IsOpenTo : ℕ → ℕ → ℕ → Type 0
IsOpenTo w i q = q ≡ w

-- the moves of the place k are open, but for the first n
abbrev pub IsOpenFrom : ℕ → List Move → ℕ → ℕ → ℕ → Type 0
IsOpenFrom k ms n i q = (i ≡ k) × ((j : ℕ) × (d : Move) × (n ≤ j) × (j < length ms) × ((get_or ms j d).act ≡ Tau) × ((get_or ms j d).to ≡ q))

-- what has had a place has it still
abbrev pub IsKept : List (Option ℕ) → List (Option ℕ) → Type 0
IsKept old new = (p i : ℕ) → get_or old p None ≡ Some i → get_or new p None ≡ Some i

-- n of the blocks are kept: those that don't start after the place
pub record AreKept (blocks : List Block) (place n : ℕ) : Type 0 where
  pub within : n ≤ length blocks
  pub below : (j : ℕ) (d : Block) → j < n → (get_or blocks j d).start ≤ place
  pub above : (j : ℕ) (d : Block) → n ≤ j → j < length blocks → place < (get_or blocks j d).start

-- the flags of these states are set, and no others are
pub record AreMarked (states : List ℕ) (old new : List Bool) : Type 0 where
  pub long : length new ≡ length old
  pub each : (i : ℕ) → i < length states → get_or new (get_or states i 0) false ≡ true
  pub kept : (p : ℕ) → get_or old p false ≡ true → get_or new p false ≡ true
  pub from : (p : ℕ) → get_or new p false ≡ true → (get_or old p false ≡ true) ⊎ Contains states p

-- how far the descent is, by its parts
abbrev pub Stands : System → (ℕ → ℕ → Type 0) → Descent → Type 0
Stands s open_at d = IsDescent s open_at d.places.items d.path.items d.blocks.items d.pending.items d.flags.items

-- the descent has come to none of the n states
abbrev pub IsFreshDescent : ℕ → Descent → Type 0
IsFreshDescent n d =
    (d.places.items ≡ replicate n None) × (d.path.items ≡ []) × (d.blocks.items ≡ []) × (d.pending.items ≡ []) × (d.flags.items ≡ replicate n false)

-- nothing is left to be looked at
abbrev pub IsOver : System → Descent → Type 0
IsOver s d = (d.blocks.items ≡ []) × Stands s NoneOpen d

-- the descent goes on with q, which it hasn't come to, and which the states of the path lead to
abbrev pub IsPending : System → Descent → ℕ → Type 0
IsPending s d q = (q < s.states) × (get_or d.places.items q None ≡ None) ×
    ((i : ℕ) → i < length d.path.items → TauLeads s (get_or d.path.items i 0) q) × Stands s (IsOpenTo q) d

-- the last block starts here, and all that it leads to has been looked at
abbrev pub IsLastBlock : Descent → ℕ → Type 0
IsLastBlock d start = (front : List Block) × (b : Block) × (d.blocks.items ≡ front ++ b ∷ []) × (b.start ≡ start) × (length d.pending.items ≤ b.base)
