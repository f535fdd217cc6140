-- Private: how far a search by breadth is.
use Rattle.lts_base.specs.declared.limits.TheConstants.{MOST_PAIRS}
use Rattle.std.specs.Prelude.{◌≡◌, ℕ, ◌+◌, ◌<◌, ◌≤◌, List, [], ◌∷◌, ◌++◌, length, take, All, Option, Some, None, MatchOption, ◌⊎◌}
use Rattle.lts_base.specs.declared.item.Item.{Item}
use Rattle.lts_base.specs.declared.item.Mode.{Mode}
use Rattle.lts_base.specs.System.{System, label_count, IsItemOf}
use Rattle.lts_base.specs.Path.{Has}
use Rattle.lts_base.specs.After.{Shows, Allows}
use Rattle.lts_base.specs.Next.{IsNext}
use Rattle.lts_base.specs.Related.{row_of}
use Rattle.lts_base.specs.Conformance.{IsViolation}
use Rattle.lts_base.specs.Order.{place, IsAtMost}
use Rattle.lts_base.specs.Reached.{Row, row_at, trace_at, lefts, rights, distinct, AreFirstPairs, IsReachedBy, IsFine, Limits, IsWithin}
use Rattle.state_sets.specs.Finds.{IsTakenIn}
use Rattle.walk_core.specs.Walked.{Walked, set_at, IsWalk, IsStep, IsFull}
use Rattle.walk_core.specs.Taken.{Took}
use Rattle.conf_decide.specs.declared.table.Found.{Found}
use Rattle.conf_decide.specs.declared.search.Setting.{Setting}
use Rattle.conf_decide.specs.declared.search.Pace.{Pace}
use Rattle.conf_decide.specs.declared.search.Pace.TheVariants.{Nothing, Pair, ImpFull, SpecFull}
use Rattle.conf_decide.specs.declared.answer.Answer.{Answer}
use Rattle.conf_decide.specs.Decided.{limits_of, left_members, right_members, AreFineBefore, last_trace, IsDecided, ArePaid}
use Rattle.conf_decide.specs.Table.{AreEdges, nodes_of, rows_in}

-- the item has been looked at from pair m: the search is at the item with number p of pair `at`
abbrev pub IsDone : ℕ → ℕ → ℕ → ℕ → Item → Type 0
IsDone n at p m x = (m < at) ⊎ ((m ≡ at) × (place n x < p))

-- if pair m allows the item and the implementation can do it, the pair that it leads to was found, at a trace that is at
-- most this one
abbrev pub IsClosed : Mode → System → System → List Row → List (List Item) → ℕ → Item → Type 0
IsClosed mode i s rows traces m x = IsItemOf s x → Allows mode s (row_at rows m).right x → Has i (trace_at traces m ++ x ∷ []) →
    (k : ℕ) × (k < length rows) × IsReachedBy mode i s (trace_at traces m ++ x ∷ []) (row_at rows k) ×
    IsAtMost (label_count s) (trace_at traces k) (trace_at traces m ++ x ∷ [])

-- the rows are the first of the reached pairs, and fine; each but the first was found from an item that has been looked at,
-- and what was looked at is closed
pub record IsSearch (mode : Mode) (i s : System) (rows : List Row) (traces : List (List Item)) (at p : ℕ) : Type 0 where
  pub first : AreFirstPairs mode i s rows traces
  pub some : 0 < length rows
  pub opening : trace_at traces 0 ≡ []
  pub fine : (k : ℕ) → k < length rows → IsFine i s (row_at rows k)
  pub made : (k : ℕ) → 0 < k → k < length rows →
      (m : ℕ) × (x : Item) × IsDone (label_count s) at p m x × (trace_at traces k ≡ trace_at traces m ++ x ∷ [])
  pub closed : (m : ℕ) (x : Item) → m < length rows → IsDone (label_count s) at p m x → IsClosed mode i s rows traces m x

-- the pair's nodes are in the two lists of sets
abbrev pub IsInLists : List (List ℕ) → List (List ℕ) → Found → Type 0
IsInLists left right f = (f.left < length left) × (f.right < length right)

-- the search by the table's pairs and the walks' sets: the sets are the distinct ones of the pairs, and no limit is passed
pub record IsRun (mode : Mode) (limits : Limits) (i s : System) (left right : List (List ℕ)) (found : List Found) (at p : ℕ) : Type 0 where
  pub traces : List (List Item)
  pub search : IsSearch mode i s (rows_in left right found) traces at p
  pub edges : AreEdges found traces
  pub nodes : All (IsInLists left right) found
  pub left_sets : left ≡ distinct (lefts (rows_in left right found))
  pub right_sets : right ≡ distinct (rights (rows_in left right found))
  pub within : (k : ℕ) → k ≤ length found → IsWithin limits (take k (rows_in left right found))

-- the pairs with the newest one, which is tested for limits of members alone: all before it are fine and within the limits,
-- and no violation has a trace before its trace
pub record IsUntested (mode : Mode) (limits : Limits) (i s : System) (left right : List (List ℕ)) (found : List Found) : Type 0 where
  pub traces : List (List Item)
  pub first : AreFirstPairs mode i s (rows_in left right found) traces
  pub edges : AreEdges found traces
  pub nodes : All (IsInLists left right) found
  pub before : (k : ℕ) → k < length found → IsWithin limits (take k (rows_in left right found))
  pub imp : left_members (rows_in left right found) ≤ limits.imp
  pub spec : right_members (rows_in left right found) ≤ limits.spec
  pub fine : AreFineBefore i s (rows_in left right found)
  pub earlier : (τ : List Item) (y : Item) → IsViolation mode i s τ y → IsAtMost (label_count s) (last_trace traces) τ

-- x is the least item that the left list shows and the right one doesn't
pub record IsFirstWrong (i s : System) (row : Row) (x : Item) : Type 0 where
  pub shown : Shows i row.left x
  pub unshown : ¬ Shows s row.right x
  pub least : (y : Item) → Shows i row.left y → (¬ Shows s row.right y) → place (label_count s) x ≤ place (label_count s) y

-- the least item that the left set shows and the right one doesn't; where there is none, the pair is fine
abbrev pub IsWrongOrFine : Walked → Walked → ℕ → ℕ → Option Item → Type 0
IsWrongOrFine imp spec left right wrong = MatchOption wrong (IsFine imp.system spec.system (row_of imp.sets spec.sets (left, right)))
    (IsFirstWrong imp.system spec.system (row_of imp.sets spec.sets (left, right)))

-- n is a number from `from` on and at most `most`, and each label from `from` on below it that the left set takes, the right
-- one takes too
pub record IsAgreedTo (imp spec : Walked) (left right from most n : ℕ) : Type 0 where
  pub low : from ≤ n
  pub high : n ≤ most
  pub both : (a : ℕ) → from ≤ a → a < n → IsTakenIn imp.system (set_at imp.sets left) a → IsTakenIn spec.system (set_at spec.sets right) a

-- both walks are sound and have the alphabet that was told, and the limit of pairs is one that may be asked for
pub record IsSetting (setting : Setting) (imp spec : Walked) : Type 0 where
  pub imp_walk : IsWalk imp
  pub spec_walk : IsWalk spec
  pub imp_inputs : imp.system.inputs ≡ setting.inputs
  pub imp_outputs : imp.system.outputs ≡ setting.outputs
  pub spec_inputs : spec.system.inputs ≡ setting.inputs
  pub spec_outputs : spec.system.outputs ≡ setting.outputs
  pub some : 0 < setting.most_pairs
  pub few : setting.most_pairs ≤ MOST_PAIRS

-- the search by two walks has come to the item with number p of pair `at`
abbrev pub IsRunOf : Setting → Walked → Walked → List Found → ℕ → ℕ → Type 0
IsRunOf setting imp spec found at p = IsRun setting.mode (limits_of setting.most_pairs imp spec) imp.system spec.system imp.sets spec.sets found at p

-- the newest of the pairs is to be tested
abbrev pub IsNewest : Setting → Walked → Walked → List Found → Type 0
IsNewest setting imp spec found = IsUntested setting.mode (limits_of setting.most_pairs imp spec) imp.system spec.system imp.sets spec.sets found

-- the answer is right for the two walks
abbrev pub IsAnswer : Setting → Walked → Walked → Answer → Type 0
IsAnswer setting imp spec answer = IsDecided setting.mode (limits_of setting.most_pairs imp spec) imp.system spec.system answer

-- the test of a new pair: it was added, is fine and within the limit of pairs; or the answer is right
abbrev pub IsTested : Setting → Walked → Walked → List Found → Found → List Found → Option Answer → Type 0
IsTested setting imp spec old f new None = (new ≡ old ++ f ∷ []) ×
    IsFine imp.system spec.system (row_of imp.sets spec.sets (nodes_of f)) × (length new ≤ setting.most_pairs)
IsTested setting imp spec old f new (Some answer) = IsAnswer setting imp spec answer

-- a part of the search: it has come so far; or the answer is right
abbrev pub IsOutcome : Setting → Walked → Walked → List Found → ℕ → ℕ → Option Answer → Type 0
IsOutcome setting imp spec found at p None = IsRunOf setting imp spec found at p
IsOutcome setting imp spec found at p (Some answer) = IsAnswer setting imp spec answer

-- what stepping both sides by the item from two sets gave
abbrev pub IsPace : Walked → Walked → Walked → Walked → ℕ → ℕ → Item → Pace → Type 0
IsPace imp imp' spec spec' left right x Nothing =
    (IsNext imp.system x (set_at imp.sets left) [] × (imp'.sets ≡ imp.sets) × (spec'.sets ≡ spec.sets)) ⊎ IsNext spec.system x (set_at spec.sets right) []
IsPace imp imp' spec spec' left right x (Pair l r) = IsStep imp imp' left x (Some l) × IsStep spec spec' right x (Some r)
IsPace imp imp' spec spec' left right x (ImpFull reached) = IsFull imp left x reached
IsPace imp imp' spec spec' left right x (SpecFull reached) = (n : ℕ) × IsStep imp imp' left x (Some n) × IsFull spec right x reached

-- by their own counts before and after, the two walks together took at most so many steps
abbrev pub TookBoth : ℕ → ℕ → ℕ → ℕ → ℕ → Type 0
TookBoth imp imp' spec spec' most = (m n : ℕ) × Took imp imp' m × Took spec spec' n × (m + n ≤ most)

-- the steps that the two walks together took, by their own counts, are few enough for the setting
abbrev pub ArePaidIn : Setting → Walked → Walked → ℕ → ℕ → ℕ → ℕ → Type 0
ArePaidIn setting imp spec imp_before imp_after spec_before spec_after =
    ArePaid setting.mode setting.most_pairs imp spec imp_before imp_after spec_before spec_after
