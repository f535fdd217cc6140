-- Promise: the pairs of sets that a decision reaches, in the order of their least traces, and the limits that cut the list.
use Rattle.std.specs.Prelude.{◌≡◌, ℕ, ◌<◌, ◌≤◌, List, [], ◌∷◌, ◌++◌, length, map, Contains, ◌⊎◌, if◌then◌else◌, slice_index_or as get_or}
use Rattle.std.specs.List.{fold, sum_by, list_any}
use Rattle.std.specs.Str.{bytes_eq}
use Rattle.lts_base.specs.declared.item.Item.{Item}
use Rattle.lts_base.specs.declared.item.Mode.{Mode}
use Rattle.lts_base.specs.System.{System, label_count}
use Rattle.lts_base.specs.Path.{Has}
use Rattle.lts_base.specs.After.{IsSetAfter, Shows}
use Rattle.lts_base.specs.Conformance.{IsAllowed}
use Rattle.lts_base.specs.Order.{IsBefore, IsAtMost}

-- two sets of states: one of the implementation, and one of the specification
pub record Row : Type 0 where
  pub left : List ℕ
  pub right : List ℕ

abbrev pub no_row : Row
no_row = record { left = []; right = [] }

abbrev pub row_at : List Row → ℕ → Row
row_at rows k = get_or rows k no_row

abbrev pub trace_at : List (List Item) → ℕ → List Item
trace_at traces k = get_or traces k []

abbrev pub lefts : List Row → List (List ℕ)
lefts rows = map (λ (r : Row). r.left) rows

abbrev pub rights : List Row → List (List ℕ)
rights rows = map (λ (r : Row). r.right) rows

-- the trace reaches the pair: it is allowed, the implementation has it, and these are the two sets after it
pub record IsReachedBy (mode : Mode) (i s : System) (σ : List Item) (row : Row) : Type 0 where
  pub allowed : IsAllowed mode s σ
  pub has : Has i σ
  pub left : IsSetAfter i σ row.left
  pub right : IsSetAfter s σ row.right

-- of the traces that reach the pair, σ is the least
pub record IsLeastOf (mode : Mode) (i s : System) (σ : List Item) (row : Row) : Type 0 where
  pub reached : IsReachedBy mode i s σ row
  pub least : (τ : List Item) → IsReachedBy mode i s τ row → IsAtMost (label_count s) σ τ

-- the rows are the first of the reached pairs, each once and in the order of their least traces, which these are: any
-- other pair is reached by later traces alone
pub record AreFirstPairs (mode : Mode) (i s : System) (rows : List Row) (traces : List (List Item)) : Type 0 where
  pub long : length traces ≡ length rows
  pub least : (k : ℕ) → k < length rows → IsLeastOf mode i s (trace_at traces k) (row_at rows k)
  pub rising : (j k : ℕ) → j < k → k < length rows → IsBefore (label_count s) (trace_at traces j) (trace_at traces k)
  pub others : (σ : List Item) (row : Row) → IsReachedBy mode i s σ row →
      Contains rows row ⊎ ((k : ℕ) → k < length rows → IsBefore (label_count s) (trace_at traces k) σ)

-- the rows are all reached pairs, each once and in the order of their least traces, which these are
pub record AreReachedPairs (mode : Mode) (i s : System) (rows : List Row) (traces : List (List Item)) : Type 0 where
  pub first : AreFirstPairs mode i s rows traces
  pub all : (σ : List Item) (row : Row) → IsReachedBy mode i s σ row → Contains rows row

-- the pair doesn't violate: each item that its left list shows is shown by its right list
abbrev pub IsFine : System → System → Row → Type 0
IsFine i s row = (x : Item) → Shows i row.left x → Shows s row.right x

-- the lists seen with one more, unless it was seen before
abbrev pub with_new : List (List ℕ) → List ℕ → List (List ℕ)
with_new seen list = if list_any (bytes_eq list) seen then seen else seen ++ list ∷ []

-- the distinct lists among these, each at its first place
abbrev pub distinct : List (List ℕ) → List (List ℕ)
distinct lists = fold with_new [] lists

-- the sizes of these lists added up
abbrev pub total_members : List (List ℕ) → ℕ
total_members lists = sum_by length lists

-- the limits of a decision: pairs, members of the implementation's sets, members of the specification's sets
pub record Limits : Type 0 where
  pub pairs : ℕ
  pub imp : ℕ
  pub spec : ℕ

-- the pairs are within the limits: their number, and on each side the sizes of the distinct sets added up
pub record IsWithin (limits : Limits) (rows : List Row) : Type 0 where
  pub pairs : length rows ≤ limits.pairs
  pub imp : total_members (distinct (lefts rows)) ≤ limits.imp
  pub spec : total_members (distinct (rights rows)) ≤ limits.spec
