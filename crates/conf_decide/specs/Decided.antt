-- Promise: what the answers of a decision mean, and what bounds its steps.
use Rattle.std.specs.Prelude.{◌≡◌, ℕ, ◌+◌, ◌-◌, ◌*◌, ◌<◌, ◌≤◌, List, length, take}
use Rattle.lts_base.specs.declared.item.Item.{Item}
use Rattle.lts_base.specs.declared.item.Mode.{Mode}
use Rattle.lts_base.specs.declared.relation.Relation.{Relation}
use Rattle.lts_base.specs.System.{System, label_count}
use Rattle.lts_base.specs.Conformance.{IsConforming}
use Rattle.lts_base.specs.Order.{IsFirstViolation}
use Rattle.lts_base.specs.Reached.{Row, row_at, trace_at, lefts, rights, distinct, total_members, AreFirstPairs, AreReachedPairs, IsFine, Limits, IsWithin}
use Rattle.lts_base.specs.Related.{rows_of, IsValid}
use Rattle.walk_core.specs.Walked.{Walked}
use Rattle.walk_core.specs.Taken.{Took}
use Rattle.conf_decide.specs.declared.answer.Answer.{Answer}
use Rattle.conf_decide.specs.declared.answer.Answer.TheVariants.{Conforms, Violates, Undecided}
use Rattle.conf_decide.specs.declared.answer.Verdict.{Verdict}
use Rattle.conf_decide.specs.declared.answer.What.{What}
use Rattle.conf_decide.specs.Told.{told_of}
use Rattle.conf_decide.specs.declared.answer.What.TheVariants.{Pairs, ImpMembers, SpecMembers}

-- the limits of a decision between two walks
abbrev pub limits_of : ℕ → Walked → Walked → Limits
limits_of pairs imp spec = record { pairs = pairs; imp = imp.limit; spec = spec.limit }

-- the walk's system has these numbers of inputs and outputs
pub record HasAlphabet (walk : Walked) (inputs outputs : ℕ) : Type 0 where
  pub inputs_are : walk.system.inputs ≡ inputs
  pub outputs_are : walk.system.outputs ≡ outputs

-- the sizes of the distinct left sets of the pairs, added up
abbrev pub left_members : List Row → ℕ
left_members rows = total_members (distinct (lefts rows))

-- the sizes of the distinct right sets of the pairs, added up
abbrev pub right_members : List Row → ℕ
right_members rows = total_members (distinct (rights rows))

-- the pairs pass this limit, and it is the first one that they pass in the order: members of the implementation's sets,
-- members of the specification's sets, pairs; `reached` is what the answer tells of it
abbrev pub IsPast : Limits → List Row → What → ℕ → Type 0
IsPast limits rows ImpMembers reached = (reached ≡ left_members rows) × (limits.imp < reached)
IsPast limits rows SpecMembers reached = (left_members rows ≤ limits.imp) × (reached ≡ right_members rows) × (limits.spec < reached)
IsPast limits rows Pairs reached = (left_members rows ≤ limits.imp) × (right_members rows ≤ limits.spec) ×
    (limits.pairs < length rows) × (reached ≡ limits.pairs)

-- every pair but the last is fine
abbrev pub AreFineBefore : System → System → List Row → Type 0
AreFineBefore i s rows = (k : ℕ) → k + 1 < length rows → IsFine i s (row_at rows k)

-- the last of the traces
abbrev pub last_trace : List (List Item) → List Item
last_trace traces = trace_at traces (length traces - 1)

-- the rows are the first of the reached pairs up to that of the trace, at least that one; they are within the limits, and all but the last are
-- fine
pub record IsUncut (mode : Mode) (limits : Limits) (i s : System) (trace : List Item) (rows : List Row) (traces : List (List Item)) : Type 0 where
  pub first : AreFirstPairs mode i s rows traces
  pub some : 0 < length rows
  pub within : IsWithin limits rows
  pub fine : AreFineBefore i s rows
  pub last : last_trace traces ≡ trace

-- the rows are the first of the reached pairs up to the cut: with the last of them, and not before, the limit is passed;
-- all but the last are fine; the depth is the length of the last pair's least trace
pub record IsCut (mode : Mode) (limits : Limits) (i s : System) (what : What) (reached depth : ℕ) (rows : List Row) (traces : List (List Item)) : Type 0 where
  pub first : AreFirstPairs mode i s rows traces
  pub before : (k : ℕ) → k < length rows → IsWithin limits (take k rows)
  pub past : IsPast limits rows what reached
  pub fine : AreFineBefore i s rows
  pub cut : depth ≡ length (last_trace traces)

-- there is no violation; the relation's pairs are all reached pairs, within the limits; its lists are the distinct sets of
-- the two sides, each at its first place; and it is valid
pub record IsConformance (mode : Mode) (limits : Limits) (i s : System) (relation : Relation) : Type 0 where
  pub conforming : IsConforming mode i s
  pub reached : (traces : List (List Item)) × AreReachedPairs mode i s (rows_of relation) traces
  pub within : IsWithin limits (rows_of relation)
  pub left : relation.left ≡ distinct (lefts (rows_of relation))
  pub right : relation.right ≡ distinct (rights (rows_of relation))
  pub valid : IsValid mode i s (rows_of relation)

-- the answer is the right one
abbrev pub IsDecided : Mode → Limits → System → System → Answer → Type 0
IsDecided mode limits i s (Conforms relation) = IsConformance mode limits i s relation
IsDecided mode limits i s (Violates trace shown) = IsFirstViolation mode i s trace shown ×
    ((rows : List Row) × (traces : List (List Item)) × IsUncut mode limits i s trace rows traces)
IsDecided mode limits i s (Undecided what reached depth) =
    (rows : List Row) × (traces : List (List Item)) × IsCut mode limits i s what reached depth rows traces

-- the verdict is what is told of a right answer
abbrev pub IsSettled : Mode → Limits → System → System → Verdict → Type 0
IsSettled mode limits i s verdict = (answer : Answer) × IsDecided mode limits i s answer × (verdict ≡ told_of answer)

-- the answer, and the verdict, are right ones for two walks and a limit of pairs
abbrev pub Decides : Mode → ℕ → Walked → Walked → Answer → Type 0
Decides mode pairs imp spec answer = IsDecided mode (limits_of pairs imp spec) imp.system spec.system answer

abbrev pub Settles : Mode → ℕ → Walked → Walked → Verdict → Type 0
Settles mode pairs imp spec verdict = IsSettled mode (limits_of pairs imp spec) imp.system spec.system verdict

-- the steps taken are few: there are reached pairs, the first ones, fine and within the limits, such that from `before` on at
-- most twice as many were taken as there are items for these pairs and one more
pub record IsPaidBy (mode : Mode) (limits : Limits) (i s : System) (before after : ℕ) (rows : List Row) (traces : List (List Item)) : Type 0 where
  pub first : AreFirstPairs mode i s rows traces
  pub within : IsWithin limits rows
  pub fine : (k : ℕ) → k < length rows → IsFine i s (row_at rows k)
  pub bound : after ≤ before + 2 * (length rows + 1) * (label_count s + 1)

-- the steps from `before` to `after` are few enough for some list of reached pairs of the two walks
abbrev pub IsPaid : Mode → ℕ → Walked → Walked → ℕ → ℕ → Type 0
IsPaid mode pairs imp spec before after = (rows : List Row) × (traces : List (List Item)) ×
    IsPaidBy mode (limits_of pairs imp spec) imp.system spec.system before after rows traces

-- so are the steps that the two walks together took, by their own counts before and after
abbrev pub ArePaid : Mode → ℕ → Walked → Walked → ℕ → ℕ → ℕ → ℕ → Type 0
ArePaid mode pairs imp spec imp_before imp_after spec_before spec_after =
    (m n : ℕ) × Took imp_before imp_after m × Took spec_before spec_after n × IsPaid mode pairs imp spec 0 (m + n)
