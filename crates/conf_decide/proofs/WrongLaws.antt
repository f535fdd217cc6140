-- The least item that one list shows and another doesn't, looked for by number.
use Rattle.std.proofs.Common.{ℕ, ◌+◌, ◌*◌, ◌/◌, ◌%◌, ◌<◌, ◌≤◌, ◌≡◌, ◌∙◌, List, length, get_or, inl, inr, refl, sym, ap, arith}
use Rattle.std.specs.Int.{bit_at}
use Rattle.std.proofs.lemmas.Bool.{cases_lt, cases_eq}
use Rattle.lts_base.specs.declared.item.Item.{Item}
use Rattle.lts_base.specs.declared.item.Item.TheVariants.{Input, Output, Delta}
use Rattle.lts_base.specs.System.{System, IsSystem, IsItemOf, label_count}
use Rattle.lts_base.specs.After.{Shows}
use Rattle.lts_base.specs.Order.{place}
use Rattle.lts_base.specs.Reached.{Row, IsFine}
use Rattle.lts_base.proofs.SetLaws.{Shows-item}
use Rattle.lts_base.specs.Related.{row_of}
use Rattle.state_sets.specs.Finds.{IsTakenIn, IsLeastFrom}
use Rattle.state_sets.specs.Rows.{HasBit, IsRowOf}
use Rattle.state_sets.proofs.MaskLaws.{bit_taken}
use Rattle.walk_core.specs.Walked.{Walked, set_at}
use Rattle.conf_decide.specs.declared.search.Setting.{Setting}
use Rattle.conf_decide.specs.Progress.{IsFirstWrong, IsSetting, IsAgreedTo}
use Rattle.conf_decide.proofs.SearchLaws.{place_injective, place_below}

-- of the items with numbers below this, the right list shows each that the left one shows
abbrev pub IsFineBelow : System → System → Row → ℕ → Type 0
IsFineBelow i s row number = (y : Item) → place (label_count i) y < number → Shows i row.left y → Shows s row.right y

pub fine_inputs : (i s : System) (row : Row) (number : ℕ) → i.inputs ≡ number → IsFineBelow i s row number
fine_inputs i s row number e (Input a) less (q, inside, gives) = absurd gives
fine_inputs i s row number e (Output a) less (q, inside, (high, gives)) = absurd (omega (arith, e, less, high))
fine_inputs i s row number e Delta less shows = absurd (omega (arith, e, less))

pub fine_next : (i s : System) (row : Row) (number : ℕ) (x : Item) → IsSystem i → IsItemOf i x → place (label_count i) x ≡ number → (Shows i row.left x → Shows s row.right x) →
    IsFineBelow i s row number → IsFineBelow i s row (number + 1)
fine_next i s row number x system item here now fine y less shows =
    elim (cases_lt (place (label_count i) y) number) [
      | inl before ↦ fine y before shows
      | inr after ↦
          let e : x ≡ y = place_injective i x y item (Shows-item i row.left y system shows) (omega (arith, here, after, less)) in
          rw e at now shows
    ]

pub fine_all : (i s : System) (row : Row) (number : ℕ) → IsSystem i → label_count i < number → IsFineBelow i s row number → IsFine i s row
fine_all i s row number system over fine y shows = fine y (omega (arith, over, place_below i y (Shows-item i row.left y system shows))) shows

pub wrong_first : (i s : System) (row : Row) (number : ℕ) (x : Item) → label_count i ≡ label_count s → place (label_count i) x ≡ number → Shows i row.left x → (Shows s row.right x → ⊥) →
    IsFineBelow i s row number → IsFirstWrong i s row x
wrong_first i s row number x same here shown unshown fine = record { shown = shown; unshown = unshown; least = least }
  where
    least : (y : Item) → Shows i row.left y → (Shows s row.right y → ⊥) → place (label_count s) x ≤ place (label_count s) y
    least y shows lacks =
        rw (← same) (elim (cases_lt (place (label_count i) y) number) [
          | inl before ↦ absurd (lacks (fine y before shows))
          | inr after ↦ omega (arith, after, here)
        ])

-- the item is one of both systems
pub item_imp : (setting : Setting) (imp spec : Walked) (x : Item) → IsSetting setting imp spec → ((s : System) → s.inputs ≡ setting.inputs → s.outputs ≡ setting.outputs → IsItemOf s x) → IsItemOf imp.system x
item_imp setting imp spec x set item = item imp.system set.imp_inputs set.imp_outputs

pub item_spec : (setting : Setting) (imp spec : Walked) (x : Item) → IsSetting setting imp spec → ((s : System) → s.inputs ≡ setting.inputs → s.outputs ≡ setting.outputs → IsItemOf s x) → IsItemOf spec.system x
item_spec setting imp spec x set item = item spec.system set.spec_inputs set.spec_outputs

pub fine_step : (setting : Setting) (imp spec : Walked) (row : Row) (number : ℕ) (x : Item) → IsSetting setting imp spec → ((s : System) → s.inputs ≡ setting.inputs → s.outputs ≡ setting.outputs → IsItemOf s x) →
    place (setting.inputs + setting.outputs) x ≡ number → (Shows imp.system row.left x → Shows spec.system row.right x) → IsFineBelow imp.system spec.system row number → IsFineBelow imp.system spec.system row (number + 1)
fine_step setting imp spec row number x set item here now fine =
    fine_next imp.system spec.system row number x set.imp_walk.system (item_imp setting imp spec x set item) (rw (set.imp_inputs, set.imp_outputs) here) now fine

-- a label that both lists take is shown by both
pub fine_jump : (i s : System) (row : Row) (number next : ℕ) → i.inputs ≡ s.inputs → next ≤ label_count i → ((a : ℕ) → number ≤ a → a < next → IsTakenIn i row.left a → IsTakenIn s row.right a) → IsFineBelow i s row number → IsFineBelow i s row next
fine_jump i s row number next same high both fine (Input a) less (q, inside, gives) = absurd gives
fine_jump i s row number next same high both fine (Output a) less (q, inside, (over, takes)) = elim (cases_lt a number) [
  | inl before ↦ fine (Output a) before (q, inside, (over, takes))
  | inr after ↦ let there = both a after less (q, inside, takes) in (there.0, there.1, (omega (arith, over, same), there.2))
]
fine_jump i s row number next same high both fine Delta less shows = absurd (omega (arith, less, high))

same_inputs : (setting : Setting) (imp spec : Walked) → IsSetting setting imp spec → imp.system.inputs ≡ spec.system.inputs
same_inputs setting imp spec set = set.imp_inputs ∙ sym set.spec_inputs

few_labels : (setting : Setting) (imp spec : Walked) (n : ℕ) → IsSetting setting imp spec → n ≤ setting.inputs + setting.outputs → n ≤ label_count imp.system
few_labels setting imp spec n set low = omega (arith, low, set.imp_inputs, set.imp_outputs)

-- the next label that may be at fault was looked at
pub fine_more : (setting : Setting) (imp spec : Walked) (left right number next : ℕ) (x : Item) → IsSetting setting imp spec → ((s : System) → s.inputs ≡ setting.inputs → s.outputs ≡ setting.outputs → IsItemOf s x) →
    place (setting.inputs + setting.outputs) x ≡ next → IsAgreedTo imp spec left right number (setting.inputs + setting.outputs) next → (Shows imp.system (row_of imp.sets spec.sets (left, right)).left x → Shows spec.system (row_of imp.sets spec.sets (left, right)).right x) →
    IsFineBelow imp.system spec.system (row_of imp.sets spec.sets (left, right)) number → (next + 1 ≤ setting.inputs + setting.outputs + 1) × IsFineBelow imp.system spec.system (row_of imp.sets spec.sets (left, right)) (next + 1)
fine_more setting imp spec left right number next x set item here jump now fine = (
  omega (arith, jump.high),
  fine_step setting imp spec (row_of imp.sets spec.sets (left, right)) next x set item here now
      (fine_jump imp.system spec.system (row_of imp.sets spec.sets (left, right)) number next (same_inputs setting imp spec set) (few_labels setting imp spec next set jump.high) jump.both fine),
)

-- the next label that may be at fault is
pub wrong_here : (setting : Setting) (imp spec : Walked) (left right number next : ℕ) (x : Item) → IsSetting setting imp spec → place (setting.inputs + setting.outputs) x ≡ next →
    IsAgreedTo imp spec left right number (setting.inputs + setting.outputs) next → Shows imp.system (row_of imp.sets spec.sets (left, right)).left x → (Shows spec.system (row_of imp.sets spec.sets (left, right)).right x → ⊥) →
    IsFineBelow imp.system spec.system (row_of imp.sets spec.sets (left, right)) number → IsFirstWrong imp.system spec.system (row_of imp.sets spec.sets (left, right)) x
wrong_here setting imp spec left right number next x set here jump shown unshown fine =
    wrong_first imp.system spec.system (row_of imp.sets spec.sets (left, right)) next x (rw (set.imp_inputs, set.imp_outputs, set.spec_inputs, set.spec_outputs) refl) (rw (set.imp_inputs, set.imp_outputs) here) shown unshown
    (fine_jump imp.system spec.system (row_of imp.sets spec.sets (left, right)) number next (same_inputs setting imp spec set) (few_labels setting imp spec next set jump.high) jump.both fine)

-- the left list takes none of the labels that are passed over
pub agreed_none : (setting : Setting) (imp spec : Walked) (left right number next : ℕ) → IsSetting setting imp spec → IsLeastFrom (IsTakenIn imp.system (set_at imp.sets left)) number (label_count imp.system) next →
    IsAgreedTo imp spec left right number (setting.inputs + setting.outputs) next
agreed_none setting imp spec left right number next set least = record {
  low = least.low;
  high = omega (arith, least.high, set.imp_inputs, set.imp_outputs);
  both = λ a over below taken. absurd (least.none a over below taken);
}

-- the rows of the two lists agree on the labels that are passed over
pub agreed_rows : (setting : Setting) (imp spec : Walked) (left right number next : ℕ) (row other : List ℕ) → IsSetting setting imp spec → IsRowOf imp.system (set_at imp.sets left) row → IsRowOf spec.system (set_at spec.sets right) other →
    IsLeastFrom (λ (i : ℕ). HasBit row i × (HasBit other i → ⊥)) number (setting.inputs + setting.outputs) next → IsAgreedTo imp spec left right number (setting.inputs + setting.outputs) next
agreed_rows setting imp spec left right number next row other set is are least = record {
  low = least.low;
  high = least.high;
  both = λ a over below taken.
      let low : a < label_count imp.system = omega (arith, below, least.high, set.imp_inputs, set.imp_outputs) in
      let low' : a < label_count spec.system = omega (arith, below, least.high, set.spec_inputs, set.spec_outputs) in
      let has : HasBit row a = (bit_taken imp.system (set_at imp.sets left) row a is low).1 taken in
      elim (cases_eq (bit_at (get_or other (a / 64) 0) (a % 64)) 1) [
        | inl one ↦ (bit_taken spec.system (set_at spec.sets right) other a are low').0 one
        | inr none ↦ absurd (least.none a over below (has, none))
      ];
}
