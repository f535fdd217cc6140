-- Promise: what choosers answer.
use Rattle.std.specs.Prelude.{◌≡◌, ℕ, ◌+◌, ◌-◌, ◌%◌, ◌==◌, Bool, true, false, List, [], ◌∷◌, length, slice_index_or as get_or, if◌then◌else◌, nat_lt}
use Rattle.lts_base.specs.declared.item.Item.{Item}
use Rattle.lts_base.specs.declared.item.Item.TheVariants.{Input, Output, Delta}
use Rattle.walk_core.specs.declared.choice.Choice.{Choice}
use Rattle.walk_core.specs.declared.choice.Choice.TheVariants.{Input as Ask_input, Observe}

-- of n offers one of n + 1: the first is to hear
abbrev pub drawn : List ℕ → ℕ → Choice
drawn offers word = let k = word % (length offers + 1) in if k == 0 then Observe else Ask_input (get_or offers (k - 1) 0)

pub record Going : Type 0 where
  pub script : List Choice
  pub at : ℕ

abbrev pub line_at : List Choice → ℕ → Choice
line_at script k = get_or script k Observe

abbrev pub line_next : List Choice → ℕ → ℕ
line_next script k = if nat_lt k (length script) then k + 1 else k

abbrev pub same_item : Item → Item → Bool
same_item (Input a) (Input b) = a == b
same_item (Output a) (Output b) = a == b
same_item Delta Delta = true
same_item (Input a) (Output b) = false
same_item (Input a) Delta = false
same_item (Output a) (Input b) = false
same_item (Output a) Delta = false
same_item Delta (Input b) = false
same_item Delta (Output b) = false

abbrev pub asks : Item → Choice
asks (Input a) = Ask_input a
asks (Output a) = Observe
asks Delta = Observe

-- the next input of the trace, where these items are a front of it
abbrev pub toward : List Item → List Item → Choice
toward [] done = Observe
toward (x ∷ xs) [] = asks x
toward (x ∷ xs) (y ∷ ys) = if same_item x y then toward xs ys else Observe
