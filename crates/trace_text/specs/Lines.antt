-- Promise: items as they are printed, each on a line.
use Rattle.std.specs.Prelude.{ℕ, List, [], ◌∷◌, ◌++◌}
use Rattle.std.specs.List.{flat_map}
use Rattle.lts_base.specs.declared.item.Item.{Item}
use Rattle.trace_text.specs.Items.{item_text}

-- a line: two pieces and an LF
abbrev pub line : List ℕ → List ℕ → List ℕ
line front rest = front ++ (rest ++ 10 ∷ [])

-- items: a line for each, which begins with this front
abbrev pub items_text : List ℕ → List (List ℕ) → List Item → List ℕ
items_text front texts items = flat_map (λ (x : Item). line front (item_text texts x)) items
