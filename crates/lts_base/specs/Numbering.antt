-- Promise: items by the numbers of their labels.
use Rattle.std.specs.Prelude.{ℕ, if◌then◌else◌, nat_lt}
use Rattle.lts_base.specs.declared.item.Item.{Item}
use Rattle.lts_base.specs.declared.item.Item.TheVariants.{Input, Output}

-- the item of a label, where the first labels are the inputs
abbrev pub item_at : ℕ → ℕ → Item
item_at inputs label = if nat_lt label inputs then Input label else Output label
