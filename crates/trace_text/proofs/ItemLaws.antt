-- Laws on items and their texts.
use Rattle.std.proofs.Common.{◌≡◌, ℕ, ◌≤◌, List, [], length, All, Contains, arith, codes}
use Rattle.std.proofs.lemmas.List.Elements.{Contains-get_or, All-weaker}
use Rattle.lts_base.specs.declared.item.Item.{Item}
use Rattle.lts_base.specs.declared.item.Item.TheVariants.{Input, Output, Delta}
use Rattle.lts_base.specs.Alphabet.{Alphabet}
use Rattle.trace_text.specs.Items.{IsItem, IsShown, IsPrintable, IsUnnamed}

-- an item of the alphabet has a text
pub printable : (a : Alphabet) → a.inputs ≤ length a.texts → (x : Item) → IsItem a x → IsPrintable (length a.texts) x
printable a inputs (Input k) is = omega (arith, inputs, is)
printable a inputs (Output k) is = is.1
printable a inputs Delta is = tt

-- what is shown is an item
pub item_from_shown : (a : Alphabet) (x : Item) → IsShown a x → IsItem a x
item_from_shown a (Input k) is = absurd is
item_from_shown a (Output k) is = is
item_from_shown a Delta is = is

-- items of the alphabet have texts
pub all_printable : (a : Alphabet) → a.inputs ≤ length a.texts → (σ : List Item) → All (IsItem a) σ → All (IsPrintable (length a.texts)) σ
all_printable a inputs σ each = All-weaker (IsItem a) (IsPrintable (length a.texts)) (printable a inputs) σ each

-- a text that no label has, and that isn't `delta`, names no item
pub no_item : (a : Alphabet) (text : List ℕ) → a.inputs ≤ length a.texts → (Contains a.texts text → ⊥) → (text ≡ codes "delta" → ⊥) → IsUnnamed a text
no_item a text inputs none other (Input k) is = none (rw is.1 (Contains-get_or a.texts k [] (omega (arith, inputs, is.0))))
no_item a text inputs none other (Output k) is = none (rw is.1 (Contains-get_or a.texts k [] is.0.1))
no_item a text inputs none other Delta is = other is.1
