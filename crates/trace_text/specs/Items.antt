-- Promise: the items of an alphabet, and the text of each.
use Rattle.std.specs.Prelude.{◌≡◌, ℕ, ◌<◌, ◌≤◌, List, length, codes}
use Rattle.lts_base.specs.declared.item.Item.{Item}
use Rattle.lts_base.specs.declared.item.Item.TheVariants.{Input, Output, Delta}
use Rattle.lts_base.specs.Alphabet.{Alphabet, text_at}

-- the item is one of the alphabet
abbrev pub IsItem : Alphabet → Item → Type 0
IsItem a (Input k) = k < a.inputs
IsItem a (Output k) = (a.inputs ≤ k) × (k < length a.texts)
IsItem a Delta = Unit {0}

-- the item is an output of the alphabet or `delta`
abbrev pub IsShown : Alphabet → Item → Type 0
IsShown a (Input k) = ⊥
IsShown a (Output k) = (a.inputs ≤ k) × (k < length a.texts)
IsShown a Delta = Unit {0}

-- the item has a text among those of n labels
abbrev pub IsPrintable : ℕ → Item → Type 0
IsPrintable n (Input k) = k < n
IsPrintable n (Output k) = k < n
IsPrintable n Delta = Unit {0}

-- the text of an item, by the texts of the labels
abbrev pub item_text : List (List ℕ) → Item → List ℕ
item_text texts (Input k) = text_at texts k
item_text texts (Output k) = text_at texts k
item_text texts Delta = codes "delta"

-- the text is that of the item, which is one of the alphabet
abbrev pub IsNamed : Alphabet → List ℕ → Item → Type 0
IsNamed a text x = IsItem a x × (text ≡ item_text a.texts x)

-- the text is that of the item, which is an output or `delta`
abbrev pub IsNamedShown : Alphabet → List ℕ → Item → Type 0
IsNamedShown a text x = IsShown a x × (text ≡ item_text a.texts x)

-- the text is that of no item
abbrev pub IsUnnamed : Alphabet → List ℕ → Type 0
IsUnnamed a text = (x : Item) → ¬ IsNamed a text x

-- the text is that of no output, nor is it `delta`
abbrev pub IsUnshown : Alphabet → List ℕ → Type 0
IsUnshown a text = (x : Item) → ¬ IsNamedShown a text x
