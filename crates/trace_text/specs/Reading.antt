-- Private: what one line adds to a trace that is read.
use Rattle.std.specs.Prelude.{◌≡◌, true, ℕ, List, [], ◌∷◌, ◌++◌, ◌⊎◌}
use Rattle.lts_base.specs.declared.item.Item.{Item}
use Rattle.lts_base.specs.Alphabet.{Alphabet}
use Rattle.text_scan.specs.Listing.{has_bytes}
use Rattle.trace_text.specs.Items.{IsNamed, IsUnnamed}

-- the trace with the item that the text names; an empty text adds nothing
abbrev pub AddsItem : Alphabet → List Item → List ℕ → List Item → Type 0
AddsItem a old text new = ((text ≡ []) × (new ≡ old)) ⊎ ((x : Item) × (has_bytes text ≡ true) × IsNamed a text x × (new ≡ old ++ x ∷ []))

-- the text isn't empty and names no item
abbrev pub IsNoName : Alphabet → List ℕ → Type 0
IsNoName a text = (has_bytes text ≡ true) × IsUnnamed a text
