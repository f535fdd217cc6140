-- Private: what one line adds to a script that is read.
use Rattle.std.specs.Prelude.{◌≡◌, true, ℕ, List, [], ◌∷◌, ◌++◌, ◌⊎◌}
use Rattle.lts_base.specs.Alphabet.{Alphabet}
use Rattle.text_scan.specs.Listing.{has_bytes}
use Rattle.walk_core.specs.declared.choice.Choice.{Choice}
use Rattle.script_text.specs.declared.error.ScriptError.{ScriptError}
use Rattle.script_text.specs.declared.error.ScriptError.TheVariants.{Memory}
use Rattle.script_text.specs.Script.{IsChoice, IsNoChoice}

-- the script with the choice that the text asks for; an empty text adds nothing
abbrev pub AddsChoice : Alphabet → List Choice → List ℕ → List Choice → Type 0
AddsChoice a old text new = ((text ≡ []) × (new ≡ old)) ⊎ ((c : Choice) × (has_bytes text ≡ true) × IsChoice a text c × (new ≡ old ++ c ∷ []))

-- memory ran out; or the text isn't empty and asks for no choice
abbrev pub IsFaultOf : Alphabet → List ℕ → ℕ → ScriptError → Type 0
IsFaultOf a text n error = (error ≡ Memory) ⊎ ((has_bytes text ≡ true) × IsNoChoice a text n error)
