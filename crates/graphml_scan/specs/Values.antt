-- Promise: texts of the code, as lists.
use Rattle.std.specs.Prelude.{ℕ, List}
use Rattle.graphml_scan.specs.declared.reference.Value.{Value}
use Rattle.graphml_scan.specs.declared.reference.Value.TheVariants.{Plain, Made}

-- the text, wherever it lies
abbrev pub text_of : Value → List ℕ
text_of (Plain text) = text.now
text_of (Made text) = text.value.items
