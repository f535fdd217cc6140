-- Promise: what files in memory hold.
use Rattle.std.specs.Prelude.{ℕ, List, [], ◌∷◌, Option, None, Some, bytes_eq, if◌then◌else◌}
use Rattle.edge_io.specs.declared.content.NamedText.{NamedText}

-- the content of the first text with this name
abbrev pub content_of : List NamedText → List ℕ → Option (List ℕ)
content_of [] name = None
content_of (text ∷ texts) name = if bytes_eq text.name name then Some text.content else content_of texts name
