-- Promise: attributes, start tags and end tags.
use Rattle.std.specs.Prelude.{ℕ, Bool, true, false, ◌==◌, List, [], ◌∷◌, ◌++◌, Option, Some, None, option_map, if◌then◌else◌}
use Rattle.std.specs.List.{list_any}
use Rattle.std.specs.Str.{bytes_eq}
use Rattle.graphml_scan.specs.Many.{Cut, ◌>>=◌, many}
use Rattle.graphml_scan.specs.Piece.{is_white, without_white, name_at, after_byte, cut_at}
use Rattle.graphml_scan.specs.Reference.{resolved}

-- an attribute; references in its value are resolved
pub record Attribute : Type 0 where
  pub name : List ℕ
  pub value : List ℕ

-- the bytes after white, of which there is some
abbrev pub white_at : List ℕ → Option (List ℕ)
white_at [] = None
white_at (b ∷ bytes) = if is_white b then Some (without_white bytes) else None

-- a `<` is among the bytes
abbrev pub has_lt : List ℕ → Bool
has_lt text = list_any (λ b. b == 60) text

-- what stands before the quote, if it has no `<`
abbrev pub value_at : ℕ → List ℕ → Option (Cut (List ℕ))
value_at quote bytes = cut_at quote bytes >>= λ cut. if has_lt cut.0 then None else Some cut

-- what stands in quotes of either kind
abbrev pub quoted_at : List ℕ → Option (Cut (List ℕ))
quoted_at [] = None
quoted_at (b ∷ bytes) =
    if b == 34 then value_at 34 bytes
    else (if b == 39 then value_at 39 bytes
    else None)

-- white, a name, `=`, and a value in quotes
unfoldable pub attribute_at : List ℕ → Option (Cut Attribute)
attribute_at bytes = do
  start ← white_at bytes
  name ← name_at start
  equal ← after_byte 61 (without_white name.1)
  value ← quoted_at (without_white equal)
  text ← resolved value.0
  Some (record { name = name.0; value = text }, value.1)

-- an attribute has this name
abbrev pub has_name : List Attribute → List ℕ → Bool
has_name attributes name = list_any (λ (a : Attribute). bytes_eq a.name name) attributes

-- no name stands twice; these attributes stand before
abbrev pub are_once : List Attribute → List Attribute → Bool
are_once before [] = true
are_once before (a ∷ attributes) = if has_name before a.name then false else are_once (before ++ a ∷ []) attributes

-- attributes, if no name stands twice
abbrev pub once_each : Cut (List Attribute) → Option (Cut (List Attribute))
once_each found = if are_once [] found.0 then Some found else None

-- the attributes at the front
abbrev pub attributes_at : List ℕ → Option (Cut (List Attribute))
attributes_at bytes = once_each (many attribute_at bytes)

-- a start tag; the element of a whole one ends with it
pub record Tag : Type 0 where
  pub name : List ℕ
  pub attributes : List Attribute
  pub whole : Bool

-- the end of a start tag, `>` or `/>`, and whether it is the second
abbrev pub tag_end_at : List ℕ → Option (Cut Bool)
tag_end_at [] = None
tag_end_at (b ∷ bytes) =
    if b == 62 then Some (false, bytes)
    else (if b == 47 then option_map (λ rest. (true, rest)) (after_byte 62 bytes)
    else None)

-- the start tag whose `<` stands before the bytes
unfoldable pub start_tag_at : List ℕ → Option (Cut Tag)
start_tag_at bytes = do
  name ← name_at bytes
  attributes ← attributes_at name.1
  end ← tag_end_at (without_white attributes.1)
  Some (record { name = name.0; attributes = attributes.0; whole = end.0 }, end.1)

-- the name in the end tag whose `</` stands before the bytes
unfoldable pub end_tag_at : List ℕ → Option (Cut (List ℕ))
end_tag_at bytes = do
  name ← name_at bytes
  rest ← after_byte 62 (without_white name.1)
  Some (name.0, rest)
