-- Promise: the pieces of a document: text and markup, from left to right.
use Rattle.std.specs.Prelude.{◌≡◌, ℕ, ◌-◌, ◌==◌, List, [], ◌∷◌, length, Option, Some, None, option_map, if◌then◌else◌, codes}
use Rattle.std.specs.List.{AllByRecursion}
use Rattle.graphml_scan.specs.Many.{Cut, ◌>>=◌, many}
use Rattle.graphml_scan.specs.Piece.{after_text, cut_text}
use Rattle.graphml_scan.specs.Reference.{reference_at}
use Rattle.graphml_scan.specs.Tag.{Tag, start_tag_at, end_tag_at}

-- a byte of text; what a reference or a CDATA section stands for; a start tag; the name of an end tag; a comment or an
-- instruction
pub data Token : Type 0 where
  Byte : ℕ → Token
  Text : List ℕ → Token
  Start : Tag → Token
  End : List ℕ → Token
  Passed : Token

-- what stands up to this text is passed over
abbrev pub passed_at : List ℕ → List ℕ → Option (Cut Token)
passed_at mark bytes = option_map (λ cut. (Passed, cut.1)) (cut_text mark bytes)

-- the section whose `<![CDATA[` stands before the bytes
abbrev pub section_at : List ℕ → Option (Cut Token)
section_at bytes = option_map (λ cut. (Text cut.0, cut.1)) (cut_text (codes "]]>") bytes)

-- a comment or a CDATA section whose `<!` stands before the bytes
unfoldable pub marked_at : List ℕ → Option (Cut Token)
marked_at bytes = elim (after_text (codes "--") bytes) [
  | Some comment ↦ passed_at (codes "-->") comment
  | None ↦ after_text (codes "[CDATA[") bytes >>= section_at
]

-- the markup whose `<` stands before the bytes
unfoldable pub markup_at : List ℕ → Option (Cut Token)
markup_at [] = None
markup_at (b ∷ bytes) =
    if b == 47 then option_map (λ cut. (End cut.0, cut.1)) (end_tag_at bytes)
    else (if b == 63 then passed_at (codes "?>") bytes
    else (if b == 33 then marked_at bytes
    else option_map (λ cut. (Start cut.0, cut.1)) (start_tag_at (b ∷ bytes))))

-- the token at the front
abbrev pub token_at : List ℕ → Option (Cut Token)
token_at [] = None
token_at (b ∷ bytes) =
    if b == 60 then markup_at bytes
    else (if b == 38 then option_map (λ cut. (Text cut.0, cut.1)) (reference_at bytes)
    else Some (Byte b, bytes))

-- a token and its offset
pub record Placed : Type 0 where
  pub at : ℕ
  pub token : Token

-- the token at the front of what is left of a content of this size
abbrev pub placed_at : ℕ → List ℕ → Option (Cut Placed)
placed_at size bytes = option_map (λ cut. (record { at = size - length bytes; token = cut.0 }, cut.1)) (token_at bytes)

-- the tokens of what is left of a content of this size, and what stands where no token does
abbrev pub tokens_of : ℕ → List ℕ → Cut (List Placed)
tokens_of size bytes = many (placed_at size) bytes

-- the bytes are text that stands for itself: none is `<` or `&`
abbrev pub IsRun : List ℕ → Type 0
IsRun bytes = AllByRecursion (λ b. (b ≡ 60 → ⊥) × (b ≡ 38 → ⊥)) bytes
