-- Promise: the text that is written for a piece of a document: white, tags in quotes of either kind, and texts with references.
use Rattle.std.specs.Prelude.{◌≡◌, ℕ, ◌==◌, true, List, [], ◌∷◌, ◌++◌, if◌then◌else◌, codes, ◌⊎◌}
use Rattle.std.specs.List.{AllByRecursion}
use Rattle.graphml_scan.specs.Piece.{is_white}
use Rattle.graphml_scan.specs.Tag.{Attribute}

-- what is written for a byte: a reference for `<`, `&` and quotes, and every other byte for itself
abbrev pub written_byte : ℕ → List ℕ
written_byte b =
    if b == 60 then codes "&lt;"
    else (if b == 38 then codes "&amp;"
    else (if b == 34 then codes "&quot;"
    else (if b == 39 then codes "&apos;"
    else b ∷ [])))

-- what is written for a text
abbrev pub written : List ℕ → List ℕ
written [] = []
written (b ∷ text) = written_byte b ++ written text

-- a piece of a document: a start tag, a tag of an element that ends with it, an end tag, or a text
pub data Piece : Type 0 where
  Opens : List ℕ → List Attribute → Piece
  Whole : List ℕ → List Attribute → Piece
  Closes : List ℕ → Piece
  Holds : List ℕ → Piece

-- the bytes are white
abbrev pub IsWhite : List ℕ → Type 0
IsWhite bytes = AllByRecursion (λ b. is_white b ≡ true) bytes

-- the bytes are this text in quotes, of either kind
abbrev pub IsQuoted : List ℕ → List ℕ → Type 0
IsQuoted text bytes = (bytes ≡ 34 ∷ written text ++ 34 ∷ []) ⊎ (bytes ≡ 39 ∷ written text ++ 39 ∷ [])

-- the bytes are these attributes, each after a space
abbrev pub AreAttributes : List Attribute → List ℕ → Type 0
AreAttributes [] bytes = bytes ≡ []
AreAttributes (a ∷ attributes) bytes = (value : List ℕ) × (rest : List ℕ) × IsQuoted a.value value × AreAttributes attributes rest × (bytes ≡ 32 ∷ a.name ++ 61 ∷ value ++ rest)

-- the bytes are this piece
abbrev pub IsPiece : Piece → List ℕ → Type 0
IsPiece (Opens name attributes) bytes = (inner : List ℕ) × AreAttributes attributes inner × (bytes ≡ 60 ∷ name ++ inner ++ 62 ∷ [])
IsPiece (Whole name attributes) bytes = (inner : List ℕ) × AreAttributes attributes inner × (bytes ≡ 60 ∷ name ++ inner ++ 47 ∷ 62 ∷ [])
IsPiece (Closes name) bytes = bytes ≡ 60 ∷ 47 ∷ name ++ 62 ∷ []
IsPiece (Holds text) bytes = bytes ≡ written text

-- the bytes are these pieces, with white before each and after the last
abbrev pub ArePieces : List Piece → List ℕ → Type 0
ArePieces [] bytes = IsWhite bytes
ArePieces (p ∷ pieces) bytes = (white : List ℕ) × (piece : List ℕ) × (rest : List ℕ) × IsWhite white × IsPiece p piece × ArePieces pieces rest × (bytes ≡ white ++ piece ++ rest)
