-- Promise: what a GraphML document says, or its first fault.
use Rattle.std.specs.Prelude.{◌≡◌, ℕ, ◌+◌, ◌-◌, ◌==◌, Bool, true, false, List, [], ◌∷◌, length, map, Option, Some, None, Result, Ok, Err, is_some, is_none, if◌then◌else◌, codes, ◌⊎◌}
use Rattle.std.specs.List.{find, position}
use Rattle.std.specs.Option.{unwrap_or}
use Rattle.std.specs.Str.{bytes_eq, is_utf8}
use Rattle.std.specs.Str.Lossy.{utf8_valid_len}
use Rattle.lts_base.specs.Raw.{RawSystem, IsRaw}
use Rattle.aut_text.specs.Parts.{NamedMove}
use Rattle.aut_text.specs.Grammar.{has_moves}
use Rattle.graphml_text.specs.declared.error.GraphError.{GraphError}
use Rattle.graphml_text.specs.declared.error.GraphError.TheVariants.{Malformed, Doctype, Encoding, NotUtf8, NoGraph, UnknownNode, Memory}
use Rattle.graphml_scan.specs.Many.{Cut, ◌>>=◌}
use Rattle.graphml_scan.specs.Piece.{without_white, name_at, after_text, cut_text}
use Rattle.graphml_scan.specs.Tag.{Attribute, attributes_at}
use Rattle.graphml_scan.specs.Token.{Byte, Placed, tokens_of}
use Rattle.graphml_text.specs.Reading.{NamedEdge, Reading, nothing_read}
use Rattle.graphml_text.specs.Element.{value_in, is_same_word, step}

-- what follows an answer
abbrev pub on_ok : {A B : Type 0} → Result A GraphError → (A → Result B GraphError) → Result B GraphError
on_ok (Ok x) f = f x
on_ok (Err e) f = Err e

-- ---- the tokens, one after another

-- what the tokens add to what was read, or the first fault that is met
abbrev pub read : Reading → List Placed → Result Reading GraphError
read m [] = Ok m
read m (t ∷ tokens) = on_ok (step t.at m t.token) (λ n. read n tokens)

-- the same of text that stands for itself, byte by byte
abbrev pub run_read : ℕ → Reading → List ℕ → Result Reading GraphError
run_read at m [] = Ok m
run_read at m (b ∷ run) = on_ok (step at m (Byte b)) (λ n. run_read (at + 1) n run)

-- ---- the end of the content

-- the place of a node's id among the nodes
abbrev pub place_of : List (List ℕ) → List ℕ → Option ℕ
place_of nodes id = position (bytes_eq id) nodes

-- an end of the edge is no node
abbrev pub is_loose : List (List ℕ) → NamedEdge → Bool
is_loose nodes e = if is_some (place_of nodes e.source) then is_none (place_of nodes e.target) else true

-- the move of an edge
abbrev pub move_of : List (List ℕ) → NamedEdge → NamedMove
move_of nodes e = record { from = unwrap_or (place_of nodes e.source) 0; label = e.label; to = unwrap_or (place_of nodes e.target) 0 }

-- a system whose moves have the texts of their labels
pub record Said : Type 0 where
  pub states : ℕ
  pub start : ℕ
  pub moves : List NamedMove

-- the system of what was read; the start is the first node unless one was marked
abbrev pub said : Reading → Said
said m = record { states = length m.nodes; start = unwrap_or m.marked 0; moves = map (move_of m.nodes) m.edges }

abbrev pub has_nodes : Reading → List (List ℕ) → Result Said GraphError
has_nodes m [] = Err NoGraph
has_nodes m (node ∷ nodes) = Ok (said m)

abbrev pub joins_nodes : Reading → Option NamedEdge → Result Said GraphError
joins_nodes m (Some e) = Err (UnknownNode e.at)
joins_nodes m None = has_nodes m m.nodes

-- nothing is open, and the root was there
abbrev pub is_complete : Reading → Bool
is_complete m = if length m.stack == 0 then m.rooted else false

abbrev pub finished : ℕ → Reading → Result Said GraphError
finished size m = if is_complete m then joins_nodes m (find (is_loose m.nodes) m.edges) else Err (Malformed size)

-- what follows after the tokens: nothing, or what begins no token
abbrev pub stopped : ℕ → List ℕ → Reading → Result Said GraphError
stopped size [] m = finished size m
stopped size (b ∷ rest) m =
    if is_some (after_text (codes "<!DOCTYPE") (b ∷ rest)) then Err (Doctype (size - length (b ∷ rest)))
    else Err (Malformed (size - length (b ∷ rest)))

-- what follows from what was read so far, and what is left of a content of this size
abbrev pub read_on : ℕ → Reading → List ℕ → Result Said GraphError
read_on size m bytes = on_ok (read m (tokens_of size bytes).0) (stopped size (tokens_of size bytes).1)

-- ---- the front of the content

-- the bytes without a byte order mark
abbrev pub unmarked : List ℕ → List ℕ
unmarked content = unwrap_or (after_text (239 ∷ 187 ∷ 191 ∷ []) content) content

-- the XML declaration at the front: what stands in it after its name, and what follows it
unfoldable pub declaration_at : List ℕ → Option (Cut (List ℕ))
declaration_at bytes = do
  start ← after_text (codes "<?") bytes
  cut ← cut_text (codes "?>") start
  name ← name_at cut.0
  if bytes_eq name.0 (codes "xml") then Some (name.1, cut.1) else None

-- the encoding is UTF-8, without regard to ASCII case; it is where none is named
abbrev pub is_utf8_named : Option (List ℕ) → Bool
is_utf8_named None = true
is_utf8_named (Some text) = is_same_word text (codes "utf-8")

-- nothing but white
abbrev pub is_blank : List ℕ → Bool
is_blank bytes = length (without_white bytes) == 0

abbrev pub declared : ℕ → List ℕ → Option (Cut (List Attribute)) → Result (List ℕ) GraphError
declared at rest None = Err (Malformed at)
declared at rest (Some found) =
    if is_blank found.1 then (if is_utf8_named (value_in (codes "encoding") found.0) then Ok rest else Err Encoding)
    else Err (Malformed at)

-- what follows from what stands in a declaration at this offset
abbrev pub declared_by : ℕ → List ℕ → List ℕ → Result (List ℕ) GraphError
declared_by at rest inner = declared at rest (attributes_at inner)

abbrev pub after_declaration : ℕ → List ℕ → Option (Cut (List ℕ)) → Result (List ℕ) GraphError
after_declaration size bytes None = Ok bytes
after_declaration size bytes (Some cut) = declared_by (size - length bytes) cut.1 cut.0

-- what follows a byte order mark and a declaration
abbrev pub body_of : ℕ → List ℕ → Result (List ℕ) GraphError
body_of size bytes = after_declaration size bytes (declaration_at bytes)

-- ---- the whole

-- what the content says, or its first fault
unfoldable pub document : List ℕ → Result Said GraphError
document content =
    if is_utf8 content then on_ok (body_of (length content) (unmarked content)) (read_on (length content) nothing_read)
    else Err (NotUtf8 (utf8_valid_len content))

-- the system says this: its label numbers aren't the document's, and only their texts count
abbrev pub said_of : RawSystem → Said
said_of r = record { states = r.states; start = r.start; moves = has_moves r }

-- the content is a document of the system
abbrev pub IsGraphml : List ℕ → RawSystem → Type 0
IsGraphml content r = document content ≡ Ok (said_of r)

-- why the content is none
abbrev pub RefusesGraphml : List ℕ → GraphError → Type 0
RefusesGraphml content Memory = Unit {0}
RefusesGraphml content e = document content ≡ Err e

-- the content is a document of the system, whose labels stand in the order of their first use; so it is the document of
-- this system alone
pub record IsGraphmlFile (content : List ℕ) (r : RawSystem) : Type 0 where
  pub file : IsGraphml content r
  pub sound : IsRaw r

-- the error is this one, or want of memory
abbrev pub IsOrMemory : GraphError → GraphError → Type 0
IsOrMemory e f = (f ≡ e) ⊎ (f ≡ Memory)
