-- Promise: the texts of certificates, line by line.
use Rattle.std.specs.Prelude.{ℕ, ◌+◌, List, [], ◌∷◌, ◌++◌, length, map, codes, decimal}
use Rattle.std.specs.List.{flat_map}
use Rattle.lts_base.specs.declared.item.Item.{Item}
use Rattle.lts_base.specs.declared.item.Mode.{Mode}
use Rattle.lts_base.specs.declared.item.Mode.TheVariants.{Ioco, Uioco}
use Rattle.lts_base.specs.declared.relation.Relation.{Relation}
use Rattle.trace_text.specs.Items.{item_text}
use Rattle.cert_text.specs.declared.cert.Cert.{Cert}
use Rattle.cert_text.specs.declared.cert.CertBody.{CertBody}
use Rattle.cert_text.specs.declared.cert.CertBody.TheVariants.{Related, Shown}
use Rattle.cert_text.specs.declared.stage.Stage.{Stage}
use Rattle.cert_text.specs.declared.stage.Stage.TheVariants.{Opening, Titled, Moded, Pairing, Tracing, Showing, Ended}

-- the word for a mode
abbrev pub mode_text : Mode → List ℕ
mode_text Ioco = codes "ioco"
mode_text Uioco = codes "uioco"

-- texts, each after a space
abbrev pub spaced : List (List ℕ) → List ℕ
spaced texts = flat_map (λ (t : List ℕ). 32 ∷ t) texts

-- numbers after a word
abbrev pub number_line : List ℕ → List ℕ → List ℕ
number_line word numbers = word ++ spaced (map decimal numbers)

-- the first line
abbrev pub title_line : List ℕ
title_line = codes "torx certificate 1"

-- the second line
abbrev pub mode_line : Mode → List ℕ
mode_line mode = codes "mode " ++ mode_text mode

-- the third line of a relation
abbrev pub relation_line : List ℕ
relation_line = codes "kind relation"

-- the third line of a trace
abbrev pub trace_line : List ℕ
trace_line = codes "kind trace"

-- a list of implementation states
abbrev pub left_line : List ℕ → List ℕ
left_line states = number_line (codes "left") states

-- a list of specification states
abbrev pub right_line : List ℕ → List ℕ
right_line states = number_line (codes "right") states

-- a pair of lists, which are counted from 1
abbrev pub pair_line : ℕ × ℕ → List ℕ
pair_line p = number_line (codes "pair") ((p.0 + 1) ∷ (p.1 + 1) ∷ [])

-- an item of the trace
abbrev pub after_line : List (List ℕ) → Item → List ℕ
after_line texts x = codes "after " ++ item_text texts x

-- the item that is shown after the trace
abbrev pub shows_line : List (List ℕ) → Item → List ℕ
shows_line texts x = codes "shows " ++ item_text texts x

-- the last line, with the number of pairs or of items
abbrev pub end_line : ℕ → List ℕ
end_line n = number_line (codes "end") (n ∷ [])

-- the lists and pairs of a relation
abbrev pub relation_lines : Relation → List (List ℕ)
relation_lines r = map left_line r.left ++ (map right_line r.right ++ map pair_line r.pairs)

-- the lines from the third one on
abbrev pub body_lines : List (List ℕ) → CertBody → List (List ℕ)
body_lines texts (Related r) = relation_line ∷ (relation_lines r ++ end_line (length r.pairs) ∷ [])
body_lines texts (Shown σ x) = trace_line ∷ (map (after_line texts) σ ++ shows_line texts x ∷ end_line (length σ) ∷ [])

-- all lines of a certificate
abbrev pub cert_lines : List (List ℕ) → Cert → List (List ℕ)
cert_lines texts cert = title_line ∷ mode_line cert.mode ∷ body_lines texts cert.body

-- the lines of the beginning of a certificate
abbrev pub lines_at : List (List ℕ) → Stage → List (List ℕ)
lines_at texts Opening = []
lines_at texts Titled = title_line ∷ []
lines_at texts (Moded mode) = title_line ∷ mode_line mode ∷ []
lines_at texts (Pairing mode r) = title_line ∷ mode_line mode ∷ relation_line ∷ relation_lines r
lines_at texts (Tracing mode σ) = title_line ∷ mode_line mode ∷ trace_line ∷ map (after_line texts) σ
lines_at texts (Showing mode σ x) = title_line ∷ mode_line mode ∷ trace_line ∷ (map (after_line texts) σ ++ shows_line texts x ∷ [])
lines_at texts (Ended cert) = cert_lines texts cert

-- the bytes of lines, each with its LF
abbrev pub with_ends : List (List ℕ) → List ℕ
with_ends lines = flat_map (λ (line : List ℕ). line ++ 10 ∷ []) lines

-- the text of a certificate
abbrev pub printed : List (List ℕ) → Cert → List ℕ
printed texts cert = with_ends (cert_lines texts cert)
