-- Private: what a line adds to the beginning of a certificate.
use Rattle.std.specs.Prelude.{◌≡◌, ℕ, ◌^◌, ◌<◌, List, [], ◌∷◌, ◌++◌, length, codes, Result, MatchResult, ◌⊎◌}
use Rattle.lts_base.specs.declared.item.Item.{Item}
use Rattle.lts_base.specs.declared.item.Mode.{Mode}
use Rattle.lts_base.specs.declared.relation.Relation.{Relation}
use Rattle.lts_base.specs.Alphabet.{Alphabet}
use Rattle.trace_text.specs.Items.{IsItem, IsShown}
use Rattle.cert_text.specs.declared.cert.Cert.{Cert}
use Rattle.cert_text.specs.declared.cert.CertBody.TheVariants.{Related, Shown}
use Rattle.cert_text.specs.declared.error.CertError.{CertError}
use Rattle.cert_text.specs.declared.stage.Stage.{Stage}
use Rattle.cert_text.specs.declared.stage.Stage.TheVariants.{Opening, Titled, Moded, Pairing, Tracing, Showing, Ended}
use Rattle.cert_text.specs.Printed.{title_line, mode_line, relation_line, trace_line, pair_line, after_line, shows_line, end_line}
use Rattle.cert_text.specs.Certificate.{IsPair}
use Rattle.cert_text.specs.Numbers.{IsListOf}
use Rattle.cert_text.specs.Faults.{IsFaultOf, IsRestFault}

-- a relation without lists
abbrev pub no_relation : Relation
no_relation = record { left = []; right = []; pairs = [] }

-- a left list more
pub record AddsLeft (imp : ℕ) (mode : Mode) (r : Relation) (line : List ℕ) (next : Stage) : Type 0 where
  pub states : List ℕ
  pub text : List ℕ
  pub no_right : r.right ≡ []
  pub no_pairs : r.pairs ≡ []
  pub line_is : line ≡ codes "left" ++ text
  pub list : IsListOf imp text states
  pub next_is : next ≡ Pairing mode (record { left = r.left ++ states ∷ []; right = r.right; pairs = r.pairs })

-- a right list more
pub record AddsRight (spec : ℕ) (mode : Mode) (r : Relation) (line : List ℕ) (next : Stage) : Type 0 where
  pub states : List ℕ
  pub text : List ℕ
  pub no_pairs : r.pairs ≡ []
  pub line_is : line ≡ codes "right" ++ text
  pub list : IsListOf spec text states
  pub next_is : next ≡ Pairing mode (record { left = r.left; right = r.right ++ states ∷ []; pairs = r.pairs })

-- a pair more
pub record AddsPair (mode : Mode) (r : Relation) (line : List ℕ) (next : Stage) : Type 0 where
  pub pair : ℕ × ℕ
  pub named : IsPair r.left r.right pair
  pub fits : (pair.0 < 2 ^ 32) × (pair.1 < 2 ^ 32)
  pub line_is : line ≡ pair_line pair
  pub next_is : next ≡ Pairing mode (record { left = r.left; right = r.right; pairs = r.pairs ++ pair ∷ [] })

-- the end of a relation
abbrev pub EndsRelation : Mode → Relation → List ℕ → Stage → Type 0
EndsRelation mode r line next = (line ≡ end_line (length r.pairs)) × (next ≡ Ended (record { mode = mode; body = Related r }))

-- an item more
abbrev pub AddsItem : Alphabet → Mode → List Item → List ℕ → Stage → Type 0
AddsItem a mode σ line next = (x : Item) × IsItem a x × (line ≡ after_line a.texts x) × (next ≡ Tracing mode (σ ++ x ∷ []))

-- the item that is shown
abbrev pub AddsShown : Alphabet → Mode → List Item → List ℕ → Stage → Type 0
AddsShown a mode σ line next = (x : Item) × IsShown a x × (line ≡ shows_line a.texts x) × (next ≡ Showing mode σ x)

-- the line leads from the stage to the next one
abbrev pub Adds : Alphabet → ℕ → ℕ → Stage → List ℕ → Stage → Type 0
Adds a imp spec Opening line next = (line ≡ title_line) × (next ≡ Titled)
Adds a imp spec Titled line next = (mode : Mode) × (line ≡ mode_line mode) × (next ≡ Moded mode)
Adds a imp spec (Moded mode) line next =
    ((line ≡ relation_line) × (next ≡ Pairing mode no_relation)) ⊎ ((line ≡ trace_line) × (next ≡ Tracing mode []))
Adds a imp spec (Pairing mode r) line next =
    AddsLeft imp mode r line next ⊎ (AddsRight spec mode r line next ⊎ (AddsPair mode r line next ⊎ EndsRelation mode r line next))
Adds a imp spec (Tracing mode σ) line next = AddsItem a mode σ line next ⊎ AddsShown a mode σ line next
Adds a imp spec (Showing mode σ x) line next = (line ≡ end_line (length σ)) × (next ≡ Ended (record { mode = mode; body = Shown σ x }))
Adds a imp spec (Ended cert) line next = ⊥

-- what is read of line n, which comes after the stage: the next stage, or what is wrong with the line
abbrev pub Reads : Alphabet → ℕ → ℕ → Stage → List ℕ → ℕ → Result Stage CertError → Type 0
Reads a imp spec stage line n result = MatchResult result (Adds a imp spec stage line) (IsFaultOf a imp spec stage line n)

-- what the rest without a whole line gives: the certificate, or what is wrong with the rest
abbrev pub Finishes : Stage → List ℕ → ℕ → Result Cert CertError → Type 0
Finishes stage rest n result = MatchResult result (λ cert. (stage ≡ Ended cert) × (rest ≡ [])) (IsRestFault stage rest n)
