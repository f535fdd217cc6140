-- Promise: what a certificate is, and which content is the text of one.
use Rattle.std.specs.Prelude.{◌≡◌, ℕ, ◌<◌, List, length, All}
use Rattle.std.specs.List.Sorted.{IsStrictlyIncreasing}
use Rattle.lts_base.specs.declared.relation.Relation.{Relation}
use Rattle.lts_base.specs.Alphabet.{Alphabet}
use Rattle.trace_text.specs.Items.{IsItem, IsShown}
use Rattle.cert_text.specs.declared.cert.Cert.{Cert}
use Rattle.cert_text.specs.declared.cert.CertBody.{CertBody}
use Rattle.cert_text.specs.declared.cert.CertBody.TheVariants.{Related, Shown}
use Rattle.cert_text.specs.declared.stage.Stage.{Stage}
use Rattle.cert_text.specs.declared.stage.Stage.TheVariants.{Opening, Titled, Moded, Pairing, Tracing, Showing, Ended}
use Rattle.cert_text.specs.Printed.{printed}

-- the list isn't empty, and each state is greater than the one before
pub record IsStates (states : List ℕ) : Type 0 where
  pub some : 0 < length states
  pub rising : IsStrictlyIncreasing states

-- each pair names a left list and a right list
abbrev pub IsPair : List (List ℕ) → List (List ℕ) → ℕ × ℕ → Type 0
IsPair left right p = (p.0 < length left) × (p.1 < length right)

-- a relation as a certificate has it
pub record IsRelation (r : Relation) : Type 0 where
  pub lefts : All IsStates r.left
  pub rights : All IsStates r.right
  pub named : All (IsPair r.left r.right) r.pairs

-- what a certificate of this alphabet states
abbrev pub IsBody : Alphabet → CertBody → Type 0
IsBody a (Related r) = IsRelation r
IsBody a (Shown σ x) = All (IsItem a) σ × IsShown a x

-- a certificate of this alphabet
abbrev pub IsCert : Alphabet → Cert → Type 0
IsCert a cert = IsBody a cert.body

-- all states of the lists are below the bound
abbrev pub AreBelow : ℕ → List (List ℕ) → Type 0
AreBelow bound lists = All (All (λ q. q < bound)) lists

-- the states of the lists are below the numbers of states of their sides
abbrev pub IsBodyWithin : ℕ → ℕ → CertBody → Type 0
IsBodyWithin imp spec (Related r) = AreBelow imp r.left × AreBelow spec r.right
IsBodyWithin imp spec (Shown σ x) = Unit {0}

-- all states of the certificate are states of their sides
abbrev pub IsWithin : ℕ → ℕ → Cert → Type 0
IsWithin imp spec cert = IsBodyWithin imp spec cert.body

-- the content is the text of the certificate, which is one for systems over the alphabet with so many states
pub record IsCertOf (a : Alphabet) (imp spec : ℕ) (content : List ℕ) (cert : Cert) : Type 0 where
  pub text : content ≡ printed a.texts cert
  pub sound : IsCert a cert
  pub within : IsWithin imp spec cert

-- the beginning of a certificate for systems over the alphabet with so many states
abbrev pub IsStage : Alphabet → ℕ → ℕ → Stage → Type 0
IsStage a imp spec (Pairing mode r) = IsRelation r × AreBelow imp r.left × AreBelow spec r.right
IsStage a imp spec (Tracing mode σ) = All (IsItem a) σ
IsStage a imp spec (Showing mode σ x) = All (IsItem a) σ × IsShown a x
IsStage a imp spec (Ended cert) = IsCert a cert × IsWithin imp spec cert
IsStage a imp spec Opening = Unit {0}
IsStage a imp spec Titled = Unit {0}
IsStage a imp spec (Moded mode) = Unit {0}
