-- Promise: which line may follow the beginning of a certificate, and why a content is no certificate.
use Rattle.std.specs.Prelude.{◌≡◌, ℕ, ◌+◌, List, [], ◌++◌, length, codes, Result, MatchResult, ◌⊎◌}
use Rattle.lts_base.specs.declared.item.Mode.{Mode}
use Rattle.lts_base.specs.declared.relation.Relation.{Relation}
use Rattle.lts_base.specs.Alphabet.{Alphabet}
use Rattle.text_scan.specs.Cut.{Lacks, IsCut}
use Rattle.trace_text.specs.Items.{IsUnnamed, IsUnshown}
use Rattle.cert_text.specs.declared.cert.Cert.{Cert}
use Rattle.cert_text.specs.declared.error.CertError.{CertError}
use Rattle.cert_text.specs.declared.error.CertError.TheVariants.{Line, Cut, UnknownLabel, StateRange, Memory}
use Rattle.cert_text.specs.declared.stage.Stage.{Stage}
use Rattle.cert_text.specs.declared.stage.Stage.TheVariants.{Opening, Titled, Moded, Pairing, Tracing, Showing, Ended}
use Rattle.cert_text.specs.Printed.{title_line, mode_line, relation_line, trace_line, pair_line, end_line, lines_at, with_ends}
use Rattle.cert_text.specs.Certificate.{IsPair, IsStage}
use Rattle.cert_text.specs.Numbers.{IsNumberList, HasLarge}

-- the line is this word and a text of which this holds
abbrev pub IsWordAnd : List ℕ → (List ℕ → Type 0) → List ℕ → Type 0
IsWordAnd word Holds line = (text : List ℕ) × (line ≡ word ++ text) × Holds text

-- the line names a left list and a right list of the relation
abbrev pub IsPairLine : Relation → List ℕ → Type 0
IsPairLine r line = (p : ℕ × ℕ) × IsPair r.left r.right p × (line ≡ pair_line p)

-- the line has a form that may follow: the lists of the left come first, then those of the right, then the pairs, then the end
abbrev pub MayFollow : Stage → List ℕ → Type 0
MayFollow Opening line = line ≡ title_line
MayFollow Titled line = (mode : Mode) × (line ≡ mode_line mode)
MayFollow (Moded mode) line = (line ≡ relation_line) ⊎ (line ≡ trace_line)
MayFollow (Pairing mode r) line =
    ((r.right ≡ []) × (r.pairs ≡ []) × IsWordAnd (codes "left") IsNumberList line) ⊎
    (((r.pairs ≡ []) × IsWordAnd (codes "right") IsNumberList line) ⊎
    (IsPairLine r line ⊎ (line ≡ end_line (length r.pairs))))
MayFollow (Tracing mode σ) line = IsWordAnd (codes "after ") (λ text. Unit {0}) line ⊎ IsWordAnd (codes "shows ") (λ text. Unit {0}) line
MayFollow (Showing mode σ x) line = line ≡ end_line (length σ)
MayFollow (Ended cert) line = ⊥

-- the line names no item of the alphabet, or shows a text that is neither an output nor `delta`
abbrev pub NamesNone : Alphabet → Stage → List ℕ → Type 0
NamesNone a (Tracing mode σ) line = IsWordAnd (codes "after ") (IsUnnamed a) line ⊎ IsWordAnd (codes "shows ") (IsUnshown a) line
NamesNone a Opening line = ⊥
NamesNone a Titled line = ⊥
NamesNone a (Moded mode) line = ⊥
NamesNone a (Pairing mode r) line = ⊥
NamesNone a (Showing mode σ x) line = ⊥
NamesNone a (Ended cert) line = ⊥

-- the line lists a state that isn't below the number of states of its side
abbrev pub ListsLarge : ℕ → ℕ → Stage → List ℕ → Type 0
ListsLarge imp spec (Pairing mode r) line = IsWordAnd (codes "left") (HasLarge imp) line ⊎ IsWordAnd (codes "right") (HasLarge spec) line
ListsLarge imp spec Opening line = ⊥
ListsLarge imp spec Titled line = ⊥
ListsLarge imp spec (Moded mode) line = ⊥
ListsLarge imp spec (Tracing mode σ) line = ⊥
ListsLarge imp spec (Showing mode σ x) line = ⊥
ListsLarge imp spec (Ended cert) line = ⊥

-- what is wrong with line n, which comes after the stage: it may not follow; or else it names nothing; or else a state is too large
abbrev pub IsFaultOf : Alphabet → ℕ → ℕ → Stage → List ℕ → ℕ → CertError → Type 0
IsFaultOf a imp spec stage line n (Line k) = (k ≡ n) × ¬ MayFollow stage line
IsFaultOf a imp spec stage line n (UnknownLabel k) = (k ≡ n) × MayFollow stage line × NamesNone a stage line
IsFaultOf a imp spec stage line n (StateRange k) = (k ≡ n) × MayFollow stage line × ListsLarge imp spec stage line
IsFaultOf a imp spec stage line n (Cut k) = ⊥
IsFaultOf a imp spec stage line n Memory = Unit {0}

-- no line is missing
abbrev pub IsEnded : Stage → Type 0
IsEnded (Ended cert) = Unit {0}
IsEnded Opening = ⊥
IsEnded Titled = ⊥
IsEnded (Moded mode) = ⊥
IsEnded (Pairing mode r) = ⊥
IsEnded (Tracing mode σ) = ⊥
IsEnded (Showing mode σ x) = ⊥

-- what is wrong with the rest, which has no whole line: the certificate isn't ended; or it is, and bytes follow
abbrev pub IsRestFault : Stage → List ℕ → ℕ → CertError → Type 0
IsRestFault stage rest n (Cut k) = (k ≡ n) × ¬ IsEnded stage
IsRestFault stage rest n (Line k) = (k ≡ n) × IsEnded stage × ¬ (rest ≡ [])
IsRestFault stage rest n (UnknownLabel k) = ⊥
IsRestFault stage rest n (StateRange k) = ⊥
IsRestFault stage rest n Memory = Unit {0}

-- the content begins with the lines of the stage, and the rest comes after them
pub record IsBegun (a : Alphabet) (imp spec : ℕ) (content : List ℕ) (stage : Stage) (rest : List ℕ) : Type 0 where
  pub sound : IsStage a imp spec stage
  pub whole : content ≡ with_ends (lines_at a.texts stage) ++ rest

-- what is wrong after the stage, whose next line is line n: that line has its LF and is at fault, or the rest has no LF and is
abbrev pub IsFaultAt : Alphabet → ℕ → ℕ → Stage → List ℕ → ℕ → CertError → Type 0
IsFaultAt a imp spec stage rest n e =
    ((line : List ℕ) × (after : List ℕ) × IsCut 10 rest line after × IsFaultOf a imp spec stage line n e) ⊎
    (Lacks 10 rest × IsRestFault stage rest n e)

-- what is read where a line is at fault: this fault, where memory suffices
abbrev pub IsRefused : CertError → Result Cert CertError → Type 0
IsRefused e result = MatchResult result (λ _. ⊥) (λ f. (f ≡ e) ⊎ (f ≡ Memory))

-- what is read of the text of this certificate, where memory suffices
abbrev pub IsRead : Cert → Result Cert CertError → Type 0
IsRead cert result = MatchResult result (λ c. c ≡ cert) (λ e. e ≡ Memory)

-- the content begins with the lines of a stage, and the first line after them is at fault
pub record IsFirstFault (a : Alphabet) (imp spec : ℕ) (content : List ℕ) (e : CertError) : Type 0 where
  pub stage : Stage
  pub rest : List ℕ
  pub begun : IsBegun a imp spec content stage rest
  pub fault : IsFaultAt a imp spec stage rest (length (lines_at a.texts stage) + 1) e

-- why the content is no certificate: the first line at fault, counted from 1, or memory ran out
abbrev pub RefusesCert : Alphabet → ℕ → ℕ → List ℕ → CertError → Type 0
RefusesCert a imp spec content Memory = Unit {0}
RefusesCert a imp spec content (Line n) = IsFirstFault a imp spec content (Line n)
RefusesCert a imp spec content (Cut n) = IsFirstFault a imp spec content (Cut n)
RefusesCert a imp spec content (UnknownLabel n) = IsFirstFault a imp spec content (UnknownLabel n)
RefusesCert a imp spec content (StateRange n) = IsFirstFault a imp spec content (StateRange n)
