-- Promise: what it means that `verify` accepts a certificate, and that it accepts those that `check` prints.
use Rattle.std.specs.Prelude.{◌≡◌, true, ℕ, List, [], ◌∷◌, Some, Ok}
use Rattle.lts_base.specs.System.{System}
use Rattle.lts_base.specs.Alphabet.{Alphabet}
use Rattle.cert_text.specs.declared.cert.Cert.{Cert}
use Rattle.torx_words.specs.Accepted.{asked}
use Rattle.tool_base.specs.Contents.{Contents, AreTold}
use Rattle.tool_base.specs.Kinds.{IsFile, cert_kind}
use Rattle.tool_base.specs.Sources.{AreSystems}
use Rattle.cmd_check.specs.declared.outcome.CheckOutcome.{CheckOutcome}
use Rattle.cmd_check.specs.declared.outcome.CheckOutcome.TheVariants.{Conforms, Violates, Undecided, NotEnabled}
use Rattle.cmd_check.specs.Asked.{AskedCheck, check_shape, check_of, check_sources}
use Rattle.cmd_check.specs.Check.{AnswersCheck}
use Rattle.cmd_verify.specs.Asked.{AskedVerify, verify_shape, verify_of, verify_sources}
use Rattle.cmd_verify.specs.Verify.{IsTrue, verify_page}
use Rattle.torx_tool.specs.declared.commands.Name.TheVariants.{Verify}
use Rattle.torx_tool.specs.declared.status.Status.{Status}
use Rattle.torx_tool.specs.declared.status.Status.TheVariants.{Accepted}
use Rattle.torx_tool.specs.Commands.{named}
use Rattle.torx_tool.specs.Exact.{IsBut}

-- the words ask for `verify`, and for this of it; and the contents of all its files are told
abbrev pub AskForVerify : Contents → List (List ℕ) → AskedVerify → Type 0
AskForVerify contents [] v = ⊥
AskForVerify contents (first ∷ others) v = (named first ≡ Some Verify) × (asked verify_shape verify_of others ≡ Ok v) × AreTold contents (verify_page contents v).names

-- the files are read as the specification s and the implementation i over the alphabet a, and as this certificate for them
pub record IsVerifiable (contents : Contents) (v : AskedVerify) (a : Alphabet) (s i : System) (cert : Cert) : Type 0 where
  pub systems : AreSystems contents (verify_sources v) a (s ∷ i ∷ [])
  pub read : IsFile (cert_kind a i.states s.states) contents v.cert cert

-- the decision was made
abbrev pub IsMade : CheckOutcome → Type 0
IsMade (Conforms pairs) = Unit {0}
IsMade (Violates trace shown) = Unit {0}
IsMade (Undecided what reached depth) = ⊥
IsMade (NotEnabled name state input) = ⊥

-- the text is one that `check --cert` prints, on some words after its name, of a decision that it made on the same files, by the
-- same sorting of labels and the same reading of divergent systems
pub record IsCertified (contents : Contents) (v : AskedVerify) (text : List ℕ) : Type 0 where
  pub words : List (List ℕ)
  pub q : AskedCheck
  pub asks : asked check_shape check_of words ≡ Ok q
  pub outcome : CheckOutcome
  pub certifies : q.cert ≡ true
  pub sources : check_sources q ≡ verify_sources v
  pub answers : AnswersCheck contents q outcome text
  pub made : IsMade outcome

-- what `verify` accepts is true, whoever made the certificate; but for failures, it accepts what `check --cert` prints
pub record IsAudit (contents : Contents) (v : AskedVerify) (status : Status) : Type 0 where
  pub holds : (a : Alphabet) (s i : System) (cert : Cert) → IsVerifiable contents v a s i cert → status ≡ Accepted → IsTrue cert.mode i s cert.body
  pub accepts : (text : List ℕ) → contents v.cert ≡ Some text → IsCertified contents v text → IsBut Accepted status

-- whichever words ask for `verify`, the answer is sound, and complete for what `check` certifies
abbrev pub IsAudited : Contents → List (List ℕ) → Status → Type 0
IsAudited contents words status = (v : AskedVerify) → AskForVerify contents words v → IsAudit contents v status
