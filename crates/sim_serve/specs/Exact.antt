-- Promise: that the words and the content of the file decide what is answered, but for failures.
use Rattle.std.specs.Prelude.{◌≡◌, ℕ, List, [], ◌∷◌, ◌⊎◌}
use Rattle.lts_base.specs.Alphabet.{Alphabet}
use Rattle.lts_base.specs.System.{System}
use Rattle.lts_shape.specs.Inputs.{IsFirstMissing}
use Rattle.torx_words.specs.declared.kind.UsageKind.TheVariants.{Words}
use Rattle.tool_base.specs.declared.refusal.Refusal.{Refusal}
use Rattle.tool_base.specs.Contents.{Contents, AreTold}
use Rattle.tool_base.specs.Once.{IsLike}
use Rattle.tool_base.specs.Sources.{AreSystems, RefusesSources}
use Rattle.sim_serve.specs.declared.status.SimStatus.{SimStatus}
use Rattle.sim_serve.specs.declared.status.SimStatus.TheVariants.{Served, Usage, NotEnabled, FileFault, OutFault, DoorFault, Memory}
use Rattle.sim_serve.specs.Asked.{Asked, AsksFor, IsNoRequest}
use Rattle.sim_serve.specs.Loaded.{IsImp, imp_sources}
use Rattle.sim_serve.specs.Status.{refusal_status}

-- memory ran out, the output failed, or the file couldn't be read
abbrev pub IsFailure : SimStatus → Type 0
IsFailure Memory = Unit {0}
IsFailure OutFault = Unit {0}
IsFailure (FileFault name) = Unit {0}
IsFailure other = ⊥

-- the answer is this one, but for failures
abbrev pub IsBut : SimStatus → SimStatus → Type 0
IsBut due status = (status ≡ due) ⊎ IsFailure status

-- the answer is this refusal, but for failures and for the cycle that it tells
abbrev pub IsRefusedBy : Refusal → SimStatus → Type 0
IsRefusedBy r status = ((q : Refusal) × IsLike r q × (status ≡ refusal_status q)) ⊎ IsFailure status

-- a file that is refused is told so; a system that lacks an input is told so; another one is served, but where the door refuses
pub record IsByFile (contents : Contents) (name : List ℕ) (status : SimStatus) : Type 0 where
  pub refused : (r : Refusal) → RefusesSources contents (imp_sources name) r → IsRefusedBy r status
  pub lacking : (a : Alphabet) (s : System) (state input : ℕ) → AreSystems contents (imp_sources name) a (s ∷ []) →
      IsFirstMissing s s.inputs state input → IsBut (NotEnabled name state input) status
  pub served : (a : Alphabet) (s : System) → IsImp contents name a s → (status ≡ DoorFault) ⊎ IsBut Served status

-- words that ask for nothing are refused; and for others the file decides, where its content is told
pub record IsAnswered (contents : Contents) (words : List (List ℕ)) (status : SimStatus) : Type 0 where
  pub usage : IsNoRequest words → IsBut (Usage Words) status
  pub file : (asked : Asked) → AsksFor words asked → AreTold contents (asked.imp ∷ []) → IsByFile contents asked.imp status
