-- Promise: the system that is simulated, and why there is none.
use Rattle.std.specs.Prelude.{◌≡◌, ℕ, List, [], ◌∷◌, Result, MatchResult, ◌⊎◌}
use Rattle.lts_base.specs.declared.divergence.Divergence.TheVariants.{Refuse}
use Rattle.lts_base.specs.Alphabet.{Alphabet, IsOver}
use Rattle.lts_base.specs.System.{System}
use Rattle.lts_base.specs.Shape.{IsConvergentOrQuiet, IsInputEnabled}
use Rattle.lts_shape.specs.Inputs.{IsFirstMissing}
use Rattle.edge_io.specs.Outside.{ToldFiles}
use Rattle.torx_words.specs.Meaning.{by_prefix}
use Rattle.tool_base.specs.declared.refusal.Refusal.{Refusal}
use Rattle.tool_base.specs.declared.refusal.Stop.TheVariants.{Refused}
use Rattle.tool_base.specs.declared.report.Report.{Report}
use Rattle.tool_base.specs.declared.systems.OneSystem.{OneSystem}
use Rattle.tool_base.specs.Contents.{Contents}
use Rattle.tool_base.specs.Pages.{IsFault}
use Rattle.tool_base.specs.Sources.{Sources, AreSystems, RefusesSources}
use Rattle.sim_serve.specs.declared.status.SimStatus.{SimStatus}
use Rattle.sim_serve.specs.Report.{lacking_report, no_memory, stop_report}

-- the file of this name: its labels are sorted by the marks at their fronts, and a divergent system is refused
abbrev pub imp_sources : List ℕ → Sources
imp_sources name = record { names = name ∷ []; sorting = by_prefix; divergence = Refuse }

-- the file of this name is read as this system over this alphabet, which is convergent and input-enabled
pub record IsImp (contents : Contents) (name : List ℕ) (a : Alphabet) (s : System) : Type 0 where
  pub systems : AreSystems contents (imp_sources name) a (s ∷ [])
  pub enabled : IsInputEnabled s

-- the file couldn't be read, or there is this first cause against its content
pub record IsRefusedImp (old new : ToldFiles) (name : List ℕ) (report : Report SimStatus) : Type 0 where
  pub refusal : Refusal
  pub cause : IsFault old new (name ∷ []) refusal ⊎ RefusesSources old.content (imp_sources name) refusal
  pub report_is : report ≡ stop_report (Refused refusal)

-- the system of the file isn't input-enabled: of its states that end some trace this is the least one that lacks an input, and this
-- the least such input
pub record IsLackingImp (contents : Contents) (name : List ℕ) (report : Report SimStatus) : Type 0 where
  pub a : Alphabet
  pub s : System
  pub state : ℕ
  pub input : ℕ
  pub systems : AreSystems contents (imp_sources name) a (s ∷ [])
  pub missing : IsFirstMissing s s.inputs state input
  pub report_is : report ≡ lacking_report a.texts name state input

-- there is no system that can be served, for this: memory ran out, the file is refused, or its system lacks an input
abbrev pub IsNoImp : ToldFiles → ToldFiles → List ℕ → Report SimStatus → Type 0
IsNoImp old new name report = (report ≡ no_memory) ⊎ (IsRefusedImp old new name report ⊎ IsLackingImp old.content name report)

-- the system is had, or there is none
abbrev pub LoadsImp : ToldFiles → ToldFiles → List ℕ → Result OneSystem (Report SimStatus) → Type 0
LoadsImp old new name result = MatchResult result (λ imp. IsImp old.content name imp.labels imp.system) (IsNoImp old new name)

-- a simulation of the system can be served
pub record CanServe (imp : OneSystem) : Type 0 where
  pub over : IsOver imp.labels imp.system
  pub enabled : IsInputEnabled imp.system
  pub sound : IsConvergentOrQuiet imp.system

-- it is the system that was loaded, and that is input-enabled
abbrev pub IsEnabled : OneSystem → OneSystem → Type 0
IsEnabled loaded imp = (imp ≡ loaded) × IsInputEnabled loaded.system

-- the system that was loaded lacks an input, or memory ran out
abbrev pub IsLackingReport : List ℕ → OneSystem → Report SimStatus → Type 0
IsLackingReport name loaded report = (report ≡ no_memory) ⊎
    ((state : ℕ) × (input : ℕ) × IsFirstMissing loaded.system loaded.system.inputs state input × (report ≡ lacking_report loaded.labels.texts name state input))
