-- The system that is simulated, as it was loaded, and why there is none.
use Rattle.std.proofs.Common.{arith, ◌≡◌, ℕ, ◌<◌, List, [], ◌∷◌, length, map, All, Option, Some, Result, Ok, Err, IfOk, MatchOption, MatchResult, inl, inr, sym, ap, subst}
use Rattle.std.proofs.lemmas.List.Elements.{All-head}
use Rattle.lts_base.specs.declared.divergence.Divergence.TheVariants.{Refuse}
use Rattle.lts_base.specs.Alphabet.{Alphabet}
use Rattle.lts_base.specs.System.{System}
use Rattle.lts_base.specs.Shape.{IsConvergent, IsConvergentOrQuiet, IsInputEnabled}
use Rattle.lts_shape.specs.Inputs.{IsFirstMissing}
use Rattle.edge_io.specs.Outside.{ToldFiles}
use Rattle.tool_base.specs.declared.refusal.Stop.{Stop}
use Rattle.tool_base.specs.declared.refusal.Stop.TheVariants.{Usage, Refused, Memory}
use Rattle.tool_base.specs.declared.report.Report.{Report}
use Rattle.tool_base.specs.declared.systems.OneSystem.{OneSystem}
use Rattle.tool_base.specs.Contents.{Contents}
use Rattle.tool_base.specs.Loaded.{IsOneOver}
use Rattle.tool_base.specs.Pages.{IsStopped}
use Rattle.tool_base.specs.Sources.{AreSystems, RefusesSources, read_as}
use Rattle.sim_serve.specs.declared.status.SimStatus.{SimStatus}
use Rattle.sim_serve.specs.Loaded.{CanServe, IsEnabled, IsImp, IsLackingReport, IsNoImp, LoadsImp, imp_sources}
use Rattle.sim_serve.specs.Report.{IsOrNoMemory, lacking_report, stop_report}

-- the one system of a file that isn't divergent is convergent
imp_sound : (contents : Contents) (name : List ℕ) (a : Alphabet) (s : System) → AreSystems contents (imp_sources name) a (s ∷ []) → IsConvergentOrQuiet s
imp_sound contents name a s are = go are.plain are.settled are.read
  where
    go : (plain : List System) → All IsConvergent plain → s ∷ [] ≡ map (read_as Refuse) plain → IsConvergentOrQuiet s
    go [] settled is = absurd (short (ap length is))
      where
        short : ¬ (length (s ∷ []) ≡ 0)
        short e = omega (arith, e)
    go (x ∷ plain) settled is =
        let same : s ≡ x = cc is in
        inl (subst IsConvergent (sym same) (All-head IsConvergent x plain settled))

-- the system that was loaded is served, or lacks an input
pub imp_loaded : (old new : ToldFiles) (name : List ℕ) (loaded : OneSystem) (result : Result OneSystem (Report SimStatus)) → AreSystems old.content (imp_sources name) loaded.labels (loaded.system ∷ []) →
    MatchResult result (IsEnabled loaded) (IsLackingReport name loaded) → LoadsImp old new name result
imp_loaded old new name loaded (Ok imp) are (same, enabled) = subst (λ (i : OneSystem). IsImp old.content name i.labels i.system) (sym same) (record { systems = are; enabled = enabled })
imp_loaded old new name loaded (Err report) are (inl none) = inl none
imp_loaded old new name loaded (Err report) are (inr (state, input, missing, is)) =
    inr (inr (record { a = loaded.labels; s = loaded.system; state = state; input = input; systems = are; missing = missing; report_is = is }))

-- it can be served where it is input-enabled
pub imp_able : (contents : Contents) (name : List ℕ) (loaded : OneSystem) (result : Result OneSystem (Report SimStatus)) → AreSystems contents (imp_sources name) loaded.labels (loaded.system ∷ []) → IsOneOver loaded →
    MatchResult result (IsEnabled loaded) (IsLackingReport name loaded) → IfOk result CanServe
imp_able contents name loaded (Err report) are over enabled = tt
imp_able contents name loaded (Ok imp) are over (same, enabled) =
    subst CanServe (sym same) (record { over = over.over; enabled = enabled; sound = imp_sound contents name loaded.labels loaded.system are })

-- a file that is refused gives no system
pub imp_refused : (old new : ToldFiles) (name : List ℕ) (stop : Stop) (report : Report SimStatus) → IsStopped old new (name ∷ []) (RefusesSources old.content (imp_sources name)) stop → IsOrNoMemory (stop_report stop) report →
    IsNoImp old new name report
imp_refused old new name stop report stopped (inr none) = inl none
imp_refused old new name (Usage kind) report stopped (inl is) = absurd stopped
imp_refused old new name (Refused r) report stopped (inl is) = inr (inl (record { refusal = r; cause = stopped; report_is = is }))
imp_refused old new name Memory report stopped (inl is) = inl is

-- an input that is lacking is a label
pub lacking_label : (loaded : OneSystem) (state input : ℕ) → IsOneOver loaded → IsFirstMissing loaded.system loaded.system.inputs state input → input < length loaded.labels.texts
lacking_label loaded state input over missing = omega (arith, missing.input, over.over.inputs, over.alphabet.inputs)

-- it is told, or memory ran out
pub lacking_told : (name : List ℕ) (loaded : OneSystem) (found : Option (ℕ × ℕ)) (state input : ℕ) (report : Report SimStatus) → found ≡ Some (state, input) →
    MatchOption found (IsInputEnabled loaded.system) (λ pair. IsFirstMissing loaded.system loaded.system.inputs pair.0 pair.1) →
    IsOrNoMemory (lacking_report loaded.labels.texts name state input) report → IsLackingReport name loaded report
lacking_told name loaded found state input report is missing (inr none) = inl none
lacking_told name loaded found state input report is missing (inl told) = inr (state, input, rw is at missing, told)
