-- The system of a test that is simulated.
use Rattle.std.proofs.Common.{arith, ◌≡◌, ℕ, List, [], ◌∷◌, length, map, All, Result, Ok, Err, IfOk, inl, sym, ap, subst}
use Rattle.std.proofs.lemmas.List.Elements.{All-head}
use Rattle.lts_base.specs.declared.divergence.Divergence.TheVariants.{Refuse}
use Rattle.lts_base.specs.declared.memory.Memory.{Memory}
use Rattle.lts_base.specs.Alphabet.{Alphabet}
use Rattle.lts_base.specs.System.{System}
use Rattle.lts_base.specs.Shape.{IsConvergent, IsConvergentOrQuiet}
use Rattle.tool_base.specs.declared.systems.OneSystem.{OneSystem}
use Rattle.tool_base.specs.Contents.{Contents}
use Rattle.tool_base.specs.Loaded.{IsOneOver}
use Rattle.tool_base.specs.Sources.{AreSystems, read_as}
use Rattle.sim_serve.specs.Loaded.{CanServe, IsEnabled, imp_sources}

-- the one system of a file that isn't divergent is convergent
sound : (contents : Contents) (name : List ℕ) (a : Alphabet) (s : System) → AreSystems contents (imp_sources name) a (s ∷ []) → IsConvergentOrQuiet s
sound contents name a s are = go are.plain are.settled are.read
  where
    go : (plain : List System) → All IsConvergent plain → s ∷ [] ≡ map (read_as Refuse) plain → IsConvergentOrQuiet s
    go [] settled is = absurd (short (ap length is))
      where
        short : ¬ (length (s ∷ []) ≡ 0)
        short e = omega (arith, e)
    go (x ∷ plain) settled is =
        let same : s ≡ x = cc is in
        inl (subst IsConvergent (sym same) (All-head IsConvergent x plain settled))

-- a system that was loaded can be served where it is input-enabled
pub able : (contents : Contents) (name : List ℕ) (loaded : OneSystem) (result : Result OneSystem Memory) → AreSystems contents (imp_sources name) loaded.labels (loaded.system ∷ []) → IsOneOver loaded →
    IfOk result (IsEnabled loaded) → IfOk result CanServe
able contents name loaded (Err e) are over h = tt
able contents name loaded (Ok imp) are over (same, enabled) =
    subst CanServe (sym same) (record { over = over.over; enabled = enabled; sound = sound contents name loaded.labels loaded.system are })
