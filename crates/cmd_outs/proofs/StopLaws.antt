-- What stops `outs`: the file of its trace.
use Rattle.std.proofs.Common.{[], ◌∷◌, inr, subst}
use Rattle.edge_io.specs.Outside.{ToldFiles, KeepsFiles}
use Rattle.lts_base.specs.Alphabet.{Alphabet}
use Rattle.lts_base.specs.System.{System}
use Rattle.tool_base.specs.declared.refusal.Stop.{Stop}
use Rattle.tool_base.specs.Contents.{Contents}
use Rattle.tool_base.specs.Sources.{AreSystems, all_names}
use Rattle.tool_base.specs.Pages.{IsStopped}
use Rattle.tool_base.proofs.StoppedLaws.{IsStopped-wider, same_contents, within_right}
use Rattle.cmd_outs.specs.Asked.{AskedOuts, outs_sources, trace_names}
use Rattle.cmd_outs.specs.Outs.{RefusesTraceOf, outs_page}

-- what stopped the loading of the trace stopped the command
pub trace_stopped : (old mid new : ToldFiles) (asked : AskedOuts) (a : Alphabet) (s : System) (stop : Stop) → KeepsFiles old mid → AreSystems old.content (outs_sources asked) a (s ∷ []) →
    IsStopped mid new (trace_names asked.trace) (RefusesTraceOf mid.content a asked.trace) stop → IsStopped old new (outs_page old.content asked).names (outs_page old.content asked).refuses stop
trace_stopped old mid new asked a s stop keeps systems h =
    IsStopped-wider old mid new (trace_names asked.trace) (outs_page old.content asked).names (RefusesTraceOf mid.content a asked.trace) (outs_page old.content asked).refuses stop keeps
    (λ name has. within_right (all_names (outs_sources asked)) (trace_names asked.trace) name has)
    (λ r why. inr (record { a = a; s = s; systems = systems; refused = subst (λ (c : Contents). RefusesTraceOf c a asked.trace r) (same_contents old mid keeps) why })) h
