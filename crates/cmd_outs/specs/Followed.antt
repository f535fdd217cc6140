-- Private: what the pieces of `outs` answer.
use Rattle.std.specs.Prelude.{ℕ, ◌<◌, List, All, Option, Result, MatchResult}
use Rattle.edge_io.specs.Outside.{ToldFiles}
use Rattle.lts_base.specs.declared.item.Item.{Item}
use Rattle.lts_base.specs.declared.item.Item.TheVariants.{Input, Output, Delta}
use Rattle.lts_base.specs.declared.item.Mode.{Mode}
use Rattle.lts_base.specs.System.{System}
use Rattle.lts_base.specs.After.{IsSetAfter, Shows}
use Rattle.lts_base.specs.Alphabet.{Alphabet}
use Rattle.lts_base.specs.Conformance.{IsAllowed}
use Rattle.tool_base.specs.declared.refusal.Stop.{Stop}
use Rattle.tool_base.specs.Pages.{IsStopped}
use Rattle.cmd_outs.specs.declared.follow.Followed.{Followed}
use Rattle.cmd_outs.specs.declared.follow.Followed.TheVariants.{States, Absent as AbsentAt}
use Rattle.cmd_outs.specs.Asked.{trace_names}
use Rattle.cmd_outs.specs.Outs.{IsTraceOf, RefusesTraceOf, IsFirstAbsent}

-- the trace of the file is had, or the work stopped
abbrev pub LoadsTrace : ToldFiles → ToldFiles → Alphabet → Option (List ℕ) → Result (List Item) Stop → Type 0
LoadsTrace old new a name result = MatchResult result (IsTraceOf old.content a name) (IsStopped old new (trace_names name) (RefusesTraceOf old.content a name))

-- the trace leads to this set; or this is the first place whose prefix isn't allowed
abbrev pub LeadsTo : Mode → System → List Item → Followed → Type 0
LeadsTo mode s σ (States set) = IsAllowed mode s σ × IsSetAfter s σ set × All (λ (q : ℕ). q < s.states) set
LeadsTo mode s σ (AbsentAt k) = IsFirstAbsent mode s σ k

-- the item is an output, and the list of states shows it
abbrev pub ShowsOutput : System → List ℕ → Item → Type 0
ShowsOutput s ps (Input a) = ⊥
ShowsOutput s ps (Output a) = Shows s ps (Output a)
ShowsOutput s ps Delta = ⊥
