-- Promise: what `outs` answers, and when: the states that a trace leads to, what they show and which inputs they allow.
-- Tretmans (2008), `after`, `out`, Straces and Utraces.
use Rattle.std.specs.Prelude.{◌≡◌, ℕ, ◌-◌, ◌<◌, ◌≤◌, List, [], ◌∷◌, ◌++◌, length, map, take, All, Contains, codes, decimal, Option, Some, None, ◌⊎◌}
use Rattle.std.specs.List.Sorted.{IsStrictlyIncreasing}
use Rattle.lts_base.specs.declared.item.Item.{Item}
use Rattle.lts_base.specs.declared.item.Item.TheVariants.{Input, Output, Delta}
use Rattle.lts_base.specs.declared.item.Mode.{Mode}
use Rattle.lts_base.specs.System.{System, label_count}
use Rattle.lts_base.specs.After.{IsSetAfter, Shows, Allows}
use Rattle.lts_base.specs.Alphabet.{Alphabet}
use Rattle.lts_base.specs.Conformance.{IsAllowed}
use Rattle.lts_base.specs.Order.{place}
use Rattle.trace_text.specs.Lines.{line, items_text}
use Rattle.tool_base.specs.declared.refusal.Refusal.{Refusal}
use Rattle.tool_base.specs.Contents.{Contents}
use Rattle.tool_base.specs.Kinds.{IsFile, RefusesFile, trace_kind}
use Rattle.tool_base.specs.Sources.{AreSystems, RefusesSources, all_names}
use Rattle.tool_base.specs.Pages.{Page, Command}
use Rattle.tool_base.specs.Texts.{states_text}
use Rattle.cmd_outs.specs.declared.outcome.OutsOutcome.{OutsOutcome}
use Rattle.cmd_outs.specs.declared.outcome.OutsOutcome.TheVariants.{Printed, Absent}
use Rattle.cmd_outs.specs.Asked.{AskedOuts, outs_shape, outs_of, outs_sources, trace_names}

-- the file of the trace is read as this trace over the alphabet; without a file it is the empty trace
abbrev pub IsTraceOf : Contents → Alphabet → Option (List ℕ) → List Item → Type 0
IsTraceOf contents a None σ = σ ≡ []
IsTraceOf contents a (Some name) σ = IsFile (trace_kind a) contents name σ

-- the file of the trace is refused for this
abbrev pub RefusesTraceOf : Contents → Alphabet → Option (List ℕ) → Refusal → Type 0
RefusesTraceOf contents a None r = ⊥
RefusesTraceOf contents a (Some name) r = RefusesFile (trace_kind a) contents name r

-- place k of the trace, counted from 1, is the first at which a prefix ends that isn't allowed
pub record IsFirstAbsent (mode : Mode) (s : System) (σ : List Item) (k : ℕ) : Type 0 where
  pub some : 0 < k
  pub within : k ≤ length σ
  pub before : IsAllowed mode s (take (k - 1) σ)
  pub absent : ¬ IsAllowed mode s (take k σ)

-- the items are exactly those with P, in the order of an alphabet with n labels
pub record AreItemsWith (P : Item → Type 0) (n : ℕ) (items : List Item) : Type 0 where
  pub rising : IsStrictlyIncreasing (map (place n) items)
  pub each : All P items
  pub all : (x : Item) → P x → Contains items x

-- the item is an input, and the list of states allows it
abbrev pub AllowsInput : Mode → System → List ℕ → Item → Type 0
AllowsInput mode s ps (Input a) = (a < s.inputs) × Allows mode s ps (Input a)
AllowsInput mode s ps (Output a) = ⊥
AllowsInput mode s ps Delta = ⊥

-- a line with the states, one for each item that they show, and one for each input that they allow
abbrev pub offers_text : List (List ℕ) → List ℕ → List Item → List Item → List ℕ
offers_text texts states shown inputs =
    codes "states" ++ (states_text states ++ (10 ∷ [] ++ (items_text (codes "shows ") texts shown ++ items_text (codes "input ") texts inputs)))

-- this is the text of what the states show and allow: all that they show, and all inputs that they allow
abbrev pub IsOffersText : Mode → Alphabet → System → List ℕ → List ℕ → Type 0
IsOffersText mode a s states text = (shown : List Item) × (inputs : List Item) × AreItemsWith (Shows s states) (label_count s) shown ×
    AreItemsWith (AllowsInput mode s states) (label_count s) inputs × (text ≡ offers_text a.texts states shown inputs)

-- the answer for the trace: the first place whose prefix isn't allowed; or else the states that the trace leads to, what they show
-- and the inputs that they allow
abbrev pub IsOffered : Mode → Alphabet → System → List Item → OutsOutcome → List ℕ → Type 0
IsOffered mode a s σ (Absent k) text = IsFirstAbsent mode s σ k × (text ≡ line (codes "absent ") (decimal k))
IsOffered mode a s σ Printed text = IsAllowed mode s σ × ((states : List ℕ) × IsSetAfter s σ states × IsOffersText mode a s states text)

-- the system of the file is had, over its alphabet a, but the file of the trace is refused
pub record RefusesOuts (contents : Contents) (asked : AskedOuts) (r : Refusal) : Type 0 where
  pub a : Alphabet
  pub s : System
  pub systems : AreSystems contents (outs_sources asked) a (s ∷ [])
  pub refused : RefusesTraceOf contents a asked.trace r

-- the answer and its text for the files
pub record AnswersOuts (contents : Contents) (asked : AskedOuts) (outcome : OutsOutcome) (text : List ℕ) : Type 0 where
  pub a : Alphabet
  pub s : System
  pub σ : List Item
  pub systems : AreSystems contents (outs_sources asked) a (s ∷ [])
  pub trace : IsTraceOf contents a asked.trace σ
  pub offered : IsOffered asked.mode a s σ outcome text

abbrev pub outs_page : Contents → AskedOuts → Page OutsOutcome
outs_page contents asked = record {
  names = all_names (outs_sources asked) ++ trace_names asked.trace;
  refuses = λ r. RefusesSources contents (outs_sources asked) r ⊎ RefusesOuts contents asked r;
  answers = AnswersOuts contents asked;
}

abbrev pub outs_command : Command AskedOuts OutsOutcome
outs_command = record { shape = outs_shape; asked = outs_of; page = outs_page }
