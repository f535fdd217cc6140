-- Promise: what guides the choices of a session.
use Rattle.std.specs.Prelude.{◌≡◌, ℕ, List, Option, Some, None}
use Rattle.lts_base.specs.declared.item.Item.{Item}
use Rattle.lts_base.specs.Alphabet.{Alphabet}
use Rattle.walk_core.specs.declared.choice.Choice.{Choice}
use Rattle.session_core.specs.Answered.{drawn, line_at, line_next, toward}
use Rattle.rand_core.specs.Pcg32Seed.{pcg32_seed}
use Rattle.rand_pcg.specs.Pcg.{pcg32, pcg32_of_seed}
use Rattle.tool_base.specs.declared.refusal.Refusal.{Refusal}
use Rattle.tool_base.specs.Contents.{Contents}
use Rattle.tool_base.specs.Kinds.{IsFile, RefusesFile, goal_kind, script_kind}
use Rattle.cmd_drive.specs.declared.guide.Guide.{Guide}
use Rattle.cmd_drive.specs.declared.guide.Guide.TheVariants.{Seeded, Scripted, Guided}
use Rattle.cmd_drive.specs.Asked.{AskedGuide, by_seed, by_script, by_goal}

-- the choice, and the chooser after it: one that draws takes a word for each choice; one with a script goes to its next line;
-- one with a trace gives the trace's next input, where the items done are a front of it
abbrev pub answer_of : Guide → List ℕ → List Item → Choice × Guide
answer_of (Seeded s) offers items = let draw = pcg32 s.rng in (drawn offers draw.0, Seeded (record { rng = draw.1 }))
answer_of (Scripted s) offers items = (line_at s.script s.at, Scripted (record { script = s.script; at = line_next s.script s.at }))
answer_of (Guided s) offers items = (toward s.goal items, Guided s)

-- a generator made from a number
abbrev pub seeded : ℕ → Guide
seeded number = Seeded (record { rng = pcg32_of_seed (pcg32_seed 16 number) })

-- the chooser that is asked for, and the goal of the session, where it has one, by the files
abbrev pub IsGuide : Contents → Alphabet → ℕ → AskedGuide → Guide → Option (List Item) → Type 0
IsGuide contents a steps (by_seed number) guide goal = (guide ≡ seeded number) × (goal ≡ None)
IsGuide contents a steps (by_script name) guide goal = (script : List Choice) × IsFile (script_kind a) contents name script ×
    (guide ≡ Scripted (record { script = script; at = 0 })) × (goal ≡ None)
IsGuide contents a steps (by_goal name) guide goal = (σ : List Item) × IsFile (goal_kind a steps) contents name σ ×
    (guide ≡ Guided (record { goal = σ })) × (goal ≡ Some σ)

-- the file of the script or of the goal is refused for this
abbrev pub RefusesGuide : Contents → Alphabet → ℕ → AskedGuide → Refusal → Type 0
RefusesGuide contents a steps (by_seed number) r = ⊥
RefusesGuide contents a steps (by_script name) r = RefusesFile (script_kind a) contents name r
RefusesGuide contents a steps (by_goal name) r = RefusesFile (goal_kind a steps) contents name r
