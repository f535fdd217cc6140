-- Promise: what the words after `drive` ask for.
use Rattle.std.specs.Prelude.{ℕ, ◌-◌, ◌^◌, ◌≤◌, List, [], ◌∷◌, codes, Option, Some, None}
use Rattle.lts_base.specs.declared.divergence.Divergence.{Divergence}
use Rattle.lts_base.specs.declared.item.Mode.{Mode}
use Rattle.log_text.specs.declared.limits.TheConstants.{MOST_STEPS, MOST_PATIENCE}
use Rattle.torx_words.specs.Accepted.{Shape}
use Rattle.torx_words.specs.Form.{Reading, value_of}
use Rattle.torx_words.specs.Meaning.{AskedSorting, sorting_of, mode_of, divergence_of, number_of, file_at}
use Rattle.torx_words.specs.Named.{sorting_from}
use Rattle.torx_words.specs.Options.{marks_option, inputs_option, divergence_option, uioco_option, name_option, number_option}
use Rattle.tool_base.specs.Sources.{Sources}
use Rattle.cmd_drive.specs.declared.limits.TheConstants.{MOST_SESSION_MEMBERS, MOST_TICK, USUAL_PATIENCE, USUAL_SESSION_MEMBERS, USUAL_STEPS, USUAL_TICK}
use Rattle.cmd_drive.specs.declared.words.Guidance.{Guidance}
use Rattle.cmd_drive.specs.declared.words.Guidance.TheVariants.{Seed, Script, Goal}
use Rattle.cmd_drive.specs.declared.words.Drive.{Drive}

-- what guides the choices: a generator made from a number, the script in a file, or the trace in a file
pub data AskedGuide : Type 0 where
  by_seed : ℕ → AskedGuide
  by_script : List ℕ → AskedGuide
  by_goal : List ℕ → AskedGuide

-- the values of `--script` and `--goal` and the number of `--seed` ask for this
abbrev pub guide_by : Option (List ℕ) → Option (List ℕ) → ℕ → AskedGuide
guide_by (Some script) goal seed = by_script script
guide_by None (Some goal) seed = by_goal goal
guide_by None None seed = by_seed seed

abbrev pub guide_of : Reading → AskedGuide
guide_of r = guide_by (value_of (codes "script") r) (value_of (codes "goal") r) (number_of (codes "seed") 0 r)

-- the sorting of labels, how divergent systems are read, the conformance relation, what guides the choices, the most members of
-- the session's sets, the most items, how many idle reads in a row count as quiescence, the tick of the link, the name of the
-- specification's file, and the address of the program under test
pub record AskedDrive : Type 0 where
  pub sorting : AskedSorting
  pub divergence : Divergence
  pub mode : Mode
  pub guide : AskedGuide
  pub members : ℕ
  pub steps : ℕ
  pub patience : ℕ
  pub tick : ℕ
  pub spec : List ℕ
  pub address : List ℕ

-- the options, a file and an address
abbrev pub drive_shape : Shape
drive_shape = record {
  options = marks_option ∷ inputs_option ∷ divergence_option ∷ uioco_option ∷
      number_option (codes "members") 1 MOST_SESSION_MEMBERS ∷ number_option (codes "seed") 0 (2 ^ 64 - 1) ∷
      name_option (codes "script") ∷ name_option (codes "goal") ∷ number_option (codes "steps") 1 MOST_STEPS ∷
      number_option (codes "patience") 1 MOST_PATIENCE ∷ number_option (codes "tick") 1 MOST_TICK ∷ [];
  required = [];
  clashes = (codes "seed", codes "script") ∷ (codes "seed", codes "goal") ∷ (codes "script", codes "goal") ∷ [];
  least = 2;
  most = 2;
}

-- what a reading of the words asks for: the specification is the first file, the address stands as the second
abbrev pub drive_of : Reading → AskedDrive
drive_of r = record {
  sorting = sorting_of r;
  divergence = divergence_of r;
  mode = mode_of r;
  guide = guide_of r;
  members = number_of (codes "members") USUAL_SESSION_MEMBERS r;
  steps = number_of (codes "steps") USUAL_STEPS r;
  patience = number_of (codes "patience") USUAL_PATIENCE r;
  tick = number_of (codes "tick") USUAL_TICK r;
  spec = file_at 0 r;
  address = file_at 1 r;
}

abbrev pub guide_from : Guidance → AskedGuide
guide_from (Seed number) = by_seed number
guide_from (Script name) = by_script name.now
guide_from (Goal name) = by_goal name.now

-- the same, as the code has it
abbrev pub drive_from : Drive → AskedDrive
drive_from q = record {
  sorting = sorting_from q.sorting;
  divergence = q.divergence;
  mode = q.mode;
  guide = guide_from q.guidance;
  members = q.members;
  steps = q.steps;
  patience = q.patience;
  tick = q.tick;
  spec = q.spec.now;
  address = q.address.now;
}

-- the numbers are in their ranges
pub record IsInRange (asked : AskedDrive) : Type 0 where
  pub members : asked.members ≤ MOST_SESSION_MEMBERS
  pub steps : (1 ≤ asked.steps) × (asked.steps ≤ MOST_STEPS)
  pub patience : (1 ≤ asked.patience) × (asked.patience ≤ MOST_PATIENCE)

-- the file of the specification, and how it is read
abbrev pub drive_sources : AskedDrive → Sources
drive_sources asked = record { names = asked.spec ∷ []; sorting = asked.sorting; divergence = asked.divergence }

-- the file that guides the choices, where there is one
abbrev pub guide_names : AskedGuide → List (List ℕ)
guide_names (by_seed number) = []
guide_names (by_script name) = name ∷ []
guide_names (by_goal name) = name ∷ []
