-- Promise: what the words after `rehearse` ask for.
use Rattle.std.specs.Prelude.{ℕ, ◌-◌, ◌^◌, ◌≤◌, List, [], ◌∷◌, codes}
use Rattle.lts_base.specs.declared.divergence.Divergence.{Divergence}
use Rattle.lts_base.specs.declared.item.Mode.{Mode}
use Rattle.log_text.specs.declared.limits.TheConstants.{MOST_STEPS, MOST_PATIENCE}
use Rattle.torx_words.specs.Accepted.{Shape}
use Rattle.torx_words.specs.Form.{Reading}
use Rattle.torx_words.specs.Meaning.{AskedSorting, sorting_of, mode_of, divergence_of, number_of, file_at}
use Rattle.torx_words.specs.Named.{sorting_from}
use Rattle.torx_words.specs.Options.{marks_option, inputs_option, divergence_option, uioco_option, number_option, plain_shape}
use Rattle.tool_base.specs.Sources.{Sources}
use Rattle.cmd_drive.specs.declared.limits.TheConstants.{MOST_SESSION_MEMBERS, USUAL_PATIENCE, USUAL_SESSION_MEMBERS, USUAL_STEPS}
use Rattle.cmd_drive.specs.declared.rehearse_words.Rehearse.{Rehearse}

-- the sorting of labels, how divergent systems are read, the conformance relation, the number of the generator that makes the
-- choices, the most members of the session's sets, the most items, how many idle hearings in a row count as quiescence, and the
-- names of the files of the specification and of the implementation
pub record AskedRehearse : Type 0 where
  pub sorting : AskedSorting
  pub divergence : Divergence
  pub mode : Mode
  pub seed : ℕ
  pub members : ℕ
  pub steps : ℕ
  pub patience : ℕ
  pub spec : List ℕ
  pub imp : List ℕ

-- the options and two files
abbrev pub rehearse_shape : Shape
rehearse_shape = plain_shape (marks_option ∷ inputs_option ∷ divergence_option ∷ uioco_option ∷
    number_option (codes "members") 1 MOST_SESSION_MEMBERS ∷ number_option (codes "seed") 0 (2 ^ 64 - 1) ∷
    number_option (codes "steps") 1 MOST_STEPS ∷ number_option (codes "patience") 1 MOST_PATIENCE ∷ []) 2 2

-- what a reading of the words asks for: the specification is the first file, the implementation the second
abbrev pub rehearse_of : Reading → AskedRehearse
rehearse_of r = record {
  sorting = sorting_of r;
  divergence = divergence_of r;
  mode = mode_of r;
  seed = number_of (codes "seed") 0 r;
  members = number_of (codes "members") USUAL_SESSION_MEMBERS r;
  steps = number_of (codes "steps") USUAL_STEPS r;
  patience = number_of (codes "patience") USUAL_PATIENCE r;
  spec = file_at 0 r;
  imp = file_at 1 r;
}

-- the same, as the code has it
abbrev pub rehearse_from : Rehearse → AskedRehearse
rehearse_from q = record {
  sorting = sorting_from q.sorting;
  divergence = q.divergence;
  mode = q.mode;
  seed = q.seed;
  members = q.members;
  steps = q.steps;
  patience = q.patience;
  spec = q.spec.now;
  imp = q.imp.now;
}

-- the numbers are in their ranges
pub record IsRehearseInRange (asked : AskedRehearse) : Type 0 where
  pub seed : asked.seed ≤ 2 ^ 64 - 1
  pub members : asked.members ≤ MOST_SESSION_MEMBERS
  pub steps : (1 ≤ asked.steps) × (asked.steps ≤ MOST_STEPS)
  pub patience : (1 ≤ asked.patience) × (asked.patience ≤ MOST_PATIENCE)

-- the files of the specification and of the implementation, and how they are read
abbrev pub rehearse_sources : AskedRehearse → Sources
rehearse_sources asked = record { names = asked.spec ∷ asked.imp ∷ []; sorting = asked.sorting; divergence = asked.divergence }
