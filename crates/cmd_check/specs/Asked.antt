-- Promise: what the words after `check` ask for.
use Rattle.std.specs.Prelude.{ℕ, Bool, List, [], ◌∷◌, codes}
use Rattle.lts_base.specs.declared.divergence.Divergence.{Divergence}
use Rattle.lts_base.specs.declared.item.Mode.{Mode}
use Rattle.lts_base.specs.declared.limits.TheConstants.{MOST_PAIRS, USUAL_PAIRS, MOST_MEMBERS, USUAL_MEMBERS}
use Rattle.lts_base.specs.Reached.{Limits}
use Rattle.torx_words.specs.Accepted.{Shape}
use Rattle.torx_words.specs.Form.{Reading, stands}
use Rattle.torx_words.specs.Meaning.{AskedSorting, sorting_of, mode_of, divergence_of, number_of, file_at}
use Rattle.torx_words.specs.Named.{sorting_from}
use Rattle.torx_words.specs.Options.{marks_option, inputs_option, divergence_option, uioco_option, flag_option, number_option, plain_shape}
use Rattle.tool_base.specs.Sources.{Sources}
use Rattle.cmd_check.specs.declared.words.Check.{Check}

-- the sorting of labels, how divergent systems are read, the conformance relation, whether the implementation has to be
-- input-enabled, whether a certificate is to be printed, the most pairs, the most members of the sets of each side, and the
-- names of the two files
pub record AskedCheck : Type 0 where
  pub sorting : AskedSorting
  pub divergence : Divergence
  pub mode : Mode
  pub enabled : Bool
  pub cert : Bool
  pub pairs : ℕ
  pub members : ℕ
  pub spec : List ℕ
  pub imp : List ℕ

-- the options, and two files
abbrev pub check_shape : Shape
check_shape = plain_shape (marks_option ∷ inputs_option ∷ divergence_option ∷ uioco_option ∷
    flag_option (codes "enabled") ∷ flag_option (codes "cert") ∷
    number_option (codes "pairs") 1 MOST_PAIRS ∷ number_option (codes "members") 1 MOST_MEMBERS ∷ []) 2 2

-- what a reading of the words asks for: the specification is the first file
abbrev pub check_of : Reading → AskedCheck
check_of r = record {
  sorting = sorting_of r;
  divergence = divergence_of r;
  mode = mode_of r;
  enabled = stands (codes "enabled") r;
  cert = stands (codes "cert") r;
  pairs = number_of (codes "pairs") USUAL_PAIRS r;
  members = number_of (codes "members") USUAL_MEMBERS r;
  spec = file_at 0 r;
  imp = file_at 1 r;
}

-- the same, as the code has it
abbrev pub check_from : Check → AskedCheck
check_from c = record {
  sorting = sorting_from c.sorting;
  divergence = c.divergence;
  mode = c.mode;
  enabled = c.enabled;
  cert = c.cert;
  pairs = c.pairs;
  members = c.members;
  spec = c.spec.now;
  imp = c.imp.now;
}

-- the files of the systems, and how they are read
abbrev pub check_sources : AskedCheck → Sources
check_sources asked = record { names = asked.spec ∷ asked.imp ∷ []; sorting = asked.sorting; divergence = asked.divergence }

-- the limits of the decision; that of members counts for each side
abbrev pub limits_asked : AskedCheck → Limits
limits_asked asked = record { pairs = asked.pairs; imp = asked.members; spec = asked.members }
