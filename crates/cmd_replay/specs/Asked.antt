-- Promise: what the words after `replay` and after `migrate` ask for.
use Rattle.std.specs.Prelude.{ℕ, List, [], ◌∷◌}
use Rattle.lts_base.specs.declared.divergence.Divergence.{Divergence}
use Rattle.torx_words.specs.Accepted.{Shape}
use Rattle.torx_words.specs.Form.{Reading}
use Rattle.torx_words.specs.Meaning.{AskedSorting, sorting_of, divergence_of, file_at}
use Rattle.torx_words.specs.Named.{sorting_from}
use Rattle.torx_words.specs.Options.{marks_option, inputs_option, divergence_option, plain_shape}
use Rattle.tool_base.specs.Sources.{Sources}
use Rattle.cmd_replay.specs.declared.words.Request.{Request}

-- the sorting of labels, how divergent systems are read, and the names of the specification's file and of the file of logs
pub record AskedReplay : Type 0 where
  pub sorting : AskedSorting
  pub divergence : Divergence
  pub spec : List ℕ
  pub logs : List ℕ

-- the options, and two files
abbrev pub replay_shape : Shape
replay_shape = plain_shape (marks_option ∷ inputs_option ∷ divergence_option ∷ []) 2 2

-- what a reading of the words asks for: the specification is in the first file, the logs in the second
abbrev pub replay_of : Reading → AskedReplay
replay_of r = record { sorting = sorting_of r; divergence = divergence_of r; spec = file_at 0 r; logs = file_at 1 r }

-- the same, as the code has it
abbrev pub request_from : Request → AskedReplay
request_from q = record { sorting = sorting_from q.sorting; divergence = q.divergence; spec = q.spec.now; logs = q.logs.now }

-- the file of the specification, and how it is read
abbrev pub replay_sources : AskedReplay → Sources
replay_sources asked = record { names = asked.spec ∷ []; sorting = asked.sorting; divergence = asked.divergence }
