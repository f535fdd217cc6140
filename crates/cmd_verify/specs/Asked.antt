-- Promise: what the words after `verify` ask for.
use Rattle.std.specs.Prelude.{ℕ, List, [], ◌∷◌}
use Rattle.lts_base.specs.declared.divergence.Divergence.{Divergence}
use Rattle.torx_words.specs.Accepted.{Shape}
use Rattle.torx_words.specs.Form.{Reading}
use Rattle.torx_words.specs.Meaning.{AskedSorting, sorting_of, divergence_of, file_at}
use Rattle.torx_words.specs.Named.{sorting_from}
use Rattle.torx_words.specs.Options.{marks_option, inputs_option, divergence_option, plain_shape}
use Rattle.tool_base.specs.Sources.{Sources}
use Rattle.cmd_verify.specs.declared.words.Request.{Request}

-- the sorting of labels, how divergent systems are read, and the names of the files of the specification, of the implementation
-- and of the certificate
pub record AskedVerify : Type 0 where
  pub sorting : AskedSorting
  pub divergence : Divergence
  pub spec : List ℕ
  pub imp : List ℕ
  pub cert : List ℕ

-- the options, and three files
abbrev pub verify_shape : Shape
verify_shape = plain_shape (marks_option ∷ inputs_option ∷ divergence_option ∷ []) 3 3

-- what a reading of the words asks for
abbrev pub verify_of : Reading → AskedVerify
verify_of r = record { sorting = sorting_of r; divergence = divergence_of r; spec = file_at 0 r; imp = file_at 1 r; cert = file_at 2 r }

-- the same, as the code has it
abbrev pub request_from : Request → AskedVerify
request_from q = record {
  sorting = sorting_from q.sorting;
  divergence = q.divergence;
  spec = q.spec.now;
  imp = q.imp.now;
  cert = q.cert.now;
}

-- the files of the systems, and how they are read
abbrev pub verify_sources : AskedVerify → Sources
verify_sources asked = record { names = asked.spec ∷ asked.imp ∷ []; sorting = asked.sorting; divergence = asked.divergence }
