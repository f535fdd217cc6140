-- Promise: what the words after `outs` ask for.
use Rattle.std.specs.Prelude.{ℕ, List, [], ◌∷◌, Option, Some, None, option_map}
use Rattle.std.specs.List.{slice_get}
use Rattle.lts_base.specs.declared.divergence.Divergence.{Divergence}
use Rattle.lts_base.specs.declared.item.Mode.{Mode}
use Rattle.torx_words.specs.Accepted.{Shape}
use Rattle.torx_words.specs.Form.{Reading}
use Rattle.torx_words.specs.Meaning.{AskedSorting, sorting_of, mode_of, divergence_of, file_at}
use Rattle.torx_words.specs.Named.{sorting_from}
use Rattle.torx_words.specs.Options.{marks_option, inputs_option, divergence_option, uioco_option, plain_shape}
use Rattle.tool_base.specs.Sources.{Sources}
use Rattle.cmd_outs.specs.declared.words.Request.{Request}

-- the sorting of labels, how divergent systems are read, the conformance relation, and the names of the system's file and, where
-- there is one, of the trace's file
pub record AskedOuts : Type 0 where
  pub sorting : AskedSorting
  pub divergence : Divergence
  pub mode : Mode
  pub spec : List ℕ
  pub trace : Option (List ℕ)

-- the options, and one file or two
abbrev pub outs_shape : Shape
outs_shape = plain_shape (marks_option ∷ inputs_option ∷ divergence_option ∷ uioco_option ∷ []) 1 2

-- what a reading of the words asks for: the system is in the first file, the trace in the second
abbrev pub outs_of : Reading → AskedOuts
outs_of r = record { sorting = sorting_of r; divergence = divergence_of r; mode = mode_of r; spec = file_at 0 r; trace = slice_get r.files 1 }

-- the same, as the code has it
abbrev pub request_from : Request → AskedOuts
request_from q = record {
  sorting = sorting_from q.sorting;
  divergence = q.divergence;
  mode = q.mode;
  spec = q.spec.now;
  trace = option_map (λ (w : _). w.now) q.trace;
}

-- the file of the system, and how it is read
abbrev pub outs_sources : AskedOuts → Sources
outs_sources asked = record { names = asked.spec ∷ []; sorting = asked.sorting; divergence = asked.divergence }

-- the file of the trace, where there is one
abbrev pub trace_names : Option (List ℕ) → List (List ℕ)
trace_names None = []
trace_names (Some name) = name ∷ []
