-- Promise: what `angelic` answers. It prints the system of one file, completed by loops, as an Aldebaran file.
-- Tretmans (2008), angelic completion.
use Rattle.std.specs.Prelude.{◌≡◌, ℕ, ◌+◌, ◌≤◌, List, [], ◌∷◌, length, codes, decimal}
use Rattle.lts_base.specs.declared.divergence.Divergence.{Divergence}
use Rattle.lts_base.specs.declared.limits.TheConstants.{MOST_MOVES}
use Rattle.lts_base.specs.Alphabet.{Alphabet}
use Rattle.lts_base.specs.System.{System, IsSystem}
use Rattle.lts_shape.specs.Angelic.{IsAngelic, RefusesAngelic}
use Rattle.lts_shape.specs.declared.completion.ShapeError.TheVariants.{TooManyMoves as NoRoomForMoves}
use Rattle.aut_text.specs.Printed.{printed}
use Rattle.trace_text.specs.Lines.{line}
use Rattle.torx_words.specs.Accepted.{Shape}
use Rattle.torx_words.specs.Form.{Reading}
use Rattle.torx_words.specs.Meaning.{AskedSorting, sorting_of, divergence_of, file_at}
use Rattle.torx_words.specs.Options.{marks_option, inputs_option, divergence_option, plain_shape}
use Rattle.tool_base.specs.Contents.{Contents}
use Rattle.tool_base.specs.Sources.{Sources, AreSystems, RefusesSources, all_names}
use Rattle.tool_base.specs.Pages.{Page, Command}
use Rattle.cmd_angelic.specs.declared.outcome.AngelicOutcome.{AngelicOutcome}
use Rattle.cmd_angelic.specs.declared.outcome.AngelicOutcome.TheVariants.{Printed, TooManyMoves}

-- the form of the words: `angelic [--marks prefix|suffix | --inputs FILE] [--divergence refuse|quiet] FILE`
abbrev pub angelic_shape : Shape
angelic_shape = plain_shape (marks_option ∷ inputs_option ∷ divergence_option ∷ []) 1 1

-- what the words ask for: how labels are sorted, how cycles of moves with Tau are read, and the system's file
pub record AskedAngelic : Type 0 where
  pub sorting : AskedSorting
  pub divergence : Divergence
  pub file : List ℕ

abbrev pub angelic_of : Reading → AskedAngelic
angelic_of r = record { sorting = sorting_of r; divergence = divergence_of r; file = file_at 0 r }

-- the system that is completed
abbrev pub source_of : AskedAngelic → Sources
source_of asked = record { names = asked.file ∷ []; sorting = asked.sorting; divergence = asked.divergence }

-- t is the completion of s, with its moves sorted, and has at most `MOST_MOVES` moves
pub record IsPrintable (s t : System) : Type 0 where
  pub completion : IsAngelic s t
  pub sound : IsSystem t
  pub within : length t.moves ≤ MOST_MOVES

-- the answer for the system s: the text of its completion; or, where that has too many moves, one move more than the limit
abbrev pub IsCompletion : Alphabet → System → AngelicOutcome → List ℕ → Type 0
IsCompletion a s Printed text = (t : System) × IsPrintable s t × (text ≡ printed a t)
IsCompletion a s (TooManyMoves reached) text = RefusesAngelic s NoRoomForMoves × (reached ≡ MOST_MOVES + 1) × (text ≡ line (codes "limit moves=") (decimal reached))

-- the answer for the system s of the file, over its alphabet a
pub record IsCompletionOf (contents : Contents) (asked : AskedAngelic) (outcome : AngelicOutcome) (text : List ℕ) : Type 0 where
  pub alphabet : Alphabet
  pub system : System
  pub read : AreSystems contents (source_of asked) alphabet (system ∷ [])
  pub answer : IsCompletion alphabet system outcome text

abbrev pub angelic_page : Contents → AskedAngelic → Page AngelicOutcome
angelic_page contents asked = record {
  names = all_names (source_of asked);
  refuses = RefusesSources contents (source_of asked);
  answers = IsCompletionOf contents asked;
}

abbrev pub angelic_command : Command AskedAngelic AngelicOutcome
angelic_command = record { shape = angelic_shape; asked = angelic_of; page = angelic_page }
