-- Private: what the code's own types say, and what its pieces answer.
use Rattle.std.specs.Prelude.{◌≡◌, ◌+◌, codes, decimal}
use Rattle.lts_base.specs.declared.limits.TheConstants.{MOST_MOVES}
use Rattle.lts_base.specs.Alphabet.{Alphabet}
use Rattle.lts_base.specs.System.{System, IsSystem}
use Rattle.aut_text.specs.Printed.{printed}
use Rattle.trace_text.specs.Lines.{line}
use Rattle.torx_words.specs.Named.{sorting_from}
use Rattle.tool_base.specs.declared.report.Report.{Report}
use Rattle.cmd_angelic.specs.declared.outcome.AngelicOutcome.{AngelicOutcome}
use Rattle.cmd_angelic.specs.declared.outcome.AngelicOutcome.TheVariants.{Printed, TooManyMoves}
use Rattle.cmd_angelic.specs.declared.words.Request.{Request}
use Rattle.cmd_angelic.specs.Angelic.{AskedAngelic}

abbrev pub request_from : Request → AskedAngelic
request_from q = record { sorting = sorting_from q.sorting; divergence = q.divergence; file = q.file.now }

-- the report is the text of the system, whose moves are sorted
pub record IsPrintedReport (a : Alphabet) (s : System) (report : Report AngelicOutcome) : Type 0 where
  pub sound : IsSystem s
  pub outcome : report.outcome ≡ Printed
  pub text : report.text ≡ printed a s

-- the report says that there are too many moves
pub record IsLimitReport (report : Report AngelicOutcome) : Type 0 where
  pub outcome : report.outcome ≡ TooManyMoves (MOST_MOVES + 1)
  pub text : report.text ≡ line (codes "limit moves=") (decimal (MOST_MOVES + 1))
