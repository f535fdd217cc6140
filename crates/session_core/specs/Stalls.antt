-- Promise: a session stalls over idle answers of its link alone.
use Rattle.std.specs.Prelude.{◌≡◌, ◌⊎◌}
use Rattle.edge_io.specs.Links.{ToldLink, LinkIdles}
use Rattle.session_core.specs.declared.phase.Phase.{Phase}
use Rattle.session_core.specs.declared.phase.Phase.TheVariants.{Done}
use Rattle.session_core.specs.declared.verdict.Verdict.TheVariants.{Stalled}

-- from one phase and what the link told then to another: where the session has stalled, it had before, or the count of the
-- link's idle answers rose
abbrev pub StallsIdle : Phase → ToldLink → Phase → ToldLink → Type 0
StallsIdle p old q new = q ≡ Done Stalled → (p ≡ Done Stalled) ⊎ LinkIdles old new
