-- Promise: how a simulated implementation serves a session over a stream of lines.
use Rattle.std.specs.Prelude.{ℕ}
use Rattle.lts_base.specs.Alphabet.{Alphabet}
use Rattle.lts_base.specs.System.{System}
use Rattle.line_link.specs.Hearing.{Pending, GivesLine}
use Rattle.sim_core.specs.declared.serving.Served.{Served}
use Rattle.sim_core.specs.Acts.{Simulated}
use Rattle.sim_core.specs.Linked.{begun}
use Rattle.sim_core.specs.Served.{IsServed}

-- a session that a simulation of the system, over these labels and by this generator, serves from its start
abbrev pub IsSessionServed : {R : Type 0} → (R → ℕ × R) → ℕ → System → Alphabet → R → Pending → Served → Pending → Type 0
IsSessionServed {R} step most s a rng p served q = (y : Simulated R) × IsServed GivesLine step most (record { sim = (begun s a rng).simulated; link = p }) served (record { sim = y; link = q })
